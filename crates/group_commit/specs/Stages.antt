-- What a committer keeps of the stages to come.
use Rattle.std.specs.Prelude.{ℕ, ◌+◌, List, [], ◌∷◌, length, Vec}
use Rattle.std.specs.declared.alloc.Global.{Global}
use Rattle.disk_model.specs.declared.change.Piece.{Piece}
use Rattle.simdisk.specs.Room.{AreSpaced}

-- the pieces of each stage
abbrev pub items_of : List (Vec Piece Global) → List (List Piece)
items_of [] = []
items_of (v ∷ vs) = v.items ∷ items_of vs

-- there is room on the disk for each stage
abbrev pub AllSpaced : List (List Piece) → Type 0
AllSpaced [] = Unit {0}
AllSpaced (ps ∷ pss) = AreSpaced 2097152 ps × AllSpaced pss

-- how many writes these stages are
abbrev pub length_all : List (List Piece) → ℕ
length_all [] = 0
length_all (ps ∷ pss) = length ps + length_all pss
