-- The pieces of stages that are copied one after the other.
use Rattle.std.proofs.Common.{◌≡◌, ℕ, zero, suc, List, [], ◌∷◌, ◌++◌, length, get_or, refl, ap}
use Rattle.std.specs.Global.{Vec}
use Rattle.disk_model.specs.declared.change.Piece.{Piece}
use Rattle.group_commit.specs.Stages.{items_of}

pub items-append : (vs ws : List (Vec Piece)) → items_of (vs ++ ws) ≡ items_of vs ++ items_of ws
items-append [] ws = refl
items-append (v ∷ vs) ws = ap (λ (ps : List (List Piece)). v.items ∷ ps) (items-append vs ws)

pub items-length : (vs : List (Vec Piece)) → length (items_of vs) ≡ length vs
items-length [] = refl
items-length (v ∷ vs) = ap (λ n. suc n) (items-length vs)

pub items-get : (vs : List (Vec Piece)) (i : ℕ) (v : Vec Piece) → get_or (items_of vs) i v.items ≡ (get_or vs i v).items
items-get [] i v = refl
items-get (w ∷ vs) zero v = refl
items-get (w ∷ vs) (suc i) v = items-get vs i v
