-- How many descriptors stand for an end of a pipe.
use Rattle.std.specs.Prelude.{ℕ, ◌+◌, ◌==◌, Bool, false, if◌then◌else◌, List, [], ◌∷◌, Option, Some, None, is_some}
use Rattle.kernel_model.specs.State.{Process}
use Rattle.kernel_model.specs.declared.descriptor.Descriptor.{Descriptor}
use Rattle.kernel_model.specs.declared.descriptor.Descriptor.TheVariants.{Tape, Terminal, File, Pipe}
use Rattle.kernel_model.specs.declared.descriptor.PipeEnd.{PipeEnd}
use Rattle.kernel_model.specs.declared.descriptor.PipeEnd.TheVariants.{Read, Write}

-- two ends are one: of one pipe, and both to read or both to write
abbrev pub is_same_end : PipeEnd → PipeEnd → Bool
is_same_end (Read a) (Read b) = a == b
is_same_end (Read a) (Write b) = false
is_same_end (Write a) (Read b) = false
is_same_end (Write a) (Write b) = a == b

-- a descriptor stands for this end
abbrev pub stands_for : PipeEnd → Option Descriptor → Bool
stands_for end (Some (Pipe other)) = is_same_end end other
stands_for end (Some (Tape t)) = false
stands_for end (Some (Terminal t)) = false
stands_for end (Some (File file offset writes)) = false
stands_for end None = false

-- how many of these descriptors stand for this end
abbrev pub count_among : PipeEnd → List (Option Descriptor) → ℕ
count_among end [] = 0
count_among end (d ∷ ds) = (if stands_for end d then 1 else 0) + count_among end ds

-- how many descriptors of a process stand for this end; those of a process that has ended do not count
abbrev pub count_of : PipeEnd → Process → ℕ
count_of end p = if is_some p.status then 0 else count_among end p.descriptors

-- how many descriptors stand for this end, over all of these processes that have not ended
abbrev pub count_held : PipeEnd → List Process → ℕ
count_held end [] = 0
count_held end (p ∷ ps) = count_of end p + count_held end ps
