-- Files of parts.
use Rattle.std.specs.Prelude.{◌≡◌, ◌-◌, ◌++◌, Bool, true, false, List, replicate, slice_get, slice_set, Option, Some, None}
use Rattle.order_outcomes.specs.declared.part_file.PartHead.{PartHead}

-- two parts are of one exploration: of the same programs, under the same limits, and of as many parts
pub record AreOfOne (a b : PartHead) : Type 0 where
  pub programs : a.programs ≡ b.programs
  pub instructions : a.instructions ≡ b.instructions
  pub states : a.states ≡ b.states
  pub calls : a.calls ≡ b.calls
  pub parts : a.part.of ≡ b.part.of

-- the first part that was read, where this is the next one
abbrev pub first_of : Option PartHead → PartHead → PartHead
first_of None head = head
first_of (Some first) head = first

-- whether each part was read, before this one: as many parts as the first says
abbrev pub marks_of : Option PartHead → List Bool → PartHead → List Bool
marks_of None read head = read ++ replicate head.part.of false
marks_of (Some first) read head = read

-- A part is noted: it is of the same exploration as the first one, it was not read before, and now it was. Of the others nothing is changed.
pub record IsNoted (first : Option PartHead) (read : List Bool) (head : PartHead) (first_now : Option PartHead) (read_now : List Bool) : Type 0 where
  pub first_is : first_now ≡ Some (first_of first head)
  pub same : AreOfOne (first_of first head) head
  pub fresh : slice_get (marks_of first read head) (head.part.number - 1) ≡ Some false
  pub marked : read_now ≡ slice_set (marks_of first read head) (head.part.number - 1) true
