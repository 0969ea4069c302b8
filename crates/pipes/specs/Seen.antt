-- What is seen of pipes: of all bytes ever written to each, those alone that it still holds.
use Rattle.std.specs.Prelude.{◌≡◌, ℕ, ◌≤◌, List, length, map}
use Rattle.std.specs.List.{AllByRecursion}
use Rattle.kernel_model.specs.State.{PipeState, unread}

-- the bytes that a pipe holds, the next to be read first, and how many descriptors stand for each of its ends
pub record Seen : Type 0 where
  pub held : List ℕ
  pub readers : ℕ
  pub writers : ℕ

-- what is seen of a pipe
abbrev pub seen_of : PipeState → Seen
seen_of p = record { held = unread p; readers = p.readers; writers = p.writers }

-- no more bytes of a pipe were read than were written to it
abbrev pub IsWithin : PipeState → Type 0
IsWithin p = p.taken ≤ length p.written

-- This is what is seen of the pipes, and no more bytes of each were read than were written to it.
pub record Shows (pipes : List PipeState) (seen : List Seen) : Type 0 where
  pub shown : seen ≡ map seen_of pipes
  pub within : AllByRecursion IsWithin pipes
