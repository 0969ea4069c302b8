-- What the steps of pipes make of what is seen of them.
use Rattle.std.specs.Prelude.{ℕ, ◌+◌, ◌-◌, ◌^◌, ◌<◌, ◌≤◌, List, [], ◌∷◌, ◌++◌, length, drop, slice_get, slice_set, Option, Some, None}
use Rattle.std.specs.Option.{ForSome}
use Rattle.kernel_model.specs.Rows.{pipe_size, most_pipes}
use Rattle.kernel_model.specs.State.{PipeState, new_pipe}
use Rattle.kernel_model.specs.declared.descriptor.PipeEnd.TheVariants.{Read, Write}
use Rattle.kernel_model.specs.declared.effect.PipeStep.{PipeStep}
use Rattle.kernel_model.specs.declared.effect.PipeStep.TheVariants.{Open, Put, Take, Add, Drop}
use Rattle.pipes.specs.Seen.{Seen, seen_of}

-- the pipes where pipe k, if it is there, is now what f makes of it
abbrev pub seen_with : List Seen → ℕ → Option Seen → (Seen → Seen) → List Seen
seen_with seen k None f = seen
seen_with seen k (Some p) f = slice_set seen k (f p)

-- the pipes, as they are seen, after one step
abbrev pub seen_after : List Seen → PipeStep → List Seen
seen_after seen Open = seen ++ seen_of new_pipe ∷ []
seen_after seen (Put k bytes) = seen_with seen k (slice_get seen k) (λ p. record p { held = p.held ++ bytes })
seen_after seen (Take k count) = seen_with seen k (slice_get seen k) (λ p. record p { held = drop count p.held })
seen_after seen (Add (Read k)) = seen_with seen k (slice_get seen k) (λ p. record p { readers = p.readers + 1 })
seen_after seen (Add (Write k)) = seen_with seen k (slice_get seen k) (λ p. record p { writers = p.writers + 1 })
seen_after seen (Drop (Read k)) = seen_with seen k (slice_get seen k) (λ p. record p { readers = p.readers - 1 })
seen_after seen (Drop (Write k)) = seen_with seen k (slice_get seen k) (λ p. record p { writers = p.writers - 1 })

-- A step for which there is room. There are fewer pipes than there may be; the bytes that are written fit into their pipe; those
-- that are read are held; one more descriptor of an end can be counted. A step of a pipe that is not there changes nothing, and may
-- always come.
abbrev pub MayStep : List Seen → PipeStep → Type 0
MayStep seen Open = length seen < most_pipes
MayStep seen (Put k bytes) = ForSome (slice_get seen k) (λ p. length p.held + length bytes ≤ pipe_size)
MayStep seen (Take k count) = ForSome (slice_get seen k) (λ p. count ≤ length p.held)
MayStep seen (Add (Read k)) = ForSome (slice_get seen k) (λ p. p.readers + 1 < 2 ^ 64)
MayStep seen (Add (Write k)) = ForSome (slice_get seen k) (λ p. p.writers + 1 < 2 ^ 64)
MayStep seen (Drop end) = Unit {0}

-- at most n descriptors stand for each end of a pipe
abbrev pub HasAtMost : ℕ → PipeState → Type 0
HasAtMost n p = (p.readers ≤ n) × (p.writers ≤ n)
