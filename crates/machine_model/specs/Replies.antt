-- The state after a call's reply.
use Rattle.std.specs.Prelude.{ℕ, ◌+◌, slice_set, Option, Some, None}
use Rattle.memory_model.specs.Access.{put_bytes}
use Rattle.machine_model.specs.Effects.{next_pc}
use Rattle.machine_model.specs.States.{State, architectural, state}
use Rattle.machine_model.specs.First.{first_state}
use Rattle.machine_model.specs.Images.{Program}
use Rattle.machine_model.specs.declared.reply.Reply.{Reply}

-- the state in which a process goes on in a program that its call executes: the program's first state, while the count goes on
abbrev pub in_image : State → Program → State
in_image s p = state (first_state p).architectural (s.count + 1)

-- A reply without an image sets a0 and places its bytes, and the call counts as one instruction. One with an image enters it.
abbrev pub replied_by : State → Reply → Option Program → State
replied_by s r None = state (architectural (slice_set s.architectural.registers 10 r.a0) (next_pc s.architectural) (put_bytes s.architectural.memory r.at r.bytes)) (s.count + 1)
replied_by s r (Some p) = in_image s p

abbrev pub replied : State → Reply → State
replied s r = replied_by s r r.image
