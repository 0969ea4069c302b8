-- What a machine that has a replica may be told.
use Rattle.std.specs.Prelude.{◌≡◌, ◌^◌, ◌<◌, true, length, Some, None}
use Rattle.memory_model.specs.Access.{is_writable}
use Rattle.machine_model.specs.States.{State, stopped_at}
use Rattle.machine_model.specs.declared.reply.Reply.{Reply}
use Rattle.machine_model.specs.declared.stop.Stop.TheVariants.{Call}

-- it stands at a call that may get this reply, which has no image, and may do one more instruction
pub record MayBeReplied (s : State) (r : Reply) : Type 0 where
  pub stands : stopped_at s ≡ Some Call
  pub budget : s.count < 2 ^ 40
  pub none : r.image ≡ None
  pub place : is_writable s.architectural.memory r.at (length r.bytes) ≡ true
