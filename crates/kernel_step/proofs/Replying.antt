-- Replies to calls: one with an image enters it, any other sets a number and bytes.
use Rattle.std.proofs.Common.{◌≡◌, ◌+◌, Option, Some, None, refl}
use Rattle.machine_model.specs.Images.{Program}
use Rattle.machine_model.specs.Replies.{replied, replied_by}
use Rattle.machine_model.specs.States.{State}
use Rattle.machine_model.specs.declared.reply.Reply.{Reply}

-- either counts as one instruction
pub replied-count : (s : State) (r : Reply) → (replied s r).count ≡ s.count + 1
replied-count s r = by r.image
  where
    by : (o : Option Program) → (replied_by s r o).count ≡ s.count + 1
    by None = refl
    by (Some p) = refl
