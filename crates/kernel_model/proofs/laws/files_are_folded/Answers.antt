-- Before any event both sides are the boot's files, and each event keeps them equal.
use Rattle.std.proofs.Common.{refl}
use Rattle.disk_model.specs.Numbers.{numbered}
use Rattle.kernel_model.specs.World.{first_world}
use Rattle.kernel_model.proofs.Folding.{after_folded, after_numbered}
use Rattle.kernel_model.proofs.laws.files_are_folded.Goals as goal

pub returns : goal.returns
returns _ = record {
  numbered = λ b es. after_numbered (numbered b.files) es (first_world b) refl;
  living = λ b es. after_folded b.files es (first_world b) refl;
}
