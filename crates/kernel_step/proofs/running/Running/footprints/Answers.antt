-- The footprints are those of the run.
use Rattle.kernel_step.proofs.running.Running.footprints.Goals as goal

pub returns : goal.returns
returns c = λ b h. h.parts.footprints
