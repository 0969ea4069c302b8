-- It is an event of another process, or of the disk.
use Rattle.kernel_laws.proofs.Lent.{lent-stays}
use Rattle.kernel_laws.proofs.lent_processes_stay.Goals as goal

pub returns : goal.returns
returns c = lent-stays
