-- The law.
use Rattle.elf32.proofs.Soundness.{sound_files}
use Rattle.elf32.proofs.laws.sound_files.Goals as goal

pub returns : goal.returns
returns c = sound_files
