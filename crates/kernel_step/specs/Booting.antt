-- What a kernel is booted from.
use Rattle.std.specs.Prelude.{ℕ, List, map, None}
use Rattle.machine_model.specs.First.{first_state}
use Rattle.disk_model.specs.declared.change.NamedFile.{NamedFile}
use Rattle.kernel_model.specs.World.{BootProgram, Boot}
use Rattle.kernel_model.specs.Answers.{Lending}
use Rattle.kernel_step.specs.declared.booting.Program.{Program}

-- a program as it is booted
abbrev pub program_of : Program → BootProgram
program_of p = record { state = first_state p.image; terminal = p.terminal }

-- the boot of these programs and tapes, with these files, this disk, and this place of its first gate that is not open
abbrev pub boot_with : List Program → List (List ℕ) → List NamedFile → List ℕ → ℕ → Boot
boot_with programs tapes files disk gate = record { programs = map program_of programs; tapes = tapes; files = files; disk = disk; gate = gate }

-- its process was never lent
abbrev pub nothing_lent : Program → Lending
nothing_lent p = record { loans = 0; out = None }
