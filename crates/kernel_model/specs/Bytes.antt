-- Programs and tapes of bytes.
use Rattle.std.specs.Prelude.{ℕ, ◌<◌, List}
use Rattle.std.specs.List.{AllByRecursion}
use Rattle.memory_model.specs.Access.{HoldsBytes}
use Rattle.kernel_model.specs.World.{BootProgram, Boot}

-- the memory of each program holds bytes
abbrev pub ProgramsHoldBytes : Boot → Type 0
ProgramsHoldBytes b = AllByRecursion (λ (p : BootProgram). HoldsBytes p.state.architectural.memory) b.programs

-- each tape holds bytes
abbrev pub TapesHoldBytes : Boot → Type 0
TapesHoldBytes b = AllByRecursion (λ (tape : List ℕ). AllByRecursion (λ (byte : ℕ). byte < 256) tape) b.tapes
