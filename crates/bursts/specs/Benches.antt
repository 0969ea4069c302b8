-- What contracts see of a bench.
use Rattle.std.specs.Prelude.{Bool, refl}
use Rattle.std.specs.Coded.{Coded, code_by, coded×, coded_bool}
use Rattle.kernel_model.specs.Answers.{Kernel}
use Rattle.kernel_model.specs.Codes.{kernel_code}

-- its core, and whether it was said there that the work is to stop
pub record OnBench : Type 0 where
  pub core : Kernel
  pub stopped : Bool

-- its code, as the pair of its fields
abbrev pub on_bench_code : Coded OnBench
on_bench_code = code_by (Kernel × Bool) (coded× kernel_code coded_bool) (λ b. (b.core, b.stopped)) (λ p. record { core = p.0; stopped = p.1 }) (λ _. refl)
