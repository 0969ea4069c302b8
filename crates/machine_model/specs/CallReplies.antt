-- What a call is told by its reply.
use Rattle.std.specs.Prelude.{ℕ, List, Option, refl}
use Rattle.std.specs.Coded.{Coded, code_by, coded×, coded_ℕ, coded_list, coded_option}
use Rattle.machine_model.specs.Images.{Program, program_code}

-- a number for a0, bytes for the memory from the address `at` on, and the program in which the process goes on, if there is one
pub record CallReply : Type 0 where
  pub a0 : ℕ
  pub at : ℕ
  pub bytes : List ℕ
  pub image : Option Program

-- by this code a proof tells replies apart
abbrev pub reply_code : Coded CallReply
reply_code =
    code_by (ℕ × (ℕ × (List ℕ × Option Program))) (coded× coded_ℕ (coded× coded_ℕ (coded× (coded_list coded_ℕ) (coded_option program_code))))
    (λ r. (r.a0, (r.at, (r.bytes, r.image))))
    (λ p. record { a0 = p.0; at = p.1.0; bytes = p.1.1.0; image = p.1.1.1 })
    (λ _. refl)
