-- How places are told apart.
use Rattle.std.specs.Prelude.{ℕ, refl}
use Rattle.std.specs.Coded.{Coded, code_by, coded×, coded_ℕ}
use Rattle.machine_model.specs.States.{State, state_code}
use Rattle.debugger.specs.declared.place.Place.{Place}

-- by this code a proof tells places apart
abbrev pub place_code : Coded Place
place_code = code_by (State × ℕ) (coded× state_code coded_ℕ) (λ p. (p.machine, p.taken)) (λ x. record { machine = x.0; taken = x.1 }) (λ _. refl)
