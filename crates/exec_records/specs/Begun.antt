-- Which instructions a run does.
use Rattle.std.specs.Prelude.{ℕ, zero, suc, ◌==◌, List, [], ◌∷◌}
use Rattle.std.specs.List.{count_by}
use Rattle.machine_model.specs.States.{State, next, by_step}

-- the addresses of the instructions that a run of at most n does, in order
unfoldable pub begun : ℕ → State → List ℕ
begun zero s = []
begun (suc n) s = by_step (next s) (λ t. s.architectural.pc ∷ begun n t) (λ stop. [])

-- how many of them are at an address
abbrev pub times : ℕ → List ℕ → ℕ
times a addresses = count_by (λ b. b == a) addresses
