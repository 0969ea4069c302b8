-- Changes that are formed, and the first of them.
use Rattle.std.proofs.Common.{◌≡◌, ℕ, min, List, length, take, ap, sym, ◌∙◌, arith, inl, inr}
use Rattle.std.specs.List.{AllByRecursion}
use Rattle.std.proofs.lemmas.Bool.{cases_lt}
use Rattle.std.proofs.lemmas.List.{take_all}
use Rattle.disk_model.specs.declared.change.Change.{Change}
use Rattle.disk_model.specs.Files.{IsFormed}
use Rattle.disk_model.specs.Storage.{group_of}
use Rattle.disk_model.proofs.Lists.{each_take}

pub formed_group : (cs : List Change) → AllByRecursion IsFormed cs → AllByRecursion IsFormed (group_of cs)
unfolding group_of
formed_group cs all = each_take IsFormed 64 cs all

-- the first of the changes, at most 64
pub first_64 : (n : ℕ) (cs : List Change) → n ≡ min (length cs) 64 → take n cs ≡ group_of cs
unfolding group_of
first_64 n cs e = elim (cases_lt 64 (length cs)) as (λ _. take n cs ≡ take 64 cs) [
  | inl lt ↦ ap (λ (k : ℕ). take k cs) (let k : n ≡ 64 = omega arith in k)
  | inr le ↦ take_all n cs (omega arith) ∙ sym (take_all 64 cs le)
]
