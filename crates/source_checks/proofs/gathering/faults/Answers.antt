-- The second sort is by the place among faults, and both only move them.
use Rattle.std.proofs.Common.{rules}
use Rattle.std.proofs.lemmas.List.Sorted.{IsNonDecreasingBy-from_sort_by_key, Contains-permutation}
use Rattle.source_checks.specs.Checks.{place_among}
use Rattle.source_checks.proofs.gathering.faults.Goals as goal

pub returns : goal.returns
returns c = record {
  in_order = IsNonDecreasingBy-from_sort_by_key place_among _ c.in_ok-sort_by_key-2.ensures.sorted (λ a r q k. search rules);
  first = Contains-permutation _ _ _ c.in_ok-sort_by_key-2.ensures.permutation
      (Contains-permutation _ _ _ c.in_ok-sort_by_key.ensures.permutation c.in_ok-all.ensures);
}
