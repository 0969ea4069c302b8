-- Of numbers that rise, the first that has ended is the least that has.
use Rattle.std.proofs.Common.{◌≡◌, ℕ, zero, suc, ◌<◌, ◌≤◌, true, false, List, [], ◌∷◌, length, Option, Some, None, is_some, refl, sym, ap, ◌∙◌, subst, arith}
use Rattle.std.specs.List.{Contains, slice_index_or}
use Rattle.std.proofs.lemmas.Bool.{false≢true}
use Rattle.kernel_model.specs.Limits.{RiseWithin, FindsLeast}
use Rattle.kernel_model.specs.Rows.{EndedChild, status_in, ended_or, first_ended}

-- numbers that rise from above one are all above it
above : (low high : ℕ) (ns : List ℕ) → RiseWithin low high ns → (n k : ℕ) → k < length ns → slice_index_or ns k n ≡ n → low < n
above low high [] h n k lt is = absurd (omega (arith, lt))
above low high (m ∷ ns) h n zero lt is = let same : m ≡ n = is in omega (arith, same, h.0)
above low high (m ∷ ns) h n (suc k) lt is = omega (arith, h.0, above m high ns h.2 n k (omega (arith, lt)) is)

-- what holds of the first number and of the others holds of all
of_all : (P : ℕ → Type 0) (m : ℕ) (ns : List ℕ) → P m → ((n : ℕ) → Contains ns n → P n) → (n k : ℕ) → k < length (m ∷ ns) → slice_index_or (m ∷ ns) k n ≡ n → P n
of_all P m ns first others n zero lt is = subst P is first
of_all P m ns first others n (suc k) lt is = others n (k, omega (arith, lt), is)

-- what is found after a child that has not ended
found_after : (statuses : List (Option ℕ)) (m : ℕ) (ns : List ℕ) → status_in statuses m ≡ None → (found : Option EndedChild)
    → FindsLeast statuses ns found → FindsLeast statuses (m ∷ ns) found
found_after statuses m ns lives None none = λ n has. of_all (λ (i : ℕ). status_in statuses i ≡ None) m ns lives none n has.0 has.1 has.2
found_after statuses m ns lives (Some e) is = record {
  among = (suc is.among.0, omega (arith, is.among.1), is.among.2);
  ended = is.ended;
  least = λ n has. of_all (λ (i : ℕ). is_some (status_in statuses i) ≡ true → e.child ≤ i) m ns
      (λ ended. let no : false ≡ true = sym (ap (λ (o : Option ℕ). is_some o) lives) ∙ ended in absurd (false≢true no))
      is.least n has.0 has.1 has.2;
}

-- what is found of a child and those after it
found_first : (statuses : List (Option ℕ)) (low high m : ℕ) (ns : List ℕ) (found : Option EndedChild) → RiseWithin low high (m ∷ ns) → FindsLeast statuses ns found
    → (o : Option ℕ) → status_in statuses m ≡ o → FindsLeast statuses (m ∷ ns) (ended_or m o found)
found_first statuses low high m ns found h is None e = found_after statuses m ns e found is
found_first statuses low high m ns found h is (Some status) e = record {
  among = (0, omega arith, refl);
  ended = e;
  least = λ n has. of_all (λ (i : ℕ). is_some (status_in statuses i) ≡ true → m ≤ i) m ns (λ ended. omega arith)
      (λ i in_list ended. omega (arith, above m high ns h.2 i in_list.0 in_list.1 in_list.2)) n has.0 has.1 has.2;
}

pub finds_least : (statuses : List (Option ℕ)) (low high : ℕ) (ns : List ℕ) → RiseWithin low high ns → FindsLeast statuses ns (first_ended statuses ns)
finds_least statuses low high [] h = λ n has. absurd (omega (arith, has.1))
finds_least statuses low high (m ∷ ns) h =
    found_first statuses low high m ns (first_ended statuses ns) h (finds_least statuses m high ns h.2) (status_in statuses m) refl
