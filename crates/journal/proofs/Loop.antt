-- Reading changes one after the other, as a loop does.
use Rattle.std.proofs.Common.{◌≡◌, ℕ, zero, suc, ◌-◌, ◌+◌, ◌<◌, List, [], ◌∷◌, ◌++◌, length, Result, Ok, Err, refl, sym, ap, ◌∙◌, append_assoc, arith}
use Rattle.std.proofs.lemmas.List.{append-nil, nil_from_length}
use Rattle.std.proofs.lemmas.Bool.{eqb-true}
use Rattle.std.specs.Prelude.{◌==◌, Bool, true}
use Rattle.disk_model.specs.declared.change.Change.{Change}
use Rattle.journal.specs.declared.fault.DiskFault.{DiskFault}
use Rattle.journal.specs.declared.fault.DiskFault.TheVariants.{BadRecord, BadChange, PastHalf, OutOfMemory}
use Rattle.journal.specs.Reading.{◌>>=◌, Fails, change_at, changes_at}

-- what was read before, and what is still read
abbrev pub with_prefix : List Change → Result (List Change) DiskFault → Result (List Change) DiskFault
with_prefix prefix read = read >>= λ x. Ok (prefix ++ x)

regroup : (prefix : List Change) (n : Change) (read : Result (List Change) DiskFault) → with_prefix prefix (read >>= λ x. Ok (n ∷ x)) ≡ with_prefix (prefix ++ n ∷ []) read
regroup prefix n (Ok x) = ap (λ (ns : List Change). Ok ns) (simp append_assoc)
regroup prefix n (Err f) = refl

step : (k : ℕ) (bytes : List ℕ) → 0 < length bytes → changes_at (suc k) bytes ≡ (change_at bytes >>= λ first. changes_at k first.1 >>= λ others. Ok (first.0 ∷ others))
unfolding changes_at
step k [] some = absurd (omega arith)
step k (b ∷ bytes) some = refl

pub goes_on : (prefix : List Change) (count i : ℕ) (bytes : List ℕ) (n : Change) (after : List ℕ) (total : Result (List Change) DiskFault) → i < count → 0 < length bytes → change_at bytes ≡ Ok (n, after)
    → with_prefix prefix (changes_at (count - i) bytes) ≡ total → with_prefix (prefix ++ n ∷ []) (changes_at (count - (i + 1)) after) ≡ total
goes_on prefix count i bytes n after total lt some h so_far =
    let k : count - i ≡ suc (count - (i + 1)) = omega arith in
    let one : with_prefix prefix (changes_at (count - i) bytes) ≡ with_prefix (prefix ++ n ∷ []) (changes_at (count - (i + 1)) after) = rw (k, step (count - (i + 1)) bytes some, h) (regroup prefix n (changes_at (count - (i + 1)) after)) in
    sym one ∙ so_far

fault_ends : (f : DiskFault) (prefix : List Change) (count i : ℕ) (bytes : List ℕ) (total : Result (List Change) DiskFault) → i < count → 0 < length bytes → change_at bytes ≡ Err f
    → with_prefix prefix (changes_at (count - i) bytes) ≡ total → total ≡ Err f
fault_ends f prefix count i bytes total lt some h so_far =
    let k : count - i ≡ suc (count - (i + 1)) = omega arith in
    let one : with_prefix prefix (changes_at (count - i) bytes) ≡ with_prefix prefix (Err f) = rw (k, step (count - (i + 1)) bytes some, h) refl in
    sym so_far ∙ one

pub ends : (e : DiskFault) (prefix : List Change) (count i : ℕ) (bytes : List ℕ) (total : Result (List Change) DiskFault) → i < count → 0 < length bytes → Fails e (change_at bytes)
    → with_prefix prefix (changes_at (count - i) bytes) ≡ total → Fails e total
ends BadRecord prefix count i bytes total lt some h so_far = fault_ends BadRecord prefix count i bytes total lt some h so_far
ends BadChange prefix count i bytes total lt some h so_far = fault_ends BadChange prefix count i bytes total lt some h so_far
ends PastHalf prefix count i bytes total lt some h so_far = fault_ends PastHalf prefix count i bytes total lt some h so_far
ends OutOfMemory prefix count i bytes total lt some h so_far = tt

done_nil : (prefix : List Change) (n : ℕ) (total : Result (List Change) DiskFault) → with_prefix prefix (changes_at n []) ≡ total → total ≡ Ok prefix
unfolding changes_at
done_nil prefix zero total so_far = sym so_far ∙ ap (λ (ns : List Change). Ok ns) (append-nil prefix)
done_nil prefix (suc n) total so_far = sym so_far ∙ ap (λ (ns : List Change). Ok ns) (append-nil prefix)

pub is_done : (prefix : List Change) (n : ℕ) (bytes : List ℕ) (total : Result (List Change) DiskFault) → length bytes ≡ 0 → with_prefix prefix (changes_at n bytes) ≡ total → total ≡ Ok prefix
is_done prefix n bytes total none so_far = done_nil prefix n total (ap (λ (l : List ℕ). with_prefix prefix (changes_at n l)) (sym (nil_from_length bytes none)) ∙ so_far)

pub is_none : (b : Bool) (n : ℕ) → b ≡ (n == 0) → b ≡ true → n ≡ 0
is_none b n e t = eqb-true n 0 (sym e ∙ t)

pub is_past : (prefix : List Change) (bytes : List ℕ) (total : Result (List Change) DiskFault) → 0 < length bytes → with_prefix prefix (changes_at 0 bytes) ≡ total → total ≡ Err BadRecord
unfolding changes_at
is_past prefix [] total some so_far = absurd (omega arith)
is_past prefix (b ∷ bytes) total some so_far = sym so_far
