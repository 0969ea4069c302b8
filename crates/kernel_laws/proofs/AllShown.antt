-- Where all changes are committed, everything is durable, and so all is released.
use Rattle.std.proofs.Common.{◌≡◌, ℕ, ◌+◌, ◌<◌, ◌≤◌, inl, inr, Bool, true, false, if◌then◌else◌, List, [], ◌∷◌, ◌++◌, length, refl, ap, ◌∙◌, arith}
use Rattle.std.specs.List.{AllByRecursion}
use Rattle.kernel_model.specs.Entries.{Entry, Item, Got}
use Rattle.kernel_model.specs.Paths.{RestsOn, IsDurable, change_count, is_durable, changes_in_log}
use Rattle.kernel_model.specs.Shown.{Given, given_by, each_from, printed, told, told_from, told_with, is_made, items_for, bytes_for, prefix, released}
use Rattle.kernel_model.specs.Steps.{zero_reply}
use Rattle.kernel_model.specs.Views.{contents}
use Rattle.kernel_model.proofs.Folding.{with_change-length}
use Rattle.kernel_model.proofs.Paths.{durable_to}
use Rattle.disk_model.proofs.Lists.{each_append}

-- how many changes these events made
abbrev pub count : List Entry → ℕ
count log = length (changes_in_log log)

count-append : (xs ys : List Entry) → count (xs ++ ys) ≡ count xs + count ys
count-append [] ys = omega arith
count-append (x ∷ xs) ys = omega (arith, with_change-length x.change (changes_in_log (xs ++ ys)), with_change-length x.change (changes_in_log xs), count-append xs ys)

-- an event rests on changes of its past, and on its own
rests_below : (n : ℕ) (past : List Entry) (e : Entry) (k : ℕ) → RestsOn n past e k → k < n + (count past + count (e ∷ []))
rests_below n [] e k h =
    let own : change_count e ≡ 1 = ap (λ (b : Bool). if b then 1 else 0) h.0 in
    let same : k ≡ n = h.1 in omega (arith, with_change-length e.change [])
rests_below n (x ∷ xs) e k (inl h) =
    let own : change_count x ≡ 1 = ap (λ (b : Bool). if b then 1 else 0) h.0 in
    let same : k ≡ n = h.1 in omega (arith, with_change-length x.change (changes_in_log xs))
rests_below n (x ∷ xs) e k (inr h) = omega (arith, rests_below (n + change_count x) xs e k h, with_change-length x.change (changes_in_log xs))

-- so it is durable where they are among the first c
abbrev IsEarly : {A : Type 0} → ℕ → Given A → Type 0
IsEarly c x = count (x.past ++ x.entry ∷ []) ≤ c

early_durable : {A : Type 0} (c : ℕ) (x : Given A) → IsEarly c x → IsDurable c x.past x.entry
early_durable c x early k rests = omega (arith, rests_below 0 x.past x.entry k rests, count-append x.past (x.entry ∷ []))

-- ---- what events give

given_early : {A : Type 0} (c : ℕ) (past : List Entry) (e : Entry) (xs : List A) → count (past ++ e ∷ []) ≤ c → AllByRecursion (IsEarly c) (given_by past e xs)
given_early c past e [] early = tt
given_early c past e (x ∷ xs) early = (early, given_early c past e xs early)

-- the first of these events, after their past
first_early : (c : ℕ) (past : List Entry) (e : Entry) (es : List Entry) → count past + count (e ∷ es) ≤ c → count (past ++ e ∷ []) + count es ≤ c
first_early c past e es all = omega (arith, count-append past (e ∷ []), count-append (e ∷ []) es)

each_early : {A : Type 0} (c : ℕ) (f : Entry → List A) (past log : List Entry) → count past + count log ≤ c → AllByRecursion (IsEarly c) (each_from f past log)
each_early c f past [] all = tt
each_early c f past (e ∷ es) all =
    let first = first_early c past e es all in
    each_append (IsEarly c) (given_by past e (f e)) (each_from f (past ++ e ∷ []) es)
    (given_early c past e (f e) (omega arith)) (each_early c f (past ++ e ∷ []) es first)

told_with_early : (c : ℕ) (before : ℕ → List (Given Item)) (past : List Entry) (e : Entry) → ((q : ℕ) → AllByRecursion (IsEarly c) (before q))
    → count (past ++ e ∷ []) ≤ c → (p : ℕ) → AllByRecursion (IsEarly c) (told_with before past e p)
told_with_early c before past e h early p = by (is_made e.child p)
  where
    by : (b : Bool) → AllByRecursion (IsEarly c) (if b then before e.process ++ given_by past e (Got zero_reply ∷ []) else before p ++ given_by past e (items_for p e))
    by true = each_append (IsEarly c) (before e.process) (given_by past e (Got zero_reply ∷ [])) (h e.process) (given_early c past e (Got zero_reply ∷ []) early)
    by false = each_append (IsEarly c) (before p) (given_by past e (items_for p e)) (h p) (given_early c past e (items_for p e) early)

told_early : (c : ℕ) (before : ℕ → List (Given Item)) (past log : List Entry) → ((q : ℕ) → AllByRecursion (IsEarly c) (before q))
    → count past + count log ≤ c → (p : ℕ) → AllByRecursion (IsEarly c) (told_from before past log p)
told_early c before past [] h all p = h p
told_early c before past (e ∷ es) h all p =
    let first = first_early c past e es all in
    told_early c (told_with before past e) (past ++ e ∷ []) es (told_with_early c before past e h (omega arith)) first p

-- ---- what is released

all_released : {A : Type 0} (c : ℕ) (xs : List (Given A)) → AllByRecursion (IsEarly c) xs → released c xs ≡ contents xs
all_released c [] h = refl
all_released c (x ∷ xs) h =
    ap (λ (b : Bool). contents (if b then x ∷ prefix (λ y. is_durable c y.past y.entry) xs else [])) (durable_to c 0 x.past x.entry (early_durable c x h.0))
    ∙ ap (λ ys. x.what ∷ ys) (all_released c xs h.1)

-- of this log all is released once c changes are committed, where it has as many
pub printed_released : (c t : ℕ) (log : List Entry) → c ≡ count log → released c (printed t log) ≡ contents (printed t log)
printed_released c t log all = all_released c (printed t log) (each_early c (λ e. bytes_for t e.output) [] log (omega (arith, all)))

pub told_released : (c p : ℕ) (log : List Entry) → c ≡ count log → released c (told p log) ≡ contents (told p log)
told_released c p log all = all_released c (told p log) (told_early c (λ q. []) [] log (λ q. tt) (omega (arith, all)) p)
