-- A quiet event, as each Turn is, tells nothing: what is seen outside is the same without it.
use Rattle.std.proofs.Common.{append-nil, ◌≡◌, ℕ, ◌+◌, ◌==◌, ◌⊎◌, inl, inr, ◌||◌, ◌&&◌, not, nat_lt, Bool, true, false, if◌then◌else◌, List, [], ◌∷◌, ◌++◌, map, Option, Some, None, is_some, option_to_list, refl, sym, ap, subst, ◌∙◌, add-zero}
use Rattle.std.specs.List.{list_any}
use Rattle.std.proofs.lemmas.Bool.{eqb-true, eq-eqb, false≢true, and_parts, or_cases}
use Rattle.std.proofs.Math.Bool.{or-true, or-false}
use Rattle.disk_model.specs.declared.change.Change.{Change}
use Rattle.kernel_model.specs.declared.carrier.Carrier.{Carrier}
use Rattle.kernel_model.specs.declared.carrier.Carrier.TheVariants.{Proc, File, Names, Pipe, Pipes, Tasks, Tape}
use Rattle.kernel_model.specs.Entries.{Entry, Item, Got, meets, is_same}
use Rattle.kernel_model.specs.Paths.{wanted, is_durable_from, is_durable, change_count, changes_in_log, with_change}
use Rattle.kernel_model.specs.Steps.{own_entry, zero_reply}
use Rattle.kernel_model.specs.Shown.{Given, given_by, each_from, prefix, released, printed, bytes_for, told, told_from, told_with, is_made, items_for}
use Rattle.kernel_model.specs.Views.{contents, SameGiven}
use Rattle.kernel_model.proofs.Meets.{meets-append}

-- a process's own carrier was read, and nothing but it written
abbrev pub only_own : List Carrier → List Carrier → Bool
only_own (Proc p ∷ []) (Proc q ∷ []) = p == q
only_own (Proc p ∷ []) [] = true
only_own _ _ = false

-- it touched nothing but its own process, told it nothing and made none
abbrev pub is_quiet : Entry → Bool
is_quiet d = not (is_some d.change) && (not (is_some d.output) && (not (is_some d.item) && (not (is_some d.child) && only_own d.reads d.writes)))

abbrev pub telling : List Entry → List Entry
telling [] = []
telling (d ∷ ds) = if is_quiet d then telling ds else d ∷ telling ds

pub own_quiet : (p : ℕ) → is_quiet (own_entry p) ≡ true
own_quiet p = eq-eqb p p refl

pub if_append : (b : Bool) (d : Entry) (xs ys : List Entry) → (if b then xs ++ ys else d ∷ (xs ++ ys)) ≡ (if b then xs else d ∷ xs) ++ ys
if_append true d xs ys = refl
if_append false d xs ys = refl

pub telling-append : (xs ys : List Entry) → telling (xs ++ ys) ≡ telling xs ++ telling ys
telling-append [] ys = refl
telling-append (x ∷ xs) ys = ap (λ zs. if is_quiet x then zs else x ∷ zs) (telling-append xs ys) ∙ if_append (is_quiet x) x (telling xs) (telling ys)

-- what is known of a quiet one
is_none_of : {A : Type 0} (o : Option A) → not (is_some o) ≡ true → o ≡ None
is_none_of None h = refl
is_none_of (Some x) h = absurd (false≢true h)

pub record Quiet (d : Entry) : Type 0 where
  pub change : d.change ≡ None
  pub output : d.output ≡ None
  pub item : d.item ≡ None
  pub child : d.child ≡ None
  pub carriers : (p : ℕ) × (d.reads ≡ Proc p ∷ []) × ((d.writes ≡ Proc p ∷ []) ⊎ (d.writes ≡ []))

own_carriers : (rs ws : List Carrier) → only_own rs ws ≡ true → (p : ℕ) × (rs ≡ Proc p ∷ []) × ((ws ≡ Proc p ∷ []) ⊎ (ws ≡ []))
own_carriers (Proc p ∷ []) (Proc q ∷ []) h = (p, refl, inl (ap (λ n. Proc n ∷ []) (sym (eqb-true p q h))))
own_carriers (Proc p ∷ []) [] h = (p, refl, inr refl)
own_carriers _ _ h = absurd (false≢true h)

pub quiet_of : (d : Entry) → is_quiet d ≡ true → Quiet d
quiet_of d h =
    let a = and_parts (not (is_some d.change)) _ h in
    let b = and_parts (not (is_some d.output)) _ a.1 in
    let e = and_parts (not (is_some d.item)) _ b.1 in
    let f = and_parts (not (is_some d.child)) _ e.1 in
    record {
      change = is_none_of d.change a.0;
      output = is_none_of d.output b.0;
      item = is_none_of d.item e.0;
      child = is_none_of d.child f.0;
      carriers = own_carriers d.reads d.writes f.1;
    }

-- the changes are the same
pub changes_told : (ds : List Entry) → changes_in_log ds ≡ changes_in_log (telling ds)
changes_told [] = refl
changes_told (d ∷ ds) = elim (is_quiet d) as (λ b. is_quiet d ≡ b → changes_in_log (d ∷ ds) ≡ changes_in_log (if b then telling ds else d ∷ telling ds)) [
  | true ↦ λ h. ap (λ o. with_change o (changes_in_log ds)) (quiet_of d h).change ∙ changes_told ds
  | false ↦ λ h. ap (λ cs. with_change d.change cs) (changes_told ds)
] refl

-- lists that the same carriers meet
abbrev pub SameMeets : List Carrier → List Carrier → Type 0
SameMeets xs ys = (ws : List Carrier) → meets ws xs ≡ meets ws ys

same_proc : (w : Carrier) (p : ℕ) → is_same w (Proc p) ≡ true → w ≡ Proc p
same_proc (Proc a) p h = ap (λ n. Proc n) (eqb-true a p h)
same_proc (File a) p h = absurd (false≢true h)
same_proc Names p h = absurd (false≢true h)
same_proc (Pipe a) p h = absurd (false≢true h)
same_proc Pipes p h = absurd (false≢true h)
same_proc Tasks p h = absurd (false≢true h)
same_proc (Tape a) p h = absurd (false≢true h)

-- who meets a process that is wanted meets what is wanted
met_by : (ws : List Carrier) (p : ℕ) (xs : List Carrier) → meets ws (Proc p ∷ []) ≡ true → list_any (is_same (Proc p)) xs ≡ true → meets ws xs ≡ true
met_by [] p xs h m = absurd (false≢true h)
met_by (w ∷ ws) p xs h m = elim (or_cases (list_any (is_same w) (Proc p ∷ [])) (meets ws (Proc p ∷ [])) h) [
  | inl t ↦ let is : w ≡ Proc p = same_proc w p (sym (or-false (is_same w (Proc p))) ∙ t) in
      ap (λ b. b || meets ws xs) (subst (λ (v : Carrier). list_any (is_same v) xs ≡ true) (sym is) m)
  | inr t ↦ ap (λ b. list_any (is_same w) xs || b) (met_by ws p xs t m) ∙ or-true (list_any (is_same w) xs)
]

absorbed : (b c : Bool) → (c ≡ true → b ≡ true) → (b || c) ≡ b
absorbed true c f = refl
absorbed false true f = absurd (false≢true (f refl))
absorbed false false f = refl

-- a quiet event adds nothing that isn't wanted
quiet_adds : (xs : List Carrier) (p : ℕ) (b : Bool) → meets (Proc p ∷ []) xs ≡ b → SameMeets (if b then xs ++ Proc p ∷ [] else xs) xs
quiet_adds xs p true h ws = meets-append ws xs (Proc p ∷ [])
    ∙ absorbed (meets ws xs) (meets ws (Proc p ∷ [])) (λ m. met_by ws p xs m (sym (or-false (list_any (is_same (Proc p)) xs)) ∙ h))
quiet_adds xs p false h ws = refl

loud_adds : (xs ys rs : List Carrier) (b : Bool) → SameMeets xs ys → SameMeets (if b then xs ++ rs else xs) (if b then ys ++ rs else ys)
loud_adds xs ys rs true same ws = meets-append ws xs rs ∙ ap (λ c. c || meets ws rs) (same ws) ∙ sym (meets-append ws ys rs)
loud_adds xs ys rs false same ws = same ws

quiet_wants : (d : Entry) (xs : List Carrier) → Quiet d → SameMeets (if meets d.writes xs then xs ++ d.reads else xs) xs
quiet_wants d xs q =
    let p = q.carriers.0 in
    subst (λ (rs : List Carrier). SameMeets (if meets d.writes xs then xs ++ rs else xs) xs) (sym q.carriers.1)
    (by p q.carriers.2)
  where
    by : (p : ℕ) → (d.writes ≡ Proc p ∷ []) ⊎ (d.writes ≡ []) → SameMeets (if meets d.writes xs then xs ++ Proc p ∷ [] else xs) xs
    by p (inl is) = subst (λ (vs : List Carrier). SameMeets (if meets vs xs then xs ++ Proc p ∷ [] else xs) xs) (sym is)
        (quiet_adds xs p (meets (Proc p ∷ []) xs) refl)
    by p (inr is) = subst (λ (vs : List Carrier). SameMeets (if meets vs xs then xs ++ Proc p ∷ [] else xs) xs) (sym is) (λ ws. refl)

pub wanted_told : (ds : List Entry) (rs : List Carrier) → SameMeets (wanted ds rs) (wanted (telling ds) rs)
wanted_told [] rs ws = refl
wanted_told (d ∷ ds) rs ws = elim (is_quiet d) as (λ b. is_quiet d ≡ b → meets ws (wanted (d ∷ ds) rs) ≡ meets ws (wanted (if b then telling ds else d ∷ telling ds) rs)) [
  | true ↦ λ h. quiet_wants d (wanted ds rs) (quiet_of d h) ws ∙ wanted_told ds rs ws
  | false ↦ λ h. loud_adds (wanted ds rs) (wanted (telling ds) rs) d.reads (meets d.writes (wanted ds rs)) (wanted_told ds rs) ws
      ∙ ap (λ b. meets ws (if b then wanted (telling ds) rs ++ d.reads else wanted (telling ds) rs)) (wanted_told ds rs d.writes)
] refl

pub durable_told : (c n : ℕ) (past : List Entry) (d : Entry) → is_durable_from c n past d ≡ is_durable_from c n (telling past) d
durable_told c n [] d = refl
durable_told c n (x ∷ xs) d = elim (is_quiet x) as (λ b. is_quiet x ≡ b → is_durable_from c n (x ∷ xs) d ≡ is_durable_from c n (if b then telling xs else x ∷ telling xs) d) [
  | true ↦ λ h. let none = (quiet_of x h).change in
      ap (λ (o : Option Change). (not (is_some o) || nat_lt n c || not (meets x.writes (wanted xs d.reads))) && is_durable_from c (n + (if is_some o then 1 else 0)) xs d) none
      ∙ ap (λ m. is_durable_from c m xs d) (add-zero n)
      ∙ durable_told c n xs d
  | false ↦ λ h.
      ap (λ b. (not (is_some x.change) || nat_lt n c || not b) && is_durable_from c (n + change_count x) xs d) (wanted_told xs d.reads x.writes)
      ∙ ap (λ b. (not (is_some x.change) || nat_lt n c || not (meets x.writes (wanted (telling xs) d.reads))) && b) (durable_told c (n + change_count x) xs d)
] refl

-- each with whether it rests on committed changes
pub record Mark (A : Type 0) : Type 0 where
  pub what : A
  pub durable : Bool

abbrev pub mark_of : {A : Type 0} → ℕ → Given A → Mark A
mark_of c x = record { what = x.what; durable = is_durable c x.past x.entry }

abbrev pub marked : {A : Type 0} → ℕ → List (Given A) → List (Mark A)
marked c xs = map (mark_of c) xs

abbrev pub seen : {A : Type 0} → List (Mark A) → List A
seen [] = []
seen (m ∷ ms) = if m.durable then m.what ∷ seen ms else []

released_by : {A : Type 0} (x : A) (b : Bool) (xs : List (Given A)) (g : Given A) (ys : List A) → map (λ (y : Given A). y.what) xs ≡ ys → g.what ≡ x
    → map (λ (y : Given A). y.what) (if b then g ∷ xs else []) ≡ (if b then x ∷ ys else [])
released_by x true xs g ys e f = ap (λ z. z ∷ map (λ (y : _). y.what) xs) f ∙ ap (λ zs. x ∷ zs) e
released_by x false xs g ys e f = refl

pub released_seen : {A : Type 0} (c : ℕ) (xs : List (Given A)) → released c xs ≡ seen (marked c xs)
released_seen c [] = refl
released_seen c (x ∷ xs) = released_by x.what (is_durable c x.past x.entry) (prefix (λ y. is_durable c y.past y.entry) xs) x (seen (marked c xs)) (released_seen c xs) refl

pub marked-append : {A : Type 0} (c : ℕ) (xs ys : List (Given A)) → marked c (xs ++ ys) ≡ marked c xs ++ marked c ys
marked-append c [] ys = refl
marked-append c (x ∷ xs) ys = ap (λ zs. mark_of c x ∷ zs) (marked-append c xs ys)

-- what an event gives is as durable without the quiet ones before it
marks_of : {A : Type 0} (c : ℕ) (past : List Entry) (d : Entry) (xs : List A) → marked c (given_by past d xs) ≡ marked c (given_by (telling past) d xs)
marks_of c past d [] = refl
marks_of {A} c past d (x ∷ xs) =
    ap (λ (s : Bool). record { what = x; durable = s } ∷ marked c (given_by past d xs)) (durable_told c 0 past d)
    ∙ ap (λ (ms : List (Mark A)). record { what = x; durable = is_durable c (telling past) d } ∷ ms) (marks_of c past d xs)

-- what events give, without the quiet ones
pub each_told : {A : Type 0} (c : ℕ) (f : Entry → List A) → ((d : Entry) → Quiet d → f d ≡ [])
    → (past ds : List Entry) → marked c (each_from f past ds) ≡ marked c (each_from f (telling past) (telling ds))
each_told c f none past [] = refl
each_told {A} c f none past (d ∷ ds) =
    marked-append c (given_by past d (f d)) (each_from f (past ++ d ∷ []) ds)
    ∙ ap (λ zs. marked c (given_by past d (f d)) ++ zs) (each_told c f none (past ++ d ∷ []) ds)
    ∙ ap (λ ps. marked c (given_by past d (f d)) ++ marked c (each_from f ps (telling ds))) (telling-append past (d ∷ []))
    ∙ rest (is_quiet d) refl
  where
    goal : Bool → Type 0
    goal b = marked c (given_by past d (f d)) ++ marked c (each_from f (telling past ++ (if b then [] else d ∷ [])) (telling ds)) ≡ marked c (each_from f (telling past) (if b then telling ds else d ∷ telling ds))

    rest : (b : Bool) → is_quiet d ≡ b → goal b
    rest true h =
        ap (λ xs. marked c (given_by past d xs) ++ marked c (each_from f (telling past ++ []) (telling ds))) (none d (quiet_of d h))
        ∙ ap (λ ps. marked c (each_from f ps (telling ds))) (append-nil (telling past))
    rest false h =
        ap (λ zs. zs ++ marked c (each_from f (telling past ++ d ∷ []) (telling ds))) (marks_of c past d (f d))
        ∙ sym (marked-append c (given_by (telling past) d (f d)) (each_from f (telling past ++ d ∷ []) (telling ds)))

contents_marked : {A : Type 0} (c : ℕ) (xs : List (Given A)) → contents xs ≡ map (λ (m : Mark A). m.what) (marked c xs)
contents_marked c [] = refl
contents_marked c (x ∷ xs) = ap (λ ys. x.what ∷ ys) (contents_marked c xs)

-- the same was given where it is as durable
given_same : {A : Type 0} (xs ys : List (Given A)) → ((c : ℕ) → marked c xs ≡ marked c ys) → SameGiven xs ys
given_same {A} xs ys same = record {
  whole = contents_marked 0 xs ∙ ap (λ (ms : List (Mark A)). map (λ (m : Mark A). m.what) ms) (same 0) ∙ sym (contents_marked 0 ys);
  prefixes = λ c. released_seen c xs ∙ ap seen (same c) ∙ sym (released_seen c ys);
}

-- the same is given without the quiet events
pub printed_told : (t : ℕ) (ds : List Entry) → SameGiven (printed t ds) (printed t (telling ds))
printed_told t ds = given_same (printed t ds) (printed t (telling ds)) (λ c. each_told c (λ d. bytes_for t d.output) (λ d q. ap (bytes_for t) q.output) [] ds)

no_items : (b : Bool) (o : Option Item) → o ≡ None → (if b then option_to_list o else []) ≡ []
no_items true o h = ap (λ (x : Option Item). option_to_list x) h
no_items false o h = refl

-- what each process was told is as durable
abbrev SameTold : ℕ → (ℕ → List (Given Item)) → (ℕ → List (Given Item)) → Type 0
SameTold c before after = (p : ℕ) → marked c (before p) ≡ marked c (after p)

-- what process p was told after one more event, by whether the event made p
abbrev pub told_if : (ℕ → List (Given Item)) → List Entry → Entry → ℕ → Bool → List (Given Item)
told_if before past d p made = if made then before d.process ++ given_by past d (Got zero_reply ∷ []) else before p ++ given_by past d (items_for p d)

-- where it was so before an event, it is so after it
marked_more : {A : Type 0} (c : ℕ) (past : List Entry) (d : Entry) (xs ys : List (Given A)) (zs : List A) → marked c xs ≡ marked c ys
    → marked c (xs ++ given_by past d zs) ≡ marked c (ys ++ given_by (telling past) d zs)
marked_more {A} c past d xs ys zs same =
    marked-append c xs (given_by past d zs)
    ∙ ap (λ (ms : List (Mark A)). ms ++ marked c (given_by past d zs)) same
    ∙ ap (λ (ms : List (Mark A)). marked c ys ++ ms) (marks_of c past d zs)
    ∙ sym (marked-append c ys (given_by (telling past) d zs))

loud_tells : (c : ℕ) (before after : ℕ → List (Given Item)) (past : List Entry) (d : Entry) → SameTold c before after
    → SameTold c (told_with before past d) (told_with after (telling past) d)
loud_tells c before after past d same p = elim (is_made d.child p) as (λ b. marked c (told_if before past d p b) ≡ marked c (told_if after (telling past) d p b)) [
  | true ↦ marked_more c past d (before d.process) (after d.process) (Got zero_reply ∷ []) (same d.process)
  | false ↦ marked_more c past d (before p) (after p) (items_for p d) (same p)
]

-- a quiet event tells no process anything
quiet_tells : (before : ℕ → List (Given Item)) (past : List Entry) (d : Entry) → Quiet d → (p : ℕ) → told_with before past d p ≡ before p
quiet_tells before past d q p =
    ap (λ (o : Option ℕ). told_if before past d p (is_made o p)) q.child
    ∙ ap (λ (xs : List Item). before p ++ given_by past d xs) (no_items (d.process == p) d.item q.item)
    ∙ append-nil (before p)

-- so it stays through the events after one, where they keep it so
marks_on : (c : ℕ) (ds past : List Entry) (d : Entry) (before after : ℕ → List (Given Item)) (b : Bool) → is_quiet d ≡ b → SameTold c before after
    → ((now : ℕ → List (Given Item)) → SameTold c (told_with before past d) now
    → SameTold c (told_from (told_with before past d) (past ++ d ∷ []) ds) (told_from now (telling (past ++ d ∷ [])) (telling ds)))
    → SameTold c (told_from before past (d ∷ ds)) (told_from after (telling past) (if b then telling ds else d ∷ telling ds))
marks_on c ds past d before after true h same on =
    subst (λ (ps : List Entry). SameTold c (told_from before past (d ∷ ds)) (told_from after ps (telling ds)))
    (telling-append past (d ∷ []) ∙ ap (λ (b : Bool). telling past ++ (if b then [] else d ∷ [])) h ∙ append-nil (telling past))
    (on after (λ p. ap (λ (xs : List (Given Item)). marked c xs) (quiet_tells before past d (quiet_of d h) p) ∙ same p))
marks_on c ds past d before after false h same on =
    subst (λ (ps : List Entry). SameTold c (told_from before past (d ∷ ds)) (told_from (told_with after (telling past) d) ps (telling ds)))
    (telling-append past (d ∷ []) ∙ ap (λ (b : Bool). telling past ++ (if b then [] else d ∷ [])) h)
    (on (told_with after (telling past) d) (loud_tells c before after past d same))

marks_told : (c : ℕ) (ds past : List Entry) (before after : ℕ → List (Given Item)) → SameTold c before after
    → SameTold c (told_from before past ds) (told_from after (telling past) (telling ds))
marks_told c [] past before after same = same
marks_told c (d ∷ ds) past before after same =
    marks_on c ds past d before after (is_quiet d) refl same (λ now tells. marks_told c ds (past ++ d ∷ []) (told_with before past d) now tells)

pub told_told : (p : ℕ) (ds : List Entry) → SameGiven (told p ds) (told p (telling ds))
told_told p ds = given_same (told p ds) (told p (telling ds)) (λ c. marks_told c ds [] (λ q. []) (λ q. []) (λ q. refl) p)
