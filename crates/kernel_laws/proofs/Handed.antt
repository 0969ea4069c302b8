-- A process that is there in the run of the visible events alone is handed all that it is told there.
use Rattle.std.proofs.Common.{append-nil, ◌≡◌, ℕ, ◌+◌, ◌≤◌, ◌==◌, ◌⊎◌, inl, inr, not, Bool, true, false, List, [], ◌∷◌, ◌++◌, map, length, Option, Some, None, IfSome, is_some, option_to_list, refl, sym, ap, subst, ◌∙◌, arith, add-zero}
use Rattle.std.specs.Prelude.{if◌then◌else◌}
use Rattle.std.specs.List.{AllByRecursion}
use Rattle.std.proofs.lemmas.Bool.{false≢true, and_parts, and_from, eqb-true, eq-eqb}
use Rattle.disk_model.proofs.Lists.{each_append}
use Rattle.kernel_model.specs.Entries.{Entry, Item, Got, is_among, meets}
use Rattle.kernel_model.specs.Limits.{AreNumbered}
use Rattle.kernel_model.specs.Paths.{is_durable}
use Rattle.kernel_model.specs.Rows.{CallEffect}
use Rattle.kernel_model.specs.Shown.{Given, given_by, told_from, told_with, is_made, items_for, prefix, released}
use Rattle.kernel_model.specs.State.{SyncState, Process}
use Rattle.kernel_model.specs.Steps.{Transition, own_entry, zero_reply, after_run, after_reply, after_end, after_effect, step}
use Rattle.kernel_model.specs.Views.{contents}
use Rattle.kernel_model.specs.World.{sync_run, sync_log}
use Rattle.kernel_model.specs.declared.carrier.Carrier.{Carrier}
use Rattle.kernel_model.specs.declared.carrier.Carrier.TheVariants.{Proc}
use Rattle.kernel_model.specs.declared.event.Event.{Event}
use Rattle.kernel_model.specs.declared.request.Verdict.{Verdict}
use Rattle.kernel_model.specs.declared.request.Verdict.TheVariants.{Waits, Replies, Ends}
use Rattle.kernel_model.proofs.Limits.{put_length}
use Rattle.kernel_model.proofs.Meets.{meets-one}
use Rattle.kernel_model.proofs.Transitions.{each_event, of_step}
use Rattle.kernel_laws.specs.Agreement.{Agree, AgreeOn, IsAlike}
use Rattle.kernel_laws.specs.Cones.{selected, is_visible, visible_flags}
use Rattle.kernel_laws.proofs.Frames.{framed}
use Rattle.kernel_laws.proofs.Parts.{made_by, reply_long}
use Rattle.kernel_laws.proofs.Resting.{durable_back, durable_own, durable_skip}
use Rattle.kernel_laws.proofs.Selected.{all_left, all_right, needed, taken, passed, step_numbered}
use Rattle.kernel_laws.proofs.Tidy.{IsTidy, step_tidy}
use Rattle.kernel_laws.proofs.Visible.{log_idles, visible_closed, given_contents}

-- ---- how many processes there are
effect_long : (s : SyncState) (pid : ℕ) (p : Process) (e : CallEffect) (v : Verdict)
    → length (after_effect s pid p e v).state.processes ≡ length s.processes + made_by (after_effect s pid p e v).entry.child
effect_long s pid p e Waits = sym (add-zero (length s.processes))
effect_long s pid p e (Replies r) = reply_long s.processes pid (after_reply p e r) p e.child
effect_long s pid p e (Ends status) = put_length s.processes pid (after_end p status) ∙ sym (add-zero (length s.processes))

pub step_long : (s : SyncState) (e : Event) → length (step s e).state.processes ≡ length s.processes + made_by (step s e).entry.child
step_long s e = of_step (λ (t : Transition). length t.state.processes ≡ length s.processes + made_by t.entry.child) s (sym (add-zero (length s.processes)))
    (λ pid. each_event (λ (t : Transition). length t.state.processes ≡ length s.processes + made_by t.entry.child) s pid (sym (add-zero (length s.processes)))
    (λ n p at lives. put_length s.processes pid (after_run n p) ∙ sym (add-zero (length s.processes)))
    (λ p f at lives is. effect_long s pid p f f.verdict)) e

-- ---- what is released
abbrev IsDurableGiven : {A : Type 0} → ℕ → Given A → Type 0
IsDurableGiven c g = is_durable c g.past g.entry ≡ true

released_full : {A : Type 0} (c : ℕ) (xs ys : List (Given A)) → AllByRecursion (IsDurableGiven c) xs → released c (xs ++ ys) ≡ contents xs ++ released c ys
released_full c [] ys all = refl
released_full {A = A} c (x ∷ xs) ys all =
    ap (λ (b : Bool). map (λ (y : Given A). y.what) (if b then x ∷ prefix (λ y. is_durable c y.past y.entry) (xs ++ ys) else [])) all.0
    ∙ ap (λ zs. x.what ∷ zs) (released_full c xs ys all.1)

-- what is not durable ends what is released
released_stop : {A : Type 0} (c : ℕ) (xs : List (Given A)) (past : List Entry) (e : Entry) (y : A) (ys : List A) → is_durable c past e ≡ false
    → released c (xs ++ given_by past e (y ∷ ys)) ≡ released c xs
released_stop {A = A} c [] past e y ys h =
    ap (λ (b : Bool). map (λ (z : Given A). z.what) (if b then record { what = y; past = past; entry = e } ∷ prefix (λ z. is_durable c z.past z.entry) (given_by past e ys) else [])) h
released_stop {A = A} c (x ∷ xs) past e y ys h = elim (is_durable c x.past x.entry) as (λ b.
    map (λ (z : Given A). z.what) (if b then x ∷ prefix (λ z. is_durable c z.past z.entry) (xs ++ given_by past e (y ∷ ys)) else [])
    ≡ map (λ (z : Given A). z.what) (if b then x ∷ prefix (λ z. is_durable c z.past z.entry) xs else [])) [
      | true ↦ ap (λ zs. x.what ∷ zs) (released_stop c xs past e y ys h)
      | false ↦ refl
    ]

given_durable : {A : Type 0} (c : ℕ) (past : List Entry) (e : Entry) (xs : List A) → is_durable c past e ≡ true → AllByRecursion (IsDurableGiven c) (given_by past e xs)
given_durable c past e [] h = tt
given_durable c past e (x ∷ xs) h = (h, given_durable c past e xs h)

given_nil : {A : Type 0} (past : List Entry) (e : Entry) (xs : List A) (ys : List (Given A)) → contents (ys ++ given_by past e xs) ≡ contents ys ++ xs
given_nil past e xs [] = ap (λ zs. contents zs) (sym (append-nil (given_by past e xs))) ∙ given_contents past e xs [] ∙ append-nil xs
given_nil past e xs (y ∷ ys) = ap (λ zs. y.what ∷ zs) (given_nil past e xs ys)

-- all of it, with more that is durable
released_more : {A : Type 0} (c : ℕ) (past : List Entry) (e : Entry) (xs : List A) (ys : List (Given A)) → AllByRecursion (IsDurableGiven c) ys → is_durable c past e ≡ true
    → released c (ys ++ given_by past e xs) ≡ released c ys ++ xs
released_more {A = A} c past e xs ys all h =
    ap (λ (zs : List (Given A)). released c zs) (sym (append-nil (ys ++ given_by past e xs)))
    ∙ released_full c (ys ++ given_by past e xs) [] (each_append (IsDurableGiven c) ys (given_by past e xs) all (given_durable c past e xs h))
    ∙ append-nil (contents (ys ++ given_by past e xs))
    ∙ given_nil past e xs ys
    ∙ ap (λ (zs : List A). zs ++ xs) (sym (append-nil (contents ys)) ∙ sym (released_full c ys [] all) ∙ ap (λ (zs : List (Given A)). released c zs) (append-nil ys))

-- ---- each item of a process leads to the process
-- where a process rests on the first c changes alone, so does all that it was told
abbrev pub Rests : ℕ → List Entry → (ℕ → List (Given Item)) → Type 0
Rests c past told = (p : ℕ) → is_durable c past (own_entry p) ≡ true → AllByRecursion (IsDurableGiven c) (told p)

made_is : (o : Option ℕ) (p : ℕ) → is_made o p ≡ true → o ≡ Some p
made_is None p h = absurd (false≢true h)
made_is (Some child) p h = ap (λ (k : ℕ). Some k) (eqb-true child p h)

some_item : (o : Option Item) (x : Item) (xs : List Item) → option_to_list o ≡ x ∷ xs → is_some o ≡ true
some_item None x xs h = absurd (let no : ⊥ = cc in no)
some_item (Some i) x xs h = refl

-- who is told something by an event's call is its process
record IsTold (e : Entry) (p : ℕ) : Type 0 where
  its : e.process ≡ p
  item : is_some e.item ≡ true

told_is : (e : Entry) (p : ℕ) (x : Item) (xs : List Item) → items_for p e ≡ x ∷ xs → IsTold e p
told_is e p x xs h = by (e.process == p) refl h
  where
    by : (b : Bool) → (e.process == p) ≡ b → (if b then option_to_list e.item else []) ≡ x ∷ xs → IsTold e p
    by true is g = record { its = eqb-true e.process p is; item = some_item e.item x xs g }
    by false is g = absurd (let no : ⊥ = cc in no)

rests_more : (c : ℕ) (past : List Entry) (told : ℕ → List (Given Item)) (s : SyncState) (e : Entry) → IsTidy s e → Rests c past told → Rests c (past ++ e ∷ []) (told_with told past e)
rests_more c past told s e tidy rests p h = by (is_made e.child p) refl
  where
    -- the event, which wrote the process
    wrote : is_among (Proc p) e.writes ≡ true → is_durable c past e ≡ true
    wrote m = durable_back c past e [] (own_entry p) h (meets-one e.writes (Proc p) ∙ m)

    items : (xs : List Item) → items_for p e ≡ xs → AllByRecursion (IsDurableGiven c) (given_by past e xs)
    items [] is = tt
    items (x ∷ xs) is =
        let who = told_is e p x xs is in
        given_durable c past e (x ∷ xs) (wrote (subst (λ (q : ℕ). is_among (Proc q) e.writes ≡ true) who.its (tidy.own who.item).0))

    by : (b : Bool) → is_made e.child p ≡ b → AllByRecursion (IsDurableGiven c) (if b then told e.process ++ given_by past e (Got zero_reply ∷ []) else told p ++ given_by past e (items_for p e))
    by true is =
        let made : (p ≡ length s.processes + 1) × (is_among (Proc p) e.writes ≡ true) × (is_some e.item ≡ true) × (e.process ≤ length s.processes) =
        subst (λ (o : Option ℕ). IfSome o (λ k. (k ≡ length s.processes + 1) × (is_among (Proc k) e.writes ≡ true) × (is_some e.item ≡ true) × (e.process ≤ length s.processes))) (made_is e.child p is) tidy.made in
        let durable = wrote made.1 in
        each_append (IsDurableGiven c) (told e.process) (given_by past e (Got zero_reply ∷ []))
        (rests e.process (durable_own c past e e.process (tidy.own made.2).1 durable)) (given_durable c past e (Got zero_reply ∷ []) durable)
    by false is = each_append (IsDurableGiven c) (told p) (given_by past e (items_for p e)) (rests p (durable_skip c past e p h)) (items (items_for p e) refl)

-- ---- what is handed is all
abbrev pub IsAll : ℕ → (ℕ → List (Given Item)) → (ℕ → List (Given Item)) → ℕ → Type 0
IsAll c told alone p = contents (alone p) ≡ released c (told p)

-- after a visible event
seen_all : (c : ℕ) (past former : List Entry) (told alone : ℕ → List (Given Item)) (s t : SyncState) (e v : Entry) → IsTidy s e → IsTidy t v → IsAlike e v
    → is_durable c past e ≡ true → Rests c past told → ((p : ℕ) → p ≤ length t.processes → IsAll c told alone p)
    → (p : ℕ) → p ≤ length t.processes + made_by v.child → IsAll c (told_with told past e) (told_with alone former v) p
seen_all c past former told alone s t e v tidy also alike durable rests all p most =
    ap (λ (o : Option ℕ). contents (if is_made o p then alone v.process ++ given_by former v (Got zero_reply ∷ []) else alone p ++ given_by former v (items_for p v))) (sym alike.child)
    ∙ by (is_made e.child p) refl
  where
    same_items : items_for p v ≡ items_for p e
    same_items = ap (λ (q : ℕ). if q == p then option_to_list v.item else []) (sym alike.process) ∙ ap (λ (o : Option Item). if e.process == p then option_to_list o else []) (sym alike.item)

    -- one that was there
    there : (o : Option ℕ) → p ≤ length t.processes + made_by o → IfSome o (λ k. k ≡ length t.processes + 1) → is_made o p ≡ false → p ≤ length t.processes
    there None h next not_made = omega (arith, h)
    there (Some k) h next not_made =
        let not_it : p ≡ length t.processes + 1 → ⊥ = λ (same : p ≡ length t.processes + 1). false≢true (sym not_made ∙ eq-eqb k p (next ∙ sym same)) in
        below p (length t.processes) h not_it
      where
        below : (a b : ℕ) → a ≤ b + 1 → (a ≡ b + 1 → ⊥) → a ≤ b
        below a b h n = omega (arith, h, n)

    items : (xs : List Item) → items_for p e ≡ xs → p ≤ length t.processes → contents (alone p ++ given_by former v xs) ≡ released c (told p ++ given_by past e xs)
    items [] is low = ap (λ (zs : List (Given Item)). contents zs) (append-nil (alone p)) ∙ all p low ∙ sym (ap (λ (zs : List (Given Item)). released c zs) (append-nil (told p)))
    items (x ∷ xs) is low =
        let who = told_is e p x xs is in
        let reads : is_among (Proc p) e.reads ≡ true = subst (λ (q : ℕ). is_among (Proc q) e.reads ≡ true) who.its (tidy.own who.item).1 in
        given_nil former v (x ∷ xs) (alone p)
        ∙ ap (λ (zs : List Item). zs ++ x ∷ xs) (all p low)
        ∙ sym (released_more c past e (x ∷ xs) (told p) (rests p (durable_own c past e p reads durable)) durable)

    next_of : (o : Option ℕ) → IfSome o (λ k. (k ≡ length t.processes + 1) × (is_among (Proc k) v.writes ≡ true) × (is_some v.item ≡ true) × (v.process ≤ length t.processes)) → IfSome o (λ k. k ≡ length t.processes + 1)
    next_of None h = tt
    next_of (Some k) h = h.0

    by : (b : Bool) → is_made e.child p ≡ b
        → contents (if b then alone v.process ++ given_by former v (Got zero_reply ∷ []) else alone p ++ given_by former v (items_for p v))
        ≡ released c (if b then told e.process ++ given_by past e (Got zero_reply ∷ []) else told p ++ given_by past e (items_for p e))
    by true is =
        let made : (p ≡ length t.processes + 1) × (is_among (Proc p) v.writes ≡ true) × (is_some v.item ≡ true) × (v.process ≤ length t.processes) =
        subst (λ (o : Option ℕ). IfSome o (λ k. (k ≡ length t.processes + 1) × (is_among (Proc k) v.writes ≡ true) × (is_some v.item ≡ true) × (v.process ≤ length t.processes))) (sym alike.child ∙ made_is e.child p is) also.made in
        let item : is_some e.item ≡ true = ap (λ (o : Option Item). is_some o) alike.item ∙ made.2 in
        let low : e.process ≤ length t.processes = subst (λ (q : ℕ). q ≤ length t.processes) (sym alike.process) made.3 in
        ap (λ (q : ℕ). contents (alone q ++ given_by former v (Got zero_reply ∷ []))) (sym alike.process)
        ∙ given_nil former v (Got zero_reply ∷ []) (alone e.process)
        ∙ ap (λ (zs : List Item). zs ++ Got zero_reply ∷ []) (all e.process low)
        ∙ sym (released_more c past e (Got zero_reply ∷ []) (told e.process) (rests e.process (durable_own c past e e.process (tidy.own item).1 durable)) durable)
    by false is =
        ap (λ (xs : List Item). contents (alone p ++ given_by former v xs)) same_items
        ∙ items (items_for p e) refl (there v.child most (next_of v.child also.made) (ap (λ (o : Option ℕ). is_made o p) (sym alike.child) ∙ is))

-- after another one
hidden_all : (c : ℕ) (past : List Entry) (told alone : ℕ → List (Given Item)) (s t : SyncState) (e : Entry) → IsTidy s e → is_visible c past e ≡ false
    → length t.processes ≤ length s.processes → (p : ℕ) → p ≤ length t.processes → IsAll c told alone p → IsAll c (told_with told past e) alone p
hidden_all c past told alone s t e tidy hidden fewer p low all = all ∙ sym (by (is_made e.child p) refl)
  where
    not_durable : is_some e.item ≡ true → is_durable c past e ≡ false
    not_durable item = elim (is_durable c past e) as (λ b. is_durable c past e ≡ b → b ≡ false) [
      | true ↦ λ is. absurd (false≢true (sym hidden ∙ and_from (not (e.process == 0)) (is_durable c past e) (by_zero (e.process == 0) refl) is))
      | false ↦ λ is. refl
    ] refl
      where
        by_zero : (b : Bool) → (e.process == 0) ≡ b → not b ≡ true
        by_zero true is = absurd (false≢true (sym (ap (λ (o : Option Item). is_some o) (tidy.idle is).item) ∙ item))
        by_zero false is = refl

    items : (xs : List Item) → items_for p e ≡ xs → released c (told p ++ given_by past e xs) ≡ released c (told p)
    items [] is = ap (λ (zs : List (Given Item)). released c zs) (append-nil (told p))
    items (x ∷ xs) is = released_stop c (told p) past e x xs (not_durable (told_is e p x xs is).item)

    by : (b : Bool) → is_made e.child p ≡ b → released c (if b then told e.process ++ given_by past e (Got zero_reply ∷ []) else told p ++ given_by past e (items_for p e)) ≡ released c (told p)
    by true is =
        let made : (p ≡ length s.processes + 1) × (is_among (Proc p) e.writes ≡ true) × (is_some e.item ≡ true) × (e.process ≤ length s.processes) =
        subst (λ (o : Option ℕ). IfSome o (λ k. (k ≡ length s.processes + 1) × (is_among (Proc k) e.writes ≡ true) × (is_some e.item ≡ true) × (e.process ≤ length s.processes))) (made_is e.child p is) tidy.made in
        absurd (let next = made.0 in let no : ⊥ = omega (arith, next, low, fewer) in no)
    by false is = items (items_for p e) refl

-- one more event, where what comes after it is known
module _ (e : Event) (es : List Event) (c : ℕ) (past former : List Entry) (told alone : ℕ → List (Given Item)) (s t : SyncState) (are : AreNumbered s.files) (also : AreNumbered t.files)
    (fewer : length t.processes ≤ length s.processes) (rests : Rests c past told) (all : (p : ℕ) → p ≤ length t.processes → IsAll c told alone p) where
  abbrev log_next : List Entry
  log_next = sync_log (step s e).state es

  abbrev marks_next : List Bool
  marks_next = visible_flags c (past ++ (step s e).entry ∷ []) log_next

  abbrev later_next : List Carrier
  later_next = needed marks_next log_next []

  abbrev RestHanded : Type 0
  RestHanded = (after : List Entry) (others : ℕ → List (Given Item)) (u : SyncState) → AreNumbered u.files → Agree (step s e).state u later_next → length u.processes ≤ length (step s e).state.processes
      → ((p : ℕ) → p ≤ length u.processes → IsAll c (told_with told past (step s e).entry) others p)
      → (p : ℕ) → p ≤ length (sync_run u (selected marks_next es)).processes
      → IsAll c (told_from (told_with told past (step s e).entry) (past ++ (step s e).entry ∷ []) log_next) (told_from others after (sync_log u (selected marks_next es))) p

  closed_next : (is_visible c past (step s e).entry ≡ true) ⊎ (meets (step s e).entry.writes later_next ≡ false)
  closed_next = (visible_closed (sync_log s (e ∷ es)) c past (log_idles (e ∷ es) s are)).0

  one_handed : (b : Bool) → is_visible c past (step s e).entry ≡ b → RestHanded → Agree s t (if b then later_next ++ (step s e).entry.reads else later_next)
      → (p : ℕ) → p ≤ length (sync_run t (if b then e ∷ selected marks_next es else selected marks_next es)).processes
      → IsAll c (told_from (told_with told past (step s e).entry) (past ++ (step s e).entry ∷ []) log_next) (told_from alone former (sync_log t (if b then e ∷ selected marks_next es else selected marks_next es))) p
  one_handed true shown rest k p low =
      let reads = all_right (AgreeOn s t) later_next (step s e).entry.reads k in
      let frame = framed s t e are also reads in
      let durable = (and_parts (not ((step s e).entry.process == 0)) (is_durable c past (step s e).entry) shown).1 in
      let long_s = step_long s e in
      let long_t = step_long t e in
      let same : made_by (step s e).entry.child ≡ made_by (step t e).entry.child = ap (λ (o : Option ℕ). made_by o) frame.alike.child in
      rest (former ++ (step t e).entry ∷ []) (told_with alone former (step t e).entry) (step t e).state (step_numbered t e also)
      (taken s t e later_next are also reads (all_left (AgreeOn s t) later_next (step s e).entry.reads k))
      (omega (arith, long_s, long_t, same, fewer))
      (λ q below. seen_all c past former told alone s t (step s e).entry (step t e).entry (step_tidy s e are) (step_tidy t e also) frame.alike durable rests all q (subst (λ (n : ℕ). q ≤ n) long_t below))
      p low
  one_handed false hidden rest k p low =
      let off : meets (step s e).entry.writes later_next ≡ false = elim closed_next as (λ _. meets (step s e).entry.writes later_next ≡ false) [ inl h ↦ absurd (false≢true (sym hidden ∙ h)) | inr h ↦ h ] in
      let long_s = step_long s e in
      rest former alone t also (passed s t e later_next are off k) (omega (arith, long_s, fewer))
      (λ q below. hidden_all c past told alone s t (step s e).entry (step_tidy s e are) hidden fewer q below (all q below)) p low

pub handed_all : (es : List Event) (c : ℕ) (past former : List Entry) (told alone : ℕ → List (Given Item)) (s t : SyncState) → AreNumbered s.files → AreNumbered t.files
    → Agree s t (needed (visible_flags c past (sync_log s es)) (sync_log s es) []) → length t.processes ≤ length s.processes → Rests c past told
    → ((p : ℕ) → p ≤ length t.processes → IsAll c told alone p)
    → (p : ℕ) → p ≤ length (sync_run t (selected (visible_flags c past (sync_log s es)) es)).processes
    → IsAll c (told_from told past (sync_log s es)) (told_from alone former (sync_log t (selected (visible_flags c past (sync_log s es)) es))) p
handed_all [] c past former told alone s t are also a fewer rests all p low = all p low
handed_all (e ∷ es) c past former told alone s t are also a fewer rests all p low =
    one_handed e es c past former told alone s t are also fewer rests all (is_visible c past (step s e).entry) refl
    (λ after others u numbers agree fewer_u all_u q below. handed_all es c (past ++ (step s e).entry ∷ []) after (told_with told past (step s e).entry) others (step s e).state u
    (step_numbered s e are) numbers agree fewer_u (rests_more c past told s (step s e).entry (step_tidy s e are) rests) all_u q below) a p low
