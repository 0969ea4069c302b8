-- The events that rest on the first changes alone. No other event writes what they read. They make those changes, and what they print
-- begins with what is shown.
use Rattle.std.proofs.Common.{append-nil, append_assoc, ◌≡◌, ℕ, zero, suc, ◌+◌, ◌-◌, ◌<◌, ◌≤◌, ◌==◌, ◌⊎◌, inl, inr, ◌&&◌, not, Bool, true, false, List, [], ◌∷◌, ◌++◌, map, take, Option, Some, None, is_some, refl, sym, ap, ◌∙◌, arith}
use Rattle.std.specs.Prelude.{if◌then◌else◌}
use Rattle.std.specs.List.{AllByRecursion}
use Rattle.std.proofs.lemmas.Bool.{cases_lt, false≢true, and_parts, and_from}
use Rattle.disk_model.specs.Numbers.{Numbered}
use Rattle.disk_model.specs.declared.change.Change.{Change}
use Rattle.kernel_model.specs.Entries.{Entry, meets}
use Rattle.kernel_model.specs.Limits.{AreNumbered}
use Rattle.kernel_model.specs.Paths.{is_durable, change_count, changes_in_log, with_change}
use Rattle.kernel_model.specs.Shown.{Given, given_by, each_from, prefix, released}
use Rattle.kernel_model.specs.State.{SyncState, changed_by}
use Rattle.kernel_model.specs.Steps.{step}
use Rattle.kernel_model.specs.Views.{contents}
use Rattle.kernel_model.specs.World.{sync_log}
use Rattle.kernel_model.specs.declared.carrier.Carrier.{Carrier}
use Rattle.kernel_model.specs.declared.event.Event.{Event}
use Rattle.kernel_model.proofs.Folding.{step_changes}
use Rattle.kernel_model.proofs.Meets.{meets-none}
use Rattle.kernel_model.proofs.Paths.{count_of, meets_if}
use Rattle.kernel_model.proofs.Runs.{contents-append, contents-given_by}
use Rattle.kernel_laws.specs.Agreement.{Agree, AgreeOn, IsAlike, AreAlike}
use Rattle.kernel_laws.specs.Cones.{selected, is_visible, visible_flags, IsBeginningOf}
use Rattle.kernel_laws.proofs.Frames.{framed}
use Rattle.kernel_laws.proofs.Resting.{count-append, durable_back, durable_change, change_durable}
use Rattle.kernel_laws.proofs.Selected.{all_left, all_right, needed, IsClosed, taken, passed, step_numbered}
use Rattle.kernel_laws.proofs.Tidy.{IsIdle, step_tidy}

-- an entry without a process does nothing
abbrev pub Idles : Entry → Type 0
Idles e = (e.process == 0) ≡ true → IsIdle e

pub log_idles : (es : List Event) (s : SyncState) → AreNumbered s.files → AllByRecursion Idles (sync_log s es)
log_idles [] s are = tt
log_idles (e ∷ es) s are = ((step_tidy s e are).idle, log_idles es (step s e).state (step_numbered s e are))

-- ---- none of the others writes what they read
-- a visible event, after so many others, reads some of these
record Reader (c : ℕ) (past : List Entry) (ws : List Carrier) : Type 0 where
  between : List Entry
  reader : Entry
  durable : is_durable c (past ++ between) reader ≡ true
  reads : meets ws reader.reads ≡ true

find_reader : (es : List Entry) (c : ℕ) (past : List Entry) (ws : List Carrier) → meets ws (needed (visible_flags c past es) es []) ≡ true → Reader c past ws
find_reader [] c past ws h = absurd (false≢true (sym (meets-none ws) ∙ h))
find_reader (e ∷ es) c past ws h = elim (meets_if ws (needed (visible_flags c (past ++ e ∷ []) es) es []) e.reads (is_visible c past e) h) [
  | inl t ↦ later (find_reader es c (past ++ e ∷ []) ws t)
  | inr t ↦ record {
    between = [];
    reader = e;
    durable = ap (λ (ps : List Entry). is_durable c ps e) (append-nil past) ∙ (and_parts (not (e.process == 0)) (is_durable c past e) t.1).1;
    reads = t.0;
  }
]
  where
    later : Reader c (past ++ e ∷ []) ws → Reader c past ws
    later r = record {
      between = e ∷ r.between;
      reader = r.reader;
      durable = ap (λ (ps : List Entry). is_durable c ps r.reader) (sym (append_assoc past (e ∷ []) r.between)) ∙ r.durable;
      reads = r.reads;
    }

seen_if : (c : ℕ) (past : List Entry) (e : Entry) → Idles e → is_durable c past e ≡ true → (IsIdle e → ⊥) → is_visible c past e ≡ true
seen_if c past e idles durable busy = and_from (not (e.process == 0)) (is_durable c past e) (by (e.process == 0) refl) durable
  where
    by : (b : Bool) → (e.process == 0) ≡ b → not b ≡ true
    by true is = absurd (busy (idles is))
    by false is = refl

visible_or : (c : ℕ) (past : List Entry) (e : Entry) (es : List Entry) → Idles e → (b : Bool) → meets e.writes (needed (visible_flags c (past ++ e ∷ []) es) es []) ≡ b
    → (is_visible c past e ≡ true) ⊎ (b ≡ false)
visible_or c past e es idles false h = inr refl
visible_or c past e es idles true h =
    let r = find_reader es c (past ++ e ∷ []) e.writes h in
    let there : is_durable c (past ++ e ∷ r.between) r.reader ≡ true = ap (λ (ps : List Entry). is_durable c ps r.reader) (sym (append_assoc past (e ∷ []) r.between)) ∙ r.durable in
    inl (seen_if c past e idles (durable_back c past e r.between r.reader there r.reads)
    (λ idle. false≢true (sym (ap (λ (ws : List Carrier). meets ws (needed (visible_flags c (past ++ e ∷ []) es) es [])) idle.writes) ∙ h)))

pub visible_closed : (es : List Entry) (c : ℕ) (past : List Entry) → AllByRecursion Idles es → IsClosed (visible_flags c past es) es []
visible_closed [] c past idles = tt
visible_closed (e ∷ es) c past idles = (
  visible_or c past e es idles.0 (meets e.writes (needed (visible_flags c (past ++ e ∷ []) es) es [])) refl,
  visible_closed es c (past ++ e ∷ []) idles.1,
)

-- ---- they make the first changes
count_more : (past : List Entry) (e : Entry) → count_of (past ++ e ∷ []) ≡ count_of past + change_count e
count_more past e = omega (arith, count-append past (e ∷ []))

changes_taken : (o p : Option Change) (cs ds : List Change) (c n : ℕ) → cs ≡ take (c - (n + (if is_some o then 1 else 0))) ds → (is_some o ≡ true → (n < c) × (p ≡ o)) → is_some o ≡ is_some p
    → with_change p cs ≡ take (c - n) (with_change o ds)
changes_taken None None cs ds c n h f g = let same : n + 0 ≡ n = omega arith in h ∙ ap (λ (k : ℕ). take (c - k) ds) same
changes_taken None (Some y) cs ds c n h f g = absurd (false≢true g)
changes_taken (Some x) p cs ds c n h f g =
    let known = f refl in
    let less : n < c = known.0 in
    let more : suc (c - (n + 1)) ≡ c - n = omega (arith, less) in
    ap (λ (o : Option Change). with_change o cs) known.1 ∙ ap (λ (zs : List Change). x ∷ zs) h ∙ ap (λ (k : ℕ). take k (x ∷ ds)) more

changes_passed : (o : Option Change) (cs ds : List Change) (c n : ℕ) → cs ≡ take (c - (n + (if is_some o then 1 else 0))) ds → (is_some o ≡ true → c ≤ n)
    → cs ≡ take (c - n) (with_change o ds)
changes_passed None cs ds c n h f = let same : n + 0 ≡ n = omega arith in h ∙ ap (λ (k : ℕ). take (c - k) ds) same
changes_passed (Some x) cs ds c n h f =
    let most : c ≤ n = f refl in
    let none : c - (n + 1) ≡ 0 = omega (arith, most) in
    let also : 0 ≡ c - n = omega (arith, most) in
    h ∙ ap (λ (k : ℕ). take k ds) none ∙ ap (λ (k : ℕ). take k (x ∷ ds)) also

less_or : (n c : ℕ) → (n < c → ⊥) → c ≤ n
less_or n c h = elim (cases_lt n c) as (λ _. c ≤ n) [ inl t ↦ absurd (h t) | inr t ↦ t ]

no_change : (o : Option Change) → is_some o ≡ false → o ≡ None
no_change None h = refl
no_change (Some x) h = absurd (false≢true (sym h))

-- the files are the same as long as all changes are among the first
abbrev pub SameSoFar : ℕ → ℕ → SyncState → SyncState → Type 0
SameSoFar c n s t = (s.files ≡ t.files) ⊎ (c ≤ n)

-- one more event, where what comes after it is known
module _ (e : Event) (es : List Event) (c : ℕ) (past : List Entry) (s t : SyncState) (are : AreNumbered s.files) (also : AreNumbered t.files) (so_far : SameSoFar c (count_of past) s t) where
  abbrev log_after : List Entry
  log_after = sync_log (step s e).state es

  abbrev marks_after : List Bool
  marks_after = visible_flags c (past ++ (step s e).entry ∷ []) log_after

  abbrev later_after : List Carrier
  later_after = needed marks_after log_after []

  abbrev count_after : ℕ
  count_after = count_of (past ++ (step s e).entry ∷ [])

  closed_after : (is_visible c past (step s e).entry ≡ true) ⊎ (meets (step s e).entry.writes later_after ≡ false)
  closed_after = (visible_closed (sync_log s (e ∷ es)) c past (log_idles (e ∷ es) s are)).0

  -- of a change that is not made, it is late
  late : is_visible c past (step s e).entry ≡ false → is_some (step s e).entry.change ≡ true → c ≤ count_of past
  late hidden made = less_or (count_of past) c (λ (less : count_of past < c).
      false≢true (sym hidden ∙ seen_if c past (step s e).entry (step_tidy s e are).idle (change_durable c past (step s e).entry less)
      (λ idle. false≢true (sym (ap (λ (o : Option Change). is_some o) idle.change) ∙ made))))

  -- of one that is made, it is the same
  early : is_visible c past (step s e).entry ≡ true → is_some (step s e).entry.change ≡ true → count_of past < c
  early shown made = durable_change c past (step s e).entry made (and_parts (not ((step s e).entry.process == 0)) (is_durable c past (step s e).entry) shown).1

  same_change : Agree s t (step s e).entry.reads → count_of past < c → (step t e).entry.change ≡ (step s e).entry.change
  same_change reads less = elim so_far as (λ _. (step t e).entry.change ≡ (step s e).entry.change) [
    | inl same ↦ sym (ap (λ (x : Entry). x.change) ((framed s t e are also reads).exact same))
    | inr most ↦ absurd (let no : ⊥ = omega (arith, most, less) in no)
  ]

  both_later : Agree s t (step s e).entry.reads → SameSoFar c count_after (step s e).state (step t e).state
  both_later reads = elim so_far as (λ _. SameSoFar c count_after (step s e).state (step t e).state) [
    | inl same ↦ inl (step_changes s e ∙ ap (λ (fs : Numbered). changed_by fs (step s e).entry.change) same
        ∙ ap (λ (x : Entry). changed_by t.files x.change) ((framed s t e are also reads).exact same) ∙ sym (step_changes t e))
    | inr most ↦ inr (let more = count_more past (step s e).entry in omega (arith, most, more))
  ]

  kept_later : is_visible c past (step s e).entry ≡ false → (b : Bool) → is_some (step s e).entry.change ≡ b → s.files ≡ t.files → SameSoFar c count_after (step s e).state t
  kept_later hidden true made same = inr (let most = late hidden made in let more = count_more past (step s e).entry in omega (arith, most, more))
  kept_later hidden false made same = inl (step_changes s e ∙ ap (λ (o : Option Change). changed_by s.files o) (no_change (step s e).entry.change made) ∙ same)

  one_later : is_visible c past (step s e).entry ≡ false → SameSoFar c count_after (step s e).state t
  one_later hidden = elim so_far as (λ _. SameSoFar c count_after (step s e).state t) [
    | inl same ↦ kept_later hidden (is_some (step s e).entry.change) refl same
    | inr most ↦ inr (let more = count_more past (step s e).entry in omega (arith, most, more))
  ]

  more_changes : (cs ds : List Change) → cs ≡ take (c - count_after) ds → cs ≡ take (c - (count_of past + change_count (step s e).entry)) ds
  more_changes cs ds h = h ∙ ap (λ (k : ℕ). take (c - k) ds) (count_more past (step s e).entry)

  -- what is known of the events after it
  abbrev Rest : Type 0
  Rest = (u : SyncState) → AreNumbered u.files → Agree (step s e).state u later_after → SameSoFar c count_after (step s e).state u
      → changes_in_log (sync_log u (selected marks_after es)) ≡ take (c - count_after) (changes_in_log log_after)

  one_changes : (b : Bool) → is_visible c past (step s e).entry ≡ b → Rest → Agree s t (if b then later_after ++ (step s e).entry.reads else later_after)
      → changes_in_log (sync_log t (if b then e ∷ selected marks_after es else selected marks_after es)) ≡ take (c - count_of past) (with_change (step s e).entry.change (changes_in_log log_after))
  one_changes true shown rest k =
      let reads = all_right (AgreeOn s t) later_after (step s e).entry.reads k in
      let known = rest (step t e).state (step_numbered t e also) (taken s t e later_after are also reads (all_left (AgreeOn s t) later_after (step s e).entry.reads k)) (both_later reads) in
      changes_taken (step s e).entry.change (step t e).entry.change _ _ c (count_of past) (more_changes _ _ known)
      (λ made. (early shown made, same_change reads (early shown made))) (framed s t e are also reads).alike.changes
  one_changes false hidden rest k =
      let off : meets (step s e).entry.writes later_after ≡ false = elim closed_after as (λ _. meets (step s e).entry.writes later_after ≡ false) [ inl h ↦ absurd (false≢true (sym hidden ∙ h)) | inr h ↦ h ] in
      changes_passed (step s e).entry.change _ _ c (count_of past) (more_changes _ _ (rest t also (passed s t e later_after are off k) (one_later hidden))) (late hidden)

pub visible_changes : (es : List Event) (c : ℕ) (past : List Entry) (s t : SyncState) → AreNumbered s.files → AreNumbered t.files
    → Agree s t (needed (visible_flags c past (sync_log s es)) (sync_log s es) []) → SameSoFar c (count_of past) s t
    → changes_in_log (sync_log t (selected (visible_flags c past (sync_log s es)) es)) ≡ take (c - count_of past) (changes_in_log (sync_log s es))
visible_changes [] c past s t are also a so_far = by (c - count_of past)
  where
    by : (k : ℕ) → ◌≡◌ {A = List Change} [] (take k [])
    by zero = refl
    by (suc k) = refl
visible_changes (e ∷ es) c past s t are also a so_far =
    one_changes e es c past s t are also so_far (is_visible c past (step s e).entry) refl
    (λ u numbers agree same. visible_changes es c (past ++ (step s e).entry ∷ []) (step s e).state u (step_numbered s e are) numbers agree same) a

-- ---- what they print begins with what is shown
pub given_contents : {A : Type 0} (past : List Entry) (e : Entry) (xs : List A) (ys : List (Given A)) → contents (given_by past e xs ++ ys) ≡ xs ++ contents ys
given_contents past e xs ys = contents-append (given_by past e xs) ys ∙ ap (λ zs. zs ++ contents ys) (contents-given_by past e xs)

released_all : {A : Type 0} (c : ℕ) (past : List Entry) (e : Entry) (xs : List A) (ys : List (Given A)) → is_durable c past e ≡ true
    → released c (given_by past e xs ++ ys) ≡ xs ++ released c ys
released_all c past e [] ys h = refl
released_all {A = A} c past e (x ∷ xs) ys h =
    ap (λ (b : Bool). map (λ (y : Given A). y.what) (if b then record { what = x; past = past; entry = e } ∷ prefix (λ y. is_durable c y.past y.entry) (given_by past e xs ++ ys) else [])) h
    ∙ ap (λ zs. x ∷ zs) (released_all c past e xs ys h)

released_none : {A : Type 0} (c : ℕ) (past : List Entry) (e : Entry) (x : A) (xs : List A) (ys : List (Given A)) → is_durable c past e ≡ false
    → released c (given_by past e (x ∷ xs) ++ ys) ≡ []
released_none {A = A} c past e x xs ys h =
    ap (λ (b : Bool). map (λ (y : Given A). y.what) (if b then record { what = x; past = past; entry = e } ∷ prefix (λ y. is_durable c y.past y.entry) (given_by past e xs ++ ys) else [])) h

begins_from : {A : Type 0} (xs ys zs us vs : List A) → us ≡ xs ++ ys → vs ≡ xs ++ zs → IsBeginningOf ys zs → IsBeginningOf us vs
begins_from xs ys zs us vs e f b = record { rest = b.rest; is = f ∙ ap (λ ws. xs ++ ws) b.is ∙ sym (append_assoc xs ys b.rest) ∙ ap (λ ws. ws ++ b.rest) (sym e) }

begins_none : {A : Type 0} (us vs : List A) → us ≡ [] → IsBeginningOf us vs
begins_none us vs e = record { rest = vs; is = ap (λ ws. ws ++ vs) (sym e) }

module _ {A : Type 0} (f : Entry → List A) (c : ℕ) (past before : List Entry) (e : Entry) (es : List Entry) where
  abbrev marks_next : List Bool
  marks_next = visible_flags c (past ++ e ∷ []) es

  -- what is known of the entries after it
  abbrev RestBegins : Type 0
  RestBegins = (us former : List Entry) → AreAlike (selected marks_next es) us → IsBeginningOf (released c (each_from f (past ++ e ∷ []) es)) (contents (each_from f former us))

  abbrev ThisBegins : List Entry → Type 0
  ThisBegins us = IsBeginningOf (released c (given_by past e (f e) ++ each_from f (past ++ e ∷ []) es)) (contents (each_from f before us))

  -- one that is held back
  held_begins : (xs : List A) (us : List Entry) → is_durable c past e ≡ false → RestBegins → AreAlike (selected marks_next es) us
      → IsBeginningOf (released c (given_by past e xs ++ each_from f (past ++ e ∷ []) es)) (contents (each_from f before us))
  held_begins [] us hidden rest like = rest us before like
  held_begins (x ∷ xs) us hidden rest like = begins_none _ _ (released_none c past e x xs (each_from f (past ++ e ∷ []) es) hidden)

  seen_begins : ((x y : Entry) → IsAlike x y → f x ≡ f y) → (us : List Entry) → is_durable c past e ≡ true → RestBegins → AreAlike (e ∷ selected marks_next es) us → ThisBegins us
  seen_begins same [] shown rest like = absurd like
  seen_begins same (v ∷ us) shown rest like =
      begins_from (f e) (released c (each_from f (past ++ e ∷ []) es)) (contents (each_from f (before ++ v ∷ []) us)) _ _
      (released_all c past e (f e) (each_from f (past ++ e ∷ []) es) shown)
      (given_contents before v (f v) (each_from f (before ++ v ∷ []) us) ∙ ap (λ (xs : List A). xs ++ contents (each_from f (before ++ v ∷ []) us)) (sym (same e v like.0)))
      (rest us (before ++ v ∷ []) like.1)

  one_begins : ((x : Entry) → IsIdle x → f x ≡ []) → ((x y : Entry) → IsAlike x y → f x ≡ f y) → Idles e → (d z : Bool) → is_durable c past e ≡ d → (e.process == 0) ≡ z → RestBegins → (us : List Entry)
      → AreAlike (if not z && d then e ∷ selected marks_next es else selected marks_next es) us → ThisBegins us
  one_begins idle same idles true false shown busy rest us like = seen_begins same us shown rest like
  one_begins idle same idles true true shown disk rest us like =
      let none : f e ≡ [] = idle e (idles disk) in
      begins_from [] (released c (each_from f (past ++ e ∷ []) es)) (contents (each_from f before us)) _ _
      (ap (λ (xs : List A). released c (given_by past e xs ++ each_from f (past ++ e ∷ []) es)) none) refl (rest us before like)
  one_begins idle same idles false true hidden is rest us like = held_begins (f e) us hidden rest like
  one_begins idle same idles false false hidden is rest us like = held_begins (f e) us hidden rest like

pub shown_begins : {A : Type 0} (f : Entry → List A) → ((e : Entry) → IsIdle e → f e ≡ []) → ((x y : Entry) → IsAlike x y → f x ≡ f y)
    → (log vs : List Entry) (c : ℕ) (past before : List Entry) → AllByRecursion Idles log → AreAlike (selected (visible_flags c past log) log) vs
    → IsBeginningOf (released c (each_from f past log)) (contents (each_from f before vs))
shown_begins f idle same [] vs c past before idles alike = begins_none [] (contents (each_from f before vs)) refl
shown_begins f idle same (e ∷ es) vs c past before idles alike =
    one_begins f c past before e es idle same idles.0 (is_durable c past e) (e.process == 0) refl refl
    (λ us former like. shown_begins f idle same es us c (past ++ e ∷ []) former idles.1 like) vs alike
