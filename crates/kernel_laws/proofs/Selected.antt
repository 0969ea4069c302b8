-- Events of a run are selected, and no event that is left out writes what a later selected one reads. Alone, they do what they did.
use Rattle.std.proofs.Common.{◌≡◌, ◌⊎◌, inl, inr, Bool, true, false, List, [], ◌∷◌, ◌++◌, sym, subst, ◌∙◌}
use Rattle.std.specs.Prelude.{if◌then◌else◌}
use Rattle.std.specs.List.{AllByRecursion}
use Rattle.std.proofs.lemmas.Bool.{false≢true, or_parts}
use Rattle.disk_model.specs.Numbers.{Numbered}
use Rattle.disk_model.proofs.Lists.{each_more}
use Rattle.kernel_model.specs.Entries.{Entry, is_among, meets}
use Rattle.kernel_model.specs.Limits.{AreNumbered}
use Rattle.kernel_model.specs.State.{SyncState}
use Rattle.kernel_model.specs.Steps.{step}
use Rattle.kernel_model.specs.World.{sync_run, sync_log}
use Rattle.kernel_model.specs.declared.carrier.Carrier.{Carrier}
use Rattle.kernel_model.specs.declared.event.Event.{Event}
use Rattle.kernel_model.proofs.Folding.{step_changes}
use Rattle.kernel_model.proofs.Meets.{meets-append, meets-one}
use Rattle.kernel_model.proofs.Numbering.{numbered_changed}
use Rattle.kernel_laws.specs.Agreement.{Agree, AgreeOn, AreAlike}
use Rattle.kernel_laws.specs.Cones.{selected}
use Rattle.kernel_laws.proofs.Frames.{agree_trans, framed, step_keeps_but}

-- ---- carriers
-- none of these is among the writes
apart : (ws cs : List Carrier) → meets ws cs ≡ false → AllByRecursion (λ (c : Carrier). is_among c ws ≡ false) cs
apart ws [] h = tt
apart ws (c ∷ cs) h =
    let both = or_parts (meets ws (c ∷ [])) (meets ws cs) (sym (meets-append ws (c ∷ []) cs) ∙ h) in
    (sym (meets-one ws c) ∙ both.0, apart ws cs both.1)

-- ---- lists
pub all_left : {A : Type 0} (P : A → Type 0) (xs ys : List A) → AllByRecursion P (xs ++ ys) → AllByRecursion P xs
all_left P [] ys h = tt
all_left P (x ∷ xs) ys h = (h.0, all_left P xs ys h.1)

pub all_right : {A : Type 0} (P : A → Type 0) (xs ys : List A) → AllByRecursion P (xs ++ ys) → AllByRecursion P ys
all_right P [] ys h = h
all_right P (x ∷ xs) ys h = all_right P xs ys h.1

both_hold : {A : Type 0} (P Q R : A → Type 0) (xs : List A) → ((x : A) → P x → Q x → R x) → AllByRecursion P xs → AllByRecursion Q xs → AllByRecursion R xs
both_hold P Q R [] f p q = tt
both_hold P Q R (x ∷ xs) f p q = (f x p.0 q.0, both_hold P Q R xs f p.1 q.1)

-- ---- runs
pub step_numbered : (s : SyncState) (e : Event) → AreNumbered s.files → AreNumbered (step s e).state.files
step_numbered s e are = subst (λ (fs : Numbered). AreNumbered fs) (sym (step_changes s e)) (numbered_changed s.files (step s e).entry.change are)

-- ---- what is selected
-- the carriers whose content matters to the selected entries, and to a reader of `rs` after all
abbrev pub needed : List Bool → List Entry → List Carrier → List Carrier
needed [] es rs = rs
needed (m ∷ ms) [] rs = rs
needed (m ∷ ms) (e ∷ es) rs = if m then needed ms es rs ++ e.reads else needed ms es rs

-- none of the others writes what matters to those after it
abbrev pub IsClosed : List Bool → List Entry → List Carrier → Type 0
IsClosed [] [] rs = Unit {0}
IsClosed [] (e ∷ es) rs = ⊥
IsClosed (m ∷ ms) [] rs = ⊥
IsClosed (m ∷ ms) (e ∷ es) rs = ((m ≡ true) ⊎ (meets e.writes (needed ms es rs) ≡ false)) × IsClosed ms es rs

-- a selected event is in both runs
pub taken : (s t : SyncState) (e : Event) (cs : List Carrier) → AreNumbered s.files → AreNumbered t.files → Agree s t (step s e).entry.reads → Agree s t cs
    → Agree (step s e).state (step t e).state cs
taken s t e cs are also reads a = each_more (AgreeOn s t) (AgreeOn (step s e).state (step t e).state) (framed s t e are also reads).carries cs a

-- another one is in the whole run alone
pub passed : (s t : SyncState) (e : Event) (cs : List Carrier) → AreNumbered s.files → meets (step s e).entry.writes cs ≡ false → Agree s t cs → Agree (step s e).state t cs
passed s t e cs are off a =
    both_hold (λ (c : Carrier). is_among c (step s e).entry.writes ≡ false) (AgreeOn s t) (AgreeOn (step s e).state t) cs
    (λ c h k. agree_trans (step s e).state s t c (step_keeps_but s e are c h) k) (apart (step s e).entry.writes cs off) a

-- what holds after the selected ones
pub record Alone (s t : SyncState) (ms : List Bool) (es : List Event) (rs : List Carrier) : Type 0 where
  pub agree : Agree (sync_run s es) (sync_run t (selected ms es)) rs
  pub alike : AreAlike (selected ms (sync_log s es)) (sync_log t (selected ms es))

pub alone : (es : List Event) (ms : List Bool) (s t : SyncState) (rs : List Carrier) → AreNumbered s.files → AreNumbered t.files
    → IsClosed ms (sync_log s es) rs → Agree s t (needed ms (sync_log s es) rs) → Alone s t ms es rs
alone [] [] s t rs are also closed a = record { agree = a; alike = tt }
alone [] (m ∷ ms) s t rs are also closed a = absurd closed
alone (e ∷ es) [] s t rs are also closed a = absurd closed
alone (e ∷ es) (true ∷ ms) s t rs are also closed a =
    let later = needed ms (sync_log (step s e).state es) rs in
    let reads = all_right (AgreeOn s t) later (step s e).entry.reads a in
    let rest = alone es ms (step s e).state (step t e).state rs (step_numbered s e are) (step_numbered t e also) closed.1
    (taken s t e later are also reads (all_left (AgreeOn s t) later (step s e).entry.reads a)) in
    record { agree = rest.agree; alike = ((framed s t e are also reads).alike, rest.alike) }
alone (e ∷ es) (false ∷ ms) s t rs are also closed a =
    let later = needed ms (sync_log (step s e).state es) rs in
    let off : meets (step s e).entry.writes later ≡ false = elim closed.0 as (λ _. meets (step s e).entry.writes later ≡ false) [ inl h ↦ absurd (false≢true h) | inr h ↦ h ] in
    let rest = alone es ms (step s e).state t rs (step_numbered s e are) also closed.1 (passed s t e later are off a) in
    record { agree = rest.agree; alike = rest.alike }

pub run_numbered : (es : List Event) (s : SyncState) → AreNumbered s.files → AreNumbered (sync_run s es).files
run_numbered [] s are = are
run_numbered (e ∷ es) s are = run_numbered es (step s e).state (step_numbered s e are)
