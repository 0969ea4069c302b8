-- Events as moves: independent ones commute, and one that writes nothing does nothing.
use Rattle.std.proofs.Common.{◌≡◌, ℕ, ◌&&◌, not, Bool, true, false, List, [], ◌++◌, append-nil, append_assoc, Option, None, refl, sym, ap, ◌∙◌}
use Rattle.std.proofs.lemmas.Bool.{false≢true, and_parts}
use Rattle.kernel_model.specs.Entries.{Entry, is_among, meets}
use Rattle.kernel_model.specs.Limits.{AreNumbered}
use Rattle.kernel_model.specs.Rows.{CallEffect}
use Rattle.kernel_model.specs.Shown.{bytes_for}
use Rattle.kernel_model.specs.State.{SyncState, Process}
use Rattle.kernel_model.specs.Steps.{Transition, after_effect, step}
use Rattle.kernel_model.specs.declared.carrier.Carrier.{Carrier}
use Rattle.kernel_model.specs.declared.effect.Output.{Output}
use Rattle.kernel_model.specs.declared.event.Event.{Event}
use Rattle.kernel_model.specs.declared.request.Verdict.{Verdict}
use Rattle.kernel_model.specs.declared.request.Verdict.TheVariants.{Waits, Replies, Ends}
use Rattle.kernel_model.proofs.Transitions.{each_event, of_step}
use Rattle.kernel_laws.proofs.Frames.{step_keeps_but}
use Rattle.kernel_laws.proofs.Selected.{step_numbered}
use Rattle.order_laws.specs.Moves.{Seen, Label, label_of, is_one_terminal, are_independent, writes_some, label_in, seen_after, events}
use Rattle.order_laws.specs.Orders.{Commutes}
use Rattle.order_laws.proofs.SameStates.{same_state}
use Rattle.order_laws.proofs.Swapping.{same_label, f_alike, e_alike, same_last, other_text}

-- ---- an event that writes nothing
record IsIdle (e : Entry) : Type 0 where
  pub writes : e.writes ≡ []
  pub output : e.output ≡ None

idle_effect : (s : SyncState) (pid : ℕ) (p : Process) (e : CallEffect) (v : Verdict) → writes_some (label_of (after_effect s pid p e v).entry) ≡ false → IsIdle (after_effect s pid p e v).entry
idle_effect s pid p e Waits h = record { writes = refl; output = refl }
idle_effect s pid p e (Replies r) h = absurd (false≢true (sym h))
idle_effect s pid p e (Ends status) h = absurd (false≢true (sym h))

idle_step : (s : SyncState) (e : Event) → writes_some (label_of (step s e).entry) ≡ false → IsIdle (step s e).entry
idle_step s e = of_step (λ (t : Transition). writes_some (label_of t.entry) ≡ false → IsIdle t.entry) s (λ h. record { writes = refl; output = refl })
    (λ pid. each_event (λ (t : Transition). writes_some (label_of t.entry) ≡ false → IsIdle t.entry) s pid
    (λ h. record { writes = refl; output = refl })
    (λ n p at lives h. absurd (false≢true (sym h)))
    (λ p f at lives is. idle_effect s pid p f f.verdict)) e

-- what is seen, by its parts
pub same_seen : (s t : Seen) → s.sync ≡ t.sync → ((k : ℕ) → s.texts k ≡ t.texts k) → s ≡ t
same_seen s t sync texts = ap (λ (u : SyncState). record s { sync = u }) sync ∙ ap (λ (f : ℕ → List ℕ). record t { texts = f }) (λ i k. texts k i)

idle : (s : Seen) (e : Event) → AreNumbered s.sync.files → writes_some (label_in s e) ≡ false → seen_after s e ≡ s
idle s e are h =
    let quiet = idle_step s.sync e h in
    same_seen (seen_after s e) s
    (same_state (step s.sync e).state s.sync (step_numbered s.sync e are) are (λ c. step_keeps_but s.sync e are c (ap (λ (ws : List Carrier). is_among c ws) quiet.writes)))
    (λ t. ap (λ (o : Option Output). s.texts t ++ bytes_for t o) quiet.output ∙ append-nil (s.texts t))

-- ---- what independence says
pub record Independent (a b : Label) : Type 0 where
  pub off : meets a.writes b.reads ≡ false
  pub back : meets b.writes a.reads ≡ false
  pub terminals : is_one_terminal a.output b.output ≡ false

pub independent : (a b : Label) → are_independent a b ≡ true → Independent a b
independent a b h =
    let y = and_parts (not (meets a.writes b.reads) && not (meets b.writes a.reads)) (not (is_one_terminal a.output b.output)) h in
    let z = and_parts (not (meets a.writes b.reads)) (not (meets b.writes a.reads)) y.0 in
    record { off = not_true _ z.0; back = not_true _ z.1; terminals = not_true _ y.1 }
  where
    not_true : (b : Bool) → not b ≡ true → b ≡ false
    not_true true h = absurd (false≢true h)
    not_true false h = refl

-- and how to show it
pub from_parts : (a b : Label) → Independent a b → are_independent a b ≡ true
from_parts a b h = rw (h.off, h.back, h.terminals) refl

-- ---- two that are independent
module _ (s : Seen) (e f : Event) (are : AreNumbered s.sync.files)
    (h : are_independent (label_in s e) (label_in (seen_after s e) f) ≡ true) where
  known : Independent (label_in s e) (label_in (seen_after s e) f)
  known = independent (label_in s e) (label_in (seen_after s e) f) h

  f_same : label_in (seen_after s e) f ≡ label_in s f
  f_same = same_label (step (step s.sync e).state f).entry (step s.sync f).entry (f_alike s.sync e f are known.off known.back)

  e_same : label_in s e ≡ label_in (seen_after s f) e
  e_same = same_label (step s.sync e).entry (step (step s.sync f).state e).entry (e_alike s.sync e f are known.off known.back)

  texts_same : (t : ℕ) → (seen_after (seen_after s f) e).texts t ≡ (seen_after (seen_after s e) f).texts t
  texts_same t =
      let a = (label_in s e).output in
      let b = (label_in (seen_after s e) f).output in
      ap (λ (l : Label). (s.texts t ++ bytes_for t l.output) ++ bytes_for t (label_in (seen_after s f) e).output) (sym f_same)
      ∙ ap (λ (l : Label). (s.texts t ++ bytes_for t b) ++ bytes_for t l.output) (sym e_same)
      ∙ append_assoc (s.texts t) (bytes_for t b) (bytes_for t a)
      ∙ ap (λ bs. s.texts t ++ bs) (sym (other_text a b known.terminals t))
      ∙ sym (append_assoc (s.texts t) (bytes_for t a) (bytes_for t b))

  same_after : seen_after (seen_after s f) e ≡ seen_after (seen_after s e) f
  same_after = same_seen (seen_after (seen_after s f) e) (seen_after (seen_after s e) f) (same_last s.sync e f are known.off known.back) texts_same

pub events_commute : Commutes events (λ s. AreNumbered s.sync.files)
events_commute = record {
  keeps = λ s e are. step_numbered s.sync e are;
  idle = idle;
  before = λ s e f are h. sym (f_same s e f are h);
  afterwards = λ s e f are h. sym (e_same s e f are h);
  same = same_after;
}
