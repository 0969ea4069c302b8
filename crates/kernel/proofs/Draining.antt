-- A drain ends with every change committed, and is refused for want of room or of memory alone.
use Rattle.std.proofs.Common.{◌≡◌, ℕ, ◌+◌, ◌-◌, ◌<◌, ◌≤◌, ◌==◌, Bool, true, false, not, if◌then◌else◌, List, [], ◌∷◌, ◌++◌, length, drop, min, Option, Some, None, is_none, Ok, Err, refl, sym, ap, subst, ◌∙◌, arith, length-append, length-drop}
use Rattle.disk_model.proofs.Whole.{group_short}
use Rattle.std.proofs.lemmas.Bool.{eqb-false}
use Rattle.disk_model.specs.Storage.{Storage, is_empty, is_quiet, fits, group, checkpoint, group_of, cut, next_stage, advanced, piece_at, lesser, least_start, with_completion, completed_by, failed_by}
use Rattle.disk_model.specs.Rebuild.{rebuild}
use Rattle.disk_model.specs.declared.change.Change.{Change}
use Rattle.disk_model.specs.declared.change.NamedFile.{NamedFile}
use Rattle.disk_model.specs.declared.change.Piece.{Piece}
use Rattle.kernel_model.specs.Answers.{Kernel, Applies, Refuses, ◌⇒◌, first_of, refusal, is_full, now, committed, changes, uncommitted, in_flight, with_event}
use Rattle.kernel_model.specs.Drains.{IsAllCommitted, HasNoFailure, completion_or_cut, Drains, drain_refusal, IsDrained}
use Rattle.kernel_model.specs.Paths.{changes_in_log}
use Rattle.kernel_model.specs.Steps.{step}
use Rattle.kernel_model.specs.World.{World, first_world, happens, after, stored}
use Rattle.kernel_model.proofs.Runs.{changes_in_log-entry, now-with_event}
use Rattle.kernel_model.specs.declared.answer.Answer.{Answer}
use Rattle.kernel_model.specs.declared.answer.Refused.{Refused}
use Rattle.kernel_model.specs.declared.answer.Refused.TheVariants as refused
use Rattle.kernel_model.specs.declared.event.Event.{Event}
use Rattle.kernel_model.specs.declared.event.Event.TheVariants.{Turn, Enter, Cut, Complete, Fail}

-- ---- no more is committed, or about to be, than there is
record IsWithin (n : ℕ) (st : Storage) : Type 0 where
  committed : st.committed ≤ n
  next : st.next_committed ≤ n

within-more : (n m : ℕ) (st : Storage) → n ≤ m → IsWithin n st → IsWithin m st
within-more n m st more h =
    let is = h.committed in
    let then_so = h.next in
    record { committed = omega (arith, more, is); next = omega (arith, more, then_so) }

cut-within : (n : ℕ) (st : Storage) (cs : List Change) (files : List NamedFile) → st.committed + length cs ≤ n → IsWithin n st → IsWithin n (cut st cs files)
cut-within n st [] files room h = h
cut-within n st (c ∷ cs) files room h = by (is_quiet st.device) (fits st (group_of (c ∷ cs)))
  where
    by : (quiet fit : Bool) → IsWithin n (if quiet then (if fit then group st (group_of (c ∷ cs)) else checkpoint st (length (c ∷ cs)) (rebuild files)) else st)
    by true true = let short = group_short (c ∷ cs) in record { committed = h.committed; next = omega (arith, short, room) }
    by true false = record { committed = h.committed; next = room }
    by false fit = h

next-within : (n : ℕ) (st : Storage) (stages : List (List Piece)) → IsWithin n st → IsWithin n (next_stage st stages)
next-within n st [] h = record { committed = h.next; next = h.next }
next-within n st (stage ∷ stages) h = record { committed = h.committed; next = h.next }

advanced-within : (n : ℕ) (st : Storage) → IsWithin n st → IsWithin n (advanced st)
advanced-within n st h = by (is_quiet st.device)
  where
    by : (b : Bool) → IsWithin n (if b then next_stage st st.stages else st)
    by true = next-within n st st.stages h
    by false = h

completed-within : (n : ℕ) (st : Storage) (at : ℕ) (o : Option Piece) → IsWithin n st → IsWithin n (completed_by st at o)
completed-within n st at None h = h
completed-within n st at (Some p) h =
    advanced-within n (record st { device = with_completion st.device at p }) (record { committed = h.committed; next = h.next })

failed-within : (n : ℕ) (st : Storage) (at : ℕ) (o : Option Piece) → IsWithin n st → IsWithin n (failed_by st at o)
failed-within n st at None h = h
failed-within n st at (Some p) h = record { committed = h.committed; next = h.next }

stored-within : (n : ℕ) (st : Storage) (cs : List Change) (files : List NamedFile) (e : Event) → n ≡ length cs → IsWithin n st
    → IsWithin n (stored st cs files e)
stored-within n st cs files (Turn pid k) size h = h
stored-within n st cs files (Enter pid) size h = h
stored-within n st cs files Cut size h =
    let rest = length-drop st.committed cs in
    let is = h.committed in
    cut-within n st (drop st.committed cs) files (omega (arith, rest, size, is)) h
stored-within n st cs files (Complete at) size h = completed-within n st at (piece_at st.device.in_flight at) h
stored-within n st cs files (Fail at) size h = failed-within n st at (piece_at st.device.in_flight at) h

happens-within : (w : World) (e : Event) → IsWithin (changes w) w.storage → IsWithin (changes (happens w e)) (happens w e).storage
happens-within w e h =
    let more : length (changes_in_log (happens w e).log) ≡ length (changes_in_log w.log) + length _ =
    ap (λ (cs : List Change). length cs) (changes_in_log-entry w.log (step w.sync e).entry) ∙ length-append (changes_in_log w.log) _ in
    within-more (changes w) (changes (happens w e)) (happens w e).storage (omega (arith, more))
    (stored-within (changes w) w.storage (changes_in_log w.log) w.sync.files.living e refl h)

after-within : (w : World) (es : List Event) → IsWithin (changes w) w.storage → IsWithin (changes (after w es)) (after w es).storage
after-within w [] h = h
after-within w (e ∷ es) h = after-within (happens w e) es (happens-within w e h)

committed-within : (k : Kernel) → committed (now k) ≤ changes (now k)
committed-within k = (after-within (first_world k.boot) k.history (record { committed = omega arith; next = omega arith })).committed

-- ---- a Cut and a completion fail no write
cut-sound : (st : Storage) (cs : List Change) (files : List NamedFile) → (cut st cs files).device.failed ≡ st.device.failed
cut-sound st [] files = refl
cut-sound st (c ∷ cs) files = by (is_quiet st.device) (fits st (group_of (c ∷ cs)))
  where
    by : (quiet fit : Bool)
        → (if quiet then (if fit then group st (group_of (c ∷ cs)) else checkpoint st (length (c ∷ cs)) (rebuild files)) else st).device.failed ≡ st.device.failed
    by true true = refl
    by true false = refl
    by false fit = refl

next-sound : (st : Storage) (stages : List (List Piece)) → (next_stage st stages).device.failed ≡ st.device.failed
next-sound st [] = refl
next-sound st (stage ∷ stages) = refl

advanced-sound : (st : Storage) → (advanced st).device.failed ≡ st.device.failed
advanced-sound st = by (is_quiet st.device)
  where
    by : (b : Bool) → (if b then next_stage st st.stages else st).device.failed ≡ st.device.failed
    by true = next-sound st st.stages
    by false = refl

completed-sound : (st : Storage) (at : ℕ) (o : Option Piece) → (completed_by st at o).device.failed ≡ st.device.failed
completed-sound st at None = refl
completed-sound st at (Some p) = advanced-sound (record st { device = with_completion st.device at p })

stays-sound : (k : Kernel) (o : Option ℕ) → (now (with_event k (completion_or_cut o))).storage.device.failed ≡ (now k).storage.device.failed
stays-sound k None =
    ap (λ (w : World). w.storage.device.failed) (now-with_event k Cut) ∙ cut-sound (now k).storage (uncommitted (now k)) (now k).sync.files.living
stays-sound k (Some at) =
    ap (λ (w : World). w.storage.device.failed) (now-with_event k (Complete at))
    ∙ completed-sound (now k).storage at (piece_at (now k).storage.device.in_flight at)

-- ---- the write that begins first is in flight
lesser-some : (a : ℕ) (o : Option ℕ) → lesser (Some a) o ≡ None → ⊥
lesser-some a None e = cc
lesser-some a (Some b) e = cc

least-none : (ps : List Piece) → least_start ps ≡ None → is_empty ps ≡ true
least-none [] e = refl
least-none (p ∷ ps) e = absurd (lesser-some p.at (least_start ps) e)

-- where the first piece does not begin there, the others' least place is there
least-after : (a at : ℕ) (o : Option ℕ) → lesser (Some a) o ≡ Some at → (a == at) ≡ false → o ≡ Some at
least-after a at None e other =
    let same : a ≡ at = cc in
    absurd (eqb-false a at other same)
least-after a at (Some b) e other =
    let least : min a b ≡ at = cc in
    let differs : a ≡ at → ⊥ = eqb-false a at other in
    let same : b ≡ at = omega (arith, least, differs) in
    ap (λ n. Some n) same

least-there : (ps : List Piece) (at : ℕ) → least_start ps ≡ Some at → is_none (piece_at ps at) ≡ false
least-there [] at e = cc
least-there (p ∷ ps) at e = elim (p.at == at) as (λ (b : Bool). (p.at == at) ≡ b → is_none (if b then Some p else piece_at ps at) ≡ false) [
  | true ↦ λ h. refl
  | false ↦ λ h. least-there ps at (least-after p.at at (least_start ps) e h)
] refl

-- ---- what refuses the next event of a drain
drop-some : {A : Type 0} (n : ℕ) (xs : List A) → n < length xs → is_empty (drop n xs) ≡ false
drop-some {A} n xs h = by (drop n xs) (length-drop n xs)
  where
    by : (ys : List A) → length ys ≡ length xs - n → is_empty ys ≡ false
    by [] size = absurd (omega (arith, size, h))
    by (y ∷ ys) size = refl

cut-refused : (a b c full : Bool) → a ≡ true → b ≡ true → c ≡ false
    → first_of ((full ⇒ refused.Budget) ∷ (not a ⇒ refused.DiskFailed) ∷ (not b ⇒ refused.GroupInFlight) ∷ (c ⇒ refused.NothingToCut) ∷ [])
    ≡ first_of ((not a ⇒ refused.DiskFailed) ∷ (full ⇒ refused.Budget) ∷ [])
cut-refused true true false true x y z = refl
cut-refused true true false false x y z = refl
cut-refused false b c full x y z = cc
cut-refused true false c full x y z = cc
cut-refused true true true full x y z = cc

write-refused : (a c full : Bool) → a ≡ true → c ≡ false
    → first_of ((full ⇒ refused.Budget) ∷ (c ⇒ refused.NoSuchWrite) ∷ []) ≡ first_of ((not a ⇒ refused.DiskFailed) ∷ (full ⇒ refused.Budget) ∷ [])
write-refused true false true x z = refl
write-refused true false false x z = refl
write-refused false c full x z = cc
write-refused true true full x z = cc

next-refused : (k : Kernel) (o : Option ℕ) → in_flight (now k) ≡ o → HasNoFailure (now k) → committed (now k) < changes (now k)
    → refusal k (completion_or_cut o) ≡ drain_refusal k
next-refused k None none sound some =
    cut-refused (is_empty (now k).storage.device.failed) (is_empty (now k).storage.device.in_flight) (is_empty (uncommitted (now k))) (is_full k)
    sound (least-none (now k).storage.device.in_flight none) (drop-some (committed (now k)) (changes_in_log (now k).log) some)
next-refused k (Some at) there sound some =
    write-refused (is_empty (now k).storage.device.failed) (is_none (piece_at (now k).storage.device.in_flight at)) (is_full k)
    sound (least-there (now k).storage.device.in_flight at there)

-- ---- the drain so far
pub record IsDraining (first k : Kernel) : Type 0 where
  pub events : List Event
  pub drains : Drains first events k
  pub sound : HasNoFailure (now k)

-- the next event of a drain is accepted
record IsNext (k : Kernel) (e : Event) : Type 0 where
  sound : HasNoFailure (now k)
  some : IsAllCommitted (now k) → ⊥
  is : e ≡ completion_or_cut (in_flight (now k))
  fine : refusal k e ≡ None

drains-more : (first k : Kernel) (es : List Event) (e : Event) → Drains first es k → IsNext k e → Drains first (es ++ e ∷ []) (with_event k e)
drains-more first k [] e h n =
    let m : IsNext first e = subst (λ (x : Kernel). IsNext x e) h n in
    (m.sound, m.some, m.is, m.fine, ap (λ (x : Kernel). with_event x e) h)
drains-more first k (x ∷ es) e h n = (h.0, h.1, h.2, h.3, drains-more (with_event first x) k es e h.4 n)

pub draining-more : (first k new : Kernel) (e : Event) (a : Answer) → e ≡ completion_or_cut (in_flight (now k)) → committed (now k) < changes (now k)
    → IsDraining first k → Applies k e new (Ok a) → IsDraining first new
draining-more first k new e a is some h done =
    subst (λ (x : Kernel). IsDraining first x) (sym done.2) (record {
      events = h.events ++ e ∷ [];
      drains = drains-more first k h.events e h.drains (record { sound = h.sound; some = λ all. omega (arith, some, all); is = is; fine = done.0 });
      sound =
          ap (λ (x : Event). is_empty (now (with_event k x)).storage.device.failed) is
          ∙ ap (λ (ps : List Piece). is_empty ps) (stays-sound k (in_flight (now k)))
          ∙ h.sound;
    })

-- ---- how a drain ends
pub drained : (first k : Kernel) → IsDraining first k → changes (now k) ≤ committed (now k) → IsDrained first k (Ok tt)
drained first k h all =
    let within = committed-within k in
    record { events = h.events; drains = h.drains; outcome = (h.sound, omega (arith, all, within)) }

pub drain-refused : (first k new : Kernel) (e : Event) (why : Refused) → e ≡ completion_or_cut (in_flight (now k)) → committed (now k) < changes (now k)
    → IsDraining first k → Applies k e new (Err why) → IsDrained first new (Err why)
drain-refused first k new e why is some h done =
    subst (λ (x : Kernel). IsDrained first x (Err why)) (sym done.1) (record {
      events = h.events;
      drains = h.drains;
      outcome = (
        (λ end. omega (arith, some, end.1)),
        subst (λ (o : Option Refused). Refuses o why)
            (ap (λ (x : Event). refusal k x) is ∙ next-refused k (in_flight (now k)) refl h.sound some) done.0,
      );
    })

sound-or-failed : (a : Bool) → not a ≡ true → a ≡ true → ⊥
sound-or-failed true h same = cc
sound-or-failed false h same = cc

failed-first : (a full : Bool) → not a ≡ true → Refuses (first_of ((not a ⇒ refused.DiskFailed) ∷ (full ⇒ refused.Budget) ∷ [])) refused.DiskFailed
failed-first false full h = refl
failed-first true full h = cc

pub drain-failed : (k : Kernel) → not (is_empty (now k).storage.device.failed) ≡ true → IsDrained k k (Err refused.DiskFailed)
drain-failed k h = record {
  events = [];
  drains = refl;
  outcome = (
    (λ end. sound-or-failed (is_empty (now k).storage.device.failed) h end.0),
    failed-first (is_empty (now k).storage.device.failed) (is_full k) h,
  );
}
