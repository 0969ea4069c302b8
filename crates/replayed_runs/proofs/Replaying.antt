-- Events of a core, as the calls of a run have them.
use Rattle.std.proofs.Common.{arith, ◌≡◌, ◌⊎◌, ◌∙◌, ◌++◌, ◌∷◌, [], ◌+◌, ◌==◌, ◌<◌, ◌||◌, nat_lt, nat_le, ℕ, zero, suc, List, map, length, drop, take, slice_get, slice_set, Bool, true, false, not, Option, Some, None, IfSome, is_some, append-nil, refl, sym, ap, subst, inl, inr}
use Rattle.std.specs.Prelude.{if◌then◌else◌, option_to_list}
use Rattle.std.proofs.lemmas.Bool.{eq-eqb, false≢true, or_left, or_right}
use Rattle.std.proofs.lemmas.List.{length-append}
use Rattle.machine_model.specs.States.{stopped_at}
use Rattle.machine_model.specs.declared.reply.Reply.{Reply}
use Rattle.machine_model.specs.declared.stop.Stop.{Stop}
use Rattle.kernel_model.specs.Answers.{Kernel, Refuses, entered, is_full, is_lent, limit, now, outcome_of, process_of, refusal, enter_refusal, turn_refusal, with_event}
use Rattle.kernel_model.specs.Entries.{is_among}
use Rattle.kernel_model.specs.Limits.{AreNumbered}
use Rattle.kernel_model.specs.Rows.{CallEffect}
use Rattle.kernel_model.specs.Shown.{bytes_for}
use Rattle.kernel_model.specs.State.{SyncState, Process, shared, process_at, put_process, with_process}
use Rattle.kernel_model.specs.Steps.{Transition, impossible, own_entry, after_run, after_turn, after_reply, after_effect, after_effect_if, after_enter, effect_at, forked, step}
use Rattle.kernel_model.specs.declared.answer.Refused.{Refused}
use Rattle.kernel_model.specs.declared.answer.Refused.TheVariants as refused
use Rattle.kernel_model.specs.declared.carrier.Carrier.{Carrier}
use Rattle.kernel_model.specs.declared.carrier.Carrier.TheVariants.{Proc, Tasks}
use Rattle.kernel_model.specs.declared.event.Event.{Event}
use Rattle.kernel_model.specs.declared.event.Event.TheVariants.{Turn, Enter}
use Rattle.kernel_model.specs.declared.request.Verdict.{Verdict}
use Rattle.kernel_model.specs.declared.request.Verdict.TheVariants.{Waits, Replies, Ends}
use Rattle.kernel_model.proofs.Limits.{put_length}
use Rattle.kernel_model.proofs.Numbering.{numbered_first}
use Rattle.kernel_laws.proofs.Effects.{effect_keeps}
use Rattle.kernel_laws.proofs.Selected.{step_numbered}
use Rattle.order_laws.specs.Moves.{Seen, Label, label_in, label_of, seen_after, events, first_seen, writes_some, wrote, turns, call_after}
use Rattle.order_laws.specs.Orders.{reached}
use Rattle.order_laws.specs.Outcomes.{rested}
use Rattle.order_laws.proofs.Choosing.{reached-append}
use Rattle.order_laws.proofs.Commuting.{events_commute}
use Rattle.order_laws.proofs.Outcomes.{tells}
use Rattle.order_laws.proofs.Settling.{after_run_rested, goers_are, turn_at, turn_ended, turn_only}
use Rattle.replayed_runs.specs.Replays.{is_gone, seen_of, was_made}

-- ---- what is seen of a core
-- after one more event
pub seen_more : (k : Kernel) (e : Event) → seen_of (with_event k e) ≡ seen_after (seen_of k) e
seen_more k e = reached-append events (λ (s : Seen). AreNumbered s.sync.files) events_commute k.history (e ∷ []) (first_seen k.boot)

pub seen_sync : (k : Kernel) → (seen_of k).sync ≡ (now k).sync
seen_sync k = (tells k.boot k.history).sync

run_numbered : (es : List Event) (s : Seen) → AreNumbered s.sync.files → AreNumbered (reached events s es).sync.files
run_numbered [] s are = are
run_numbered (e ∷ es) s are = run_numbered es (seen_after s e) (step_numbered s.sync e are)

pub numbered : (k : Kernel) → AreNumbered (seen_of k).sync.files
numbered k = run_numbered k.history (first_seen k.boot) (numbered_first k.boot.files)

-- an event that writes nothing
pub still : (k : Kernel) (e : Event) → writes_some (label_in (seen_of k) e) ≡ false → seen_after (seen_of k) e ≡ seen_of k
still k e = events_commute.idle (seen_of k) e (numbered k)

-- ---- refusals
abbrev gone_in : Option Refused → Bool
gone_in None = false
gone_in (Some why) = is_gone why

given : (r : Option Refused) (why : Refused) → Refuses r why → is_gone why ≡ true → r ≡ Some why
given None why is gone = absurd (false≢true (ap is_gone (sym is) ∙ gone))
given (Some w) why is gone = ap (λ (x : Refused). Some x) (sym is)

-- what refuses a process that can have the event
two_left : (a b : Bool) → gone_in (if a then Some refused.Lent else (if b then Some refused.Budget else None)) ≡ false
two_left true b = refl
two_left false true = refl
two_left false false = refl

turn_by : (s : SyncState) (p n : ℕ) (lent full : Bool) (why : Refused) (o : Option Process) → turn_refusal o lent full n ≡ Some why → is_gone why ≡ true
    → writes_some (label_of (after_turn s p n o).entry) ≡ false
turn_by s p n lent full why None is gone = refl
turn_by s p n lent full why (Some z) is gone = by (is_some z.status) refl
  where
    by : (b : Bool) → is_some z.status ≡ b → writes_some (label_of (if b then impossible p s else record { state = with_process s p (after_run n z); entry = own_entry p }).entry) ≡ false
    by true ended = refl
    by false lives =
        let full_now = nat_lt limit (z.state.count + n) || full in
        let others : Option Refused = if lent then Some refused.Lent else (if full_now then Some refused.Budget else None) in
        let is_other : others ≡ Some why = ap (λ (b : Bool). if b then Some refused.Ended else others) (sym lives) ∙ is in
        absurd (false≢true (sym (two_left lent full_now) ∙ ap gone_in is_other ∙ gone))

enter_by : (s : SyncState) (p : ℕ) (lent full : Bool) (why : Refused) (o : Option Process) → enter_refusal o lent full ≡ Some why → is_gone why ≡ true
    → writes_some (label_of (after_enter s p o).entry) ≡ false
enter_by s p lent full why None is gone = refl
enter_by s p lent full why (Some z) is gone = by (is_some z.status) refl
  where
    by : (b : Bool) → is_some z.status ≡ b
        → writes_some (label_of (if b then impossible p s else after_effect_if s p z (effect_at (shared s) p z (stopped_at z.state))).entry) ≡ false
    by true ended = refl
    by false lives = by_stop (stopped_at z.state) refl
      where
        by_stop : (o : Option Stop) → stopped_at z.state ≡ o → writes_some (label_of (after_effect_if s p z (effect_at (shared s) p z o)).entry) ≡ false
        by_stop None stands = refl
        by_stop (Some stop) stands =
            let full_now = nat_le limit z.state.count || full in
            let last : Option Refused = if full_now then Some refused.Budget else None in
            let is_other : (if lent then Some refused.Lent else (if not (is_some (stopped_at z.state)) then Some refused.NotStopped else last)) ≡ Some why =
            ap (λ (b : Bool). if b then Some refused.Ended else (if lent then Some refused.Lent else (if not (is_some (stopped_at z.state)) then Some refused.NotStopped else last))) (sym lives) ∙ is in
            let stands_there : (if lent then Some refused.Lent else last) ≡ Some why =
            ap (λ (o : Option Stop). if lent then Some refused.Lent else (if not (is_some o) then Some refused.NotStopped else last)) (sym stands) ∙ is_other in
            absurd (false≢true (sym (two_left lent full_now) ∙ ap gone_in stands_there ∙ gone))

-- an event that a process cannot have does nothing
pub turn_gone : (k : Kernel) (p n : ℕ) (why : Refused) → Refuses (refusal k (Turn p n)) why → is_gone why ≡ true → seen_after (seen_of k) (Turn p n) ≡ seen_of k
turn_gone k p n why is gone =
    let here = turn_by (now k).sync p n (is_lent k p) (is_full k) why (process_of k p) (given (refusal k (Turn p n)) why is gone) gone in
    still k (Turn p n) (subst (λ (s : SyncState). writes_some (label_of (step s (Turn p n)).entry) ≡ false) (sym (seen_sync k)) here)

pub enter_gone : (k : Kernel) (p : ℕ) (why : Refused) → Refuses (refusal k (Enter p)) why → is_gone why ≡ true → writes_some (label_in (seen_of k) (Enter p)) ≡ false
enter_gone k p why is gone =
    subst (λ (s : SyncState). writes_some (label_of (step s (Enter p)).entry) ≡ false) (sym (seen_sync k))
    (enter_by (now k).sync p (is_lent k p) (is_full k) why (process_of k p) (given (refusal k (Enter p)) why is gone) gone)

-- ---- what an Enter is answered
abbrev Says : Transition → Type 0
Says t = was_made (entered (outcome_of t.entry.item)) ≡ writes_some (label_of t.entry)

says_by : (s : SyncState) (p : ℕ) (o : Option Process) → Says (after_enter s p o)
says_by s p None = refl
says_by s p (Some z) = by (is_some z.status)
  where
    by_verdict : (e : CallEffect) (v : Verdict) → Says (after_effect s p z e v)
    by_verdict e Waits = refl
    by_verdict e (Replies r) = refl
    by_verdict e (Ends status) = refl

    by_effect : (o : Option CallEffect) → Says (after_effect_if s p z o)
    by_effect None = refl
    by_effect (Some e) = by_verdict e e.verdict

    by : (b : Bool) → Says (if b then impossible p s else after_effect_if s p z (effect_at (shared s) p z (stopped_at z.state)))
    by true = refl
    by false = by_effect (effect_at (shared s) p z (stopped_at z.state))

pub made_works : (k : Kernel) (p : ℕ) → was_made (entered (outcome_of (step (now k).sync (Enter p)).entry.item)) ≡ writes_some (label_in (seen_of k) (Enter p))
made_works k p =
    says_by (now k).sync p (process_of k p)
    ∙ ap (λ (s : SyncState). writes_some (label_of (step s (Enter p)).entry)) (sym (seen_sync k))

-- ---- the Turns of a call
-- the run after an event that came to this
abbrev seen_by : Seen → Transition → Seen
seen_by s t = record { sync = t.state; texts = λ k. s.texts k ++ bytes_for k t.entry.output }

-- The call is its Enter, which came to this, and a Turn of its process; and one of the process that it made, if it made one, which is the last.
abbrev Goes : ℕ → Seen → ℕ → Transition → Type 0
Goes n s p t =
    let after = seen_by s t in
    let all = reached events after (turns n (wrote (label_of t.entry) (p ∷ option_to_list t.entry.child))) in
    ((length t.state.processes ≡ length s.sync.processes) × (all ≡ seen_after after (Turn p n)))
    ⊎ ((length t.state.processes ≡ length s.sync.processes + 1) × (all ≡ seen_after (seen_after after (Turn p n)) (Turn (length s.sync.processes + 1) n)))

abbrev GoesIfWorks : ℕ → Seen → ℕ → Transition → Type 0
GoesIfWorks n s p t = writes_some (label_of t.entry) ≡ true → Goes n s p t

module _ (n : ℕ) (s : Seen) (p : ℕ) (are : AreNumbered s.sync.files) where
  own_written : (cs : List Carrier) → is_among (Proc p) (Proc p ∷ cs) ≡ true
  own_written cs = or_left (p == p) (is_among (Proc p) cs) (eq-eqb p p refl)

  module _ (z : Process) (e : CallEffect) (is : effect_at (shared s.sync) p z (stopped_at z.state) ≡ Some e) where
    abbrev IsNew : ℕ → Type 0
    IsNew k = (k ≡ length s.sync.processes + 1) × (is_among Tasks e.writes ≡ true) × (is_among (Proc k) e.writes ≡ true)

    replies_by : (r : Reply) (o : Option ℕ) → e.child ≡ o → IfSome o IsNew → Goes n s p (after_effect s.sync p z e (Replies r))
    replies_by r None none new =
        let t : Transition = after_effect s.sync p z e (Replies r) in
        let l : Label = label_of t.entry in
        let long : length t.state.processes ≡ length s.sync.processes =
        ap (λ (o : Option ℕ). length (put_process s.sync.processes p (after_reply z e r) ++ forked z o)) none
        ∙ ap (λ (ps : List Process). length ps) (append-nil (put_process s.sync.processes p (after_reply z e r)))
        ∙ put_length s.sync.processes p (after_reply z e r) in
        let who : wrote l (p ∷ option_to_list t.entry.child) ≡ p ∷ [] =
        ap (λ (o : Option ℕ). wrote l (p ∷ option_to_list o)) none ∙ goers_are n p l None (own_written e.writes) tt in
        inl (long, ap (λ (rs : List ℕ). reached events (seen_by s t) (turns n rs)) who)
    replies_by r (Some k) some new =
        let t : Transition = after_effect s.sync p z e (Replies r) in
        let l : Label = label_of t.entry in
        let long : length t.state.processes ≡ length s.sync.processes + 1 =
        ap (λ (o : Option ℕ). length (put_process s.sync.processes p (after_reply z e r) ++ forked z o)) some
        ∙ length-append (put_process s.sync.processes p (after_reply z e r)) (forked z (Some k))
        ∙ ap (λ (m : ℕ). m + 1) (put_length s.sync.processes p (after_reply z e r)) in
        let who : wrote l (p ∷ option_to_list t.entry.child) ≡ p ∷ (length s.sync.processes + 1) ∷ [] =
        ap (λ (o : Option ℕ). wrote l (p ∷ option_to_list o)) some
        ∙ goers_are n p l (Some k) (own_written e.writes) (or_right (k == p) (is_among (Proc k) e.writes) new.2)
        ∙ ap (λ (j : ℕ). p ∷ j ∷ []) new.0 in
        inr (long, ap (λ (rs : List ℕ). reached events (seen_by s t) (turns n rs)) who)

    verdict_by : (v : Verdict) → GoesIfWorks n s p (after_effect s.sync p z e v)
    verdict_by Waits works = absurd (false≢true works)
    verdict_by (Replies r) works = replies_by r e.child refl (effect_keeps s.sync p z (stopped_at z.state) e are is).child
    verdict_by (Ends status) works =
        let t : Transition = after_effect s.sync p z e (Ends status) in
        inl (put_length s.sync.processes p _, ap (λ (rs : List ℕ). reached events (seen_by s t) (turns n rs)) (goers_are n p (label_of t.entry) None (own_written e.writes) tt))

  goes_by : (o : Option Process) → GoesIfWorks n s p (after_enter s.sync p o)
  goes_by None = λ works. absurd (false≢true works)
  goes_by (Some z) = by (is_some z.status)
    where
      by_effect : (o : Option CallEffect) → effect_at (shared s.sync) p z (stopped_at z.state) ≡ o → GoesIfWorks n s p (after_effect_if s.sync p z o)
      by_effect None is works = absurd (false≢true works)
      by_effect (Some e) is works = verdict_by z e is e.verdict works

      by : (b : Bool) → GoesIfWorks n s p (if b then impossible p s.sync else after_effect_if s.sync p z (effect_at (shared s.sync) p z (stopped_at z.state)))
      by true works = absurd (false≢true works)
      by false works = by_effect (effect_at (shared s.sync) p z (stopped_at z.state)) refl works

  -- a call that does something
  pub call_goes : writes_some (label_in s (Enter p)) ≡ true
      → ((length (seen_after s (Enter p)).sync.processes ≡ length s.sync.processes) × (call_after n s p ≡ seen_after (seen_after s (Enter p)) (Turn p n)))
      ⊎ ((length (seen_after s (Enter p)).sync.processes ≡ length s.sync.processes + 1)
      × (call_after n s p ≡ seen_after (seen_after (seen_after s (Enter p)) (Turn p n)) (Turn (length s.sync.processes + 1) n)))
  call_goes works = goes_by (process_at s.sync.processes p) works

  -- one that does nothing
  pub call_stays : writes_some (label_in s (Enter p)) ≡ false → call_after n s p ≡ s
  call_stays idle = stays (label_in s (Enter p)).writes refl
    where
      stays : (ws : List Carrier) → (label_in s (Enter p)).writes ≡ ws → call_after n s p ≡ s
      stays [] none =
          ap (λ (ws : List Carrier). reached events (seen_after s (Enter p)) (turns n (wrote (record (label_in s (Enter p)) { writes = ws }) (p ∷ option_to_list (label_in s (Enter p)).child)))) none
          ∙ nobody (p ∷ option_to_list (label_in s (Enter p)).child)
          ∙ events_commute.idle s (Enter p) are idle
        where
          nobody : (rs : List ℕ) → reached events (seen_after s (Enter p)) (turns n (wrote (record (label_in s (Enter p)) { writes = [] }) rs)) ≡ seen_after s (Enter p)
          nobody [] = refl
          nobody (r ∷ rs) = nobody rs
      stays (c ∷ cs) some = absurd (false≢true (sym idle ∙ ap (λ (ws : List Carrier). writes_some (record (label_in s (Enter p)) { writes = ws })) some))

-- The Turns of a call whose Enter is done, and came to k: where no process was made, and where one was.
module _ (n : ℕ) (k : Kernel) (s : Seen) (p last child : ℕ) (entered_by : seen_of k ≡ seen_after s (Enter p)) (are : AreNumbered s.sync.files)
    (works : writes_some (label_in s (Enter p)) ≡ true) (before : last ≡ length s.sync.processes) (now_last : child ≡ length (now k).sync.processes) where
  long : length (seen_after s (Enter p)).sync.processes ≡ child
  long = ap (λ (u : Seen). length u.sync.processes) (sym entered_by) ∙ ap (λ (u : SyncState). length u.processes) (seen_sync k) ∙ sym now_last

  pub goes_alone : child ≡ last → (after : Seen) → after ≡ seen_after (seen_of k) (Turn p n) → after ≡ call_after n s p
  goes_alone same after is = elim (call_goes n s p are works) as (λ _. after ≡ call_after n s p) [
    | inl one ↦ is ∙ ap (λ (u : Seen). seen_after u (Turn p n)) entered_by ∙ sym one.1
    | inr two ↦ let more = two.0 in absurd (let no : ⊥ = omega (arith, long, more, before, same) in no)
  ]

  pub goes_both : (child ≡ last → ⊥) → (after : Seen) → after ≡ seen_after (seen_after (seen_of k) (Turn p n)) (Turn child n) → after ≡ call_after n s p
  goes_both other after is = elim (call_goes n s p are works) as (λ _. after ≡ call_after n s p) [
    | inl one ↦ let same = one.0 in absurd (other (omega (arith, long, same, before)))
    | inr two ↦
        let more = two.0 in
        let who : child ≡ length s.sync.processes + 1 = omega (arith, long, more) in
        is ∙ ap (λ (u : Seen). seen_after (seen_after u (Turn p n)) (Turn child n)) entered_by
        ∙ ap (λ (q : ℕ). seen_after (seen_after (seen_after s (Enter p)) (Turn p n)) (Turn q n)) who ∙ sym two.1
  ]

-- ---- each process runs on once
-- of these processes the first j have run on
abbrev pub up_to : ℕ → ℕ → List Process → List Process
up_to n j ps = map (rested n) (take j ps) ++ drop j ps

-- the run where the first j processes have run on
abbrev pub rested_up_to : ℕ → ℕ → Seen → Seen
rested_up_to n j s = record s { sync = record s.sync { processes = up_to n j s.sync.processes } }

-- the next one is as it was, and then runs on
record Next (n j : ℕ) (ps : List Process) : Type 0 where
  pub one : Process
  pub at : slice_get (up_to n j ps) j ≡ Some one
  pub more : slice_set (up_to n j ps) j (rested n one) ≡ up_to n (suc j) ps
  pub same : rested n one ≡ one → up_to n (suc j) ps ≡ up_to n j ps

next_one : (n : ℕ) (ps : List Process) (j : ℕ) → j < length ps → Next n j ps
next_one n [] j less = absurd (let no : ⊥ = omega (arith, less) in no)
next_one n (q ∷ qs) zero less = record { one = q; at = refl; more = refl; same = λ still. ap (λ (x : Process). x ∷ qs) still }
next_one n (q ∷ qs) (suc j) less =
    let rest = next_one n qs j (let lower : j < length qs = omega (arith, less) in lower) in
    record { one = rest.one; at = rest.at; more = ap (λ (ps : List Process). rested n q ∷ ps) rest.more; same = λ still. ap (λ (ps : List Process). rested n q ∷ ps) (rest.same still) }

next_rests : (n j : ℕ) (s : Seen) → j < length s.sync.processes → seen_after (rested_up_to n j s) (Turn (suc j) n) ≡ rested_up_to n (suc j) s
next_rests n j s less =
    let next = next_one n s.sync.processes j less in
    let here : SyncState = (rested_up_to n j s).sync in
    turn_only (rested_up_to n j s) (suc j) n
    ∙ ap (λ (u : SyncState). record s { sync = u }) (by (is_some next.one.status) refl)
  where
    by : (b : Bool) → is_some (next_one n s.sync.processes j less).one.status ≡ b → (step (rested_up_to n j s).sync (Turn (suc j) n)).state ≡ (rested_up_to n (suc j) s).sync
    by true ended =
        let next = next_one n s.sync.processes j less in
        turn_ended (rested_up_to n j s).sync (suc j) n next.one next.at ended
        ∙ ap (λ (ps : List Process). record s.sync { processes = ps }) (sym (next.same (ap (λ (b : Bool). if b then next.one else after_run n next.one) ended)))
    by false lives =
        let next = next_one n s.sync.processes j less in
        turn_at (rested_up_to n j s).sync (suc j) n next.one next.at lives
        ∙ ap (λ (ps : List Process). record s.sync { processes = ps })
        (ap (λ (x : Process). slice_set (up_to n j s.sync.processes) j x) (sym (after_run_rested n next.one lives)) ∙ next.more)

pub one_rests : (n j : ℕ) (s : Seen) → j < length s.sync.processes → seen_after (rested_up_to n j s) (Turn (j + 1) n) ≡ rested_up_to n (j + 1) s
one_rests n j s less =
    subst (λ (k : ℕ). seen_after (rested_up_to n j s) (Turn k n) ≡ rested_up_to n k s) (let is : suc j ≡ j + 1 = omega arith in is) (next_rests n j s less)

-- before any has, and after all have
pub none_rests : (n : ℕ) (s : Seen) → rested_up_to n 0 s ≡ s
none_rests n s = refl

all_rest : (n : ℕ) (ps : List Process) → up_to n (length ps) ps ≡ map (rested n) ps
all_rest n [] = refl
all_rest n (q ∷ qs) = ap (λ (ps : List Process). rested n q ∷ ps) (all_rest n qs)

pub all_rested : (n : ℕ) (s : Seen) → rested_up_to n (length s.sync.processes) s ≡ record s { sync = record s.sync { processes = map (rested n) s.sync.processes } }
all_rested n s = ap (λ (ps : List Process). record s { sync = record s.sync { processes = ps } }) (all_rest n s.sync.processes)
