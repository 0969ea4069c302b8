-- Calls as moves commute where they are independent: their Turns touch what their Enters wrote, and nothing else.
use Rattle.std.proofs.Common.{◌≡◌, ℕ, ◌==◌, inl, inr, ◌||◌, Bool, true, false, List, [], ◌∷◌, Option, Some, None, is_some, refl, sym, ap, subst, ◌∙◌}
use Rattle.std.specs.Prelude.{if◌then◌else◌, option_to_list}
use Rattle.std.specs.List.{AllByRecursion}
use Rattle.std.proofs.lemmas.Bool.{eq-eqb, ne_eqb, false≢true, or_cases, or_left, or_right}
use Rattle.kernel_model.specs.Entries.{is_same, is_among, meets}
use Rattle.kernel_model.specs.Limits.{AreNumbered}
use Rattle.kernel_model.specs.State.{SyncState, Process, process_at, with_process}
use Rattle.kernel_model.specs.Steps.{step, after_turn, after_run, impossible, own_entry}
use Rattle.kernel_model.specs.declared.carrier.Carrier.{Carrier}
use Rattle.kernel_model.specs.declared.carrier.Carrier.TheVariants.{Proc, File, Names, Pipe, Pipes, Tasks, Tape}
use Rattle.kernel_model.specs.declared.effect.Output.{Output}
use Rattle.kernel_model.specs.declared.event.Event.{Event}
use Rattle.kernel_model.specs.declared.event.Event.TheVariants.{Turn, Enter}
use Rattle.kernel_model.proofs.Meets.{same_is}
use Rattle.kernel_laws.proofs.Selected.{step_numbered}
use Rattle.kernel_laws.proofs.Written.{step_reads}
use Rattle.order_laws.specs.Moves.{Seen, Label, label_of, label_in, is_one_terminal, are_independent, writes_some, seen_after, events, wrote, turns, call_of, call_after, calls}
use Rattle.order_laws.specs.Orders.{reached, Commutes}
use Rattle.order_laws.proofs.Commuting.{Independent, independent, from_parts, events_commute}
use Rattle.order_laws.proofs.Swapping.{at_one, not_read, not_written}

-- ---- a Turn reads its own process, and writes nothing else
pub record IsOwn (r : ℕ) (l : Label) : Type 0 where
  pub reads : l.reads ≡ Proc r ∷ []
  pub writes : (rs : List Carrier) → is_among (Proc r) rs ≡ false → meets l.writes rs ≡ false
  pub output : l.output ≡ None

turn_own : (s : SyncState) (r n : ℕ) (o : Option Process) → IsOwn r (label_of (after_turn s r n o).entry)
turn_own s r n None = record { reads = refl; writes = λ rs off. refl; output = refl }
turn_own s r n (Some p) = by (is_some p.status)
  where
    by : (b : Bool) → IsOwn r (label_of (if b then impossible r s else record { state = with_process s r (after_run n p); entry = own_entry r }).entry)
    by true = record { reads = refl; writes = λ rs off. refl; output = refl }
    by false = record { reads = refl; writes = λ rs off. ap (λ x. x || false) off; output = refl }

own_turn : (s : SyncState) (r n : ℕ) → IsOwn r (label_of (step s (Turn r n)).entry)
own_turn s r n = turn_own s r n (process_at s.processes r)

-- ---- such a Turn beside another event, which does not read the process
same_self : (c : Carrier) → is_same c c ≡ true
same_self (Proc n) = eq-eqb n n refl
same_self (File n) = eq-eqb n n refl
same_self Names = refl
same_self (Pipe n) = eq-eqb n n refl
same_self Pipes = refl
same_self Tasks = refl
same_self (Tape n) = eq-eqb n n refl

pub one_off : (ws : List Carrier) (c : Carrier) → is_among c ws ≡ false → meets ws (c ∷ []) ≡ false
one_off ws c off = elim (meets ws (c ∷ [])) as (λ b. meets ws (c ∷ []) ≡ b → b ≡ false) [
  | true ↦ λ is. absurd (false≢true (sym off ∙ met ws c is))
  | false ↦ λ is. refl
] refl
  where
    met : (ws : List Carrier) (c : Carrier) → meets ws (c ∷ []) ≡ true → is_among c ws ≡ true
    met [] c h = absurd (false≢true h)
    met (w ∷ ws) c h = elim (or_cases (is_same w c || false) (meets ws (c ∷ [])) h) as (λ _. is_among c (w ∷ ws) ≡ true) [
      | inl first ↦ or_left (is_same c w) (is_among c ws) (ap (λ (x : Carrier). is_same c x) (same_is w c (one first)) ∙ same_self c)
      | inr more ↦ or_right (is_same c w) (is_among c ws) (met ws c more)
    ]
      where
        one : (is_same w c || false) ≡ true → is_same w c ≡ true
        one k = elim (or_cases (is_same w c) false k) as (λ _. is_same w c ≡ true) [ inl a ↦ a | inr a ↦ absurd (false≢true a) ]

silent : (a b : Option Output) → a ≡ None → is_one_terminal a b ≡ false
silent a b none = ap (λ (o : Option Output). is_one_terminal o b) none

silent_too : (a b : Option Output) → b ≡ None → is_one_terminal a b ≡ false
silent_too None b none = refl
silent_too (Some a) b none = ap (λ (o : Option Output). is_one_terminal (Some a) o) none

module _ (n : ℕ) where
  -- what an event does not read it does not write
  unwritten : (s : Seen) (e : Event) (r : ℕ) → is_among (Proc r) (label_in s e).reads ≡ false → is_among (Proc r) (label_in s e).writes ≡ false
  unwritten s e r off = not_written (label_in s e).writes (label_in s e).reads (Proc r) (step_reads s.sync e) off

  -- the Turn first, or the event first
  turn_before : (s u : Seen) (r : ℕ) (e : Event) → is_among (Proc r) (label_in u e).reads ≡ false → are_independent (label_in s (Turn r n)) (label_in u e) ≡ true
  turn_before s u r e off =
      let own = own_turn s.sync r n in
      let l = label_in u e in
      from_parts (label_in s (Turn r n)) l (record {
        off = own.writes l.reads off;
        back = ap (λ (rs : List Carrier). meets l.writes rs) own.reads ∙ one_off l.writes (Proc r) (unwritten u e r off);
        terminals = silent (label_in s (Turn r n)).output l.output own.output;
      })

  turn_later : (s u : Seen) (r : ℕ) (e : Event) → is_among (Proc r) (label_in u e).reads ≡ false → are_independent (label_in u e) (label_in s (Turn r n)) ≡ true
  turn_later s u r e off =
      let own = own_turn s.sync r n in
      let l = label_in u e in
      from_parts l (label_in s (Turn r n)) (record {
        off = ap (λ (rs : List Carrier). meets l.writes rs) own.reads ∙ one_off l.writes (Proc r) (unwritten u e r off);
        back = own.writes l.reads off;
        terminals = silent_too l.output (label_in s (Turn r n)).output own.output;
      })

  -- Turns of these processes beside an event that reads none of them
  abbrev pub AreOff : List ℕ → List Carrier → Type 0
  AreOff rs cs = AllByRecursion (λ (r : ℕ). is_among (Proc r) cs ≡ false) rs

  abbrev pub IsNumbered : Seen → Type 0
  IsNumbered s = AreNumbered s.sync.files

  abbrev go : Seen → Event → Seen
  go s e = seen_after s e

  abbrev pub run : Seen → List Event → Seen
  run s es = reached events s es

  law : Commutes events IsNumbered
  law = events_commute

  pub run_numbered : (es : List Event) (s : Seen) → IsNumbered s → IsNumbered (run s es)
  run_numbered [] s are = are
  run_numbered (e ∷ es) s are = run_numbered es (go s e) (step_numbered s.sync e are)

  pub record Past (s : Seen) (rs : List ℕ) (e : Event) : Type 0 where
    pub label : label_in (run s (turns n rs)) e ≡ label_in s e
    pub same : go (run s (turns n rs)) e ≡ run (go s e) (turns n rs)

  -- the event, known where it stands before the Turns
  pub turns_later : (rs : List ℕ) (s : Seen) (e : Event) → IsNumbered s → AreOff rs (label_in s e).reads → Past s rs e
  turns_later [] s e are off = record { label = refl; same = refl }
  turns_later (r ∷ rs) s e are off =
      let independent = turn_later (go s e) s r e off.0 in
      let label : label_in (go s (Turn r n)) e ≡ label_in s e = law.afterwards s e (Turn r n) are independent in
      let same : go (go s (Turn r n)) e ≡ go (go s e) (Turn r n) = law.same s e (Turn r n) are independent in
      let rest = turns_later rs (go s (Turn r n)) e (step_numbered s.sync (Turn r n) are) (subst (λ (l : Label). AreOff rs l.reads) (sym label) off.1) in
      record { label = rest.label ∙ label; same = rest.same ∙ ap (λ (u : Seen). run u (turns n rs)) same }

  -- the event, known where it stands after the Turns
  pub turns_before : (rs : List ℕ) (s : Seen) (e : Event) → IsNumbered s → AreOff rs (label_in (run s (turns n rs)) e).reads → Past s rs e
  turns_before [] s e are off = record { label = refl; same = refl }
  turns_before (r ∷ rs) s e are off =
      let first = go s (Turn r n) in
      let numbered : IsNumbered first = step_numbered s.sync (Turn r n) are in
      let rest = turns_before rs first e numbered off.1 in
      let independent = turn_before s first r e (subst (λ (l : Label). is_among (Proc r) l.reads ≡ false) rest.label off.0) in
      let label : label_in s e ≡ label_in first e = law.before s (Turn r n) e are independent in
      let same : go (go s e) (Turn r n) ≡ go first e = law.same s (Turn r n) e are independent in
      record { label = rest.label ∙ sym label; same = rest.same ∙ ap (λ (u : Seen). run u (turns n rs)) (sym same) }

  -- Turns of these and of those
  abbrev pub AreOthers : List ℕ → List ℕ → Type 0
  AreOthers rs qs = AllByRecursion (λ (q : ℕ). AllByRecursion (λ (r : ℕ). (r == q) ≡ false) rs) qs

  turn_past : (rs : List ℕ) (s : Seen) (q : ℕ) → IsNumbered s → AllByRecursion (λ (r : ℕ). (r == q) ≡ false) rs
      → go (run s (turns n rs)) (Turn q n) ≡ run (go s (Turn q n)) (turns n rs)
  turn_past rs s q are off = (turns_later rs s (Turn q n) are (subst (λ (cs : List Carrier). AreOff rs cs) (sym (own_turn s.sync q n).reads) (each rs off))).same
    where
      each : (rs : List ℕ) → AllByRecursion (λ (r : ℕ). (r == q) ≡ false) rs → AreOff rs (Proc q ∷ [])
      each [] h = tt
      each (r ∷ rs) h = (ap (λ x. x || false) h.0, each rs h.1)

  pub turns_past : (qs rs : List ℕ) (s : Seen) → IsNumbered s → AreOthers rs qs → run (run s (turns n rs)) (turns n qs) ≡ run (run s (turns n qs)) (turns n rs)
  turns_past [] rs s are off = refl
  turns_past (q ∷ qs) rs s are off =
      ap (λ (u : Seen). run u (turns n qs)) (turn_past rs s q are off.0)
      ∙ turns_past qs rs (go s (Turn q n)) (step_numbered s.sync (Turn q n) are) off.1

  -- ---- calls
  -- the processes that go on were written
  wrote_each : (l : Label) (ps : List ℕ) → AllByRecursion (λ (r : ℕ). is_among (Proc r) l.writes ≡ true) (wrote l ps)
  wrote_each l [] = tt
  wrote_each l (p ∷ ps) = elim (is_among (Proc p) l.writes) as (λ b. is_among (Proc p) l.writes ≡ b → AllByRecursion (λ (r : ℕ). is_among (Proc r) l.writes ≡ true) (if b then p ∷ wrote l ps else wrote l ps)) [
    | true ↦ λ is. (is, wrote_each l ps)
    | false ↦ λ is. wrote_each l ps
  ] refl

  off_each : (ws cs : List Carrier) (rs : List ℕ) → meets ws cs ≡ false → AllByRecursion (λ (r : ℕ). is_among (Proc r) ws ≡ true) rs → AreOff rs cs
  off_each ws cs [] h all = tt
  off_each ws cs (r ∷ rs) h all = (not_read ws cs (Proc r) h all.0, off_each ws cs rs h all.1)

  others_each : (ws cs : List Carrier) (rs qs : List ℕ) → AreOff rs cs → AllByRecursion (λ (q : ℕ). is_among (Proc q) cs ≡ true) qs → AreOthers rs qs
  others_each ws cs rs [] off all = tt
  others_each ws cs rs (q ∷ qs) off all = (each rs off, others_each ws cs rs qs off all.1)
    where
      each : (rs : List ℕ) → AreOff rs cs → AllByRecursion (λ (r : ℕ). (r == q) ≡ false) rs
      each [] h = tt
      each (r ∷ rs) h = (ne_eqb r q (λ (is : r ≡ q). false≢true (sym h.0 ∙ subst (λ (k : ℕ). is_among (Proc k) cs ≡ true) (sym is) all.0)), each rs h.1)

  -- what is written is read
  wrote_read : (s : Seen) (e : Event) (rs : List ℕ) → AllByRecursion (λ (r : ℕ). is_among (Proc r) (label_in s e).writes ≡ true) rs
      → AllByRecursion (λ (r : ℕ). is_among (Proc r) (label_in s e).reads ≡ true) rs
  wrote_read s e [] all = tt
  wrote_read s e (r ∷ rs) all = (at_one (λ (c : Carrier). is_among c (label_in s e).reads ≡ true) (Proc r) (label_in s e).writes (step_reads s.sync e) all.0, wrote_read s e rs all.1)

  abbrev label : Seen → ℕ → Label
  label s p = label_in s (Enter p)

  abbrev goers : Label → ℕ → List ℕ
  goers l p = wrote l (p ∷ option_to_list l.child)

  module _ (s : Seen) (p q : ℕ) (are : IsNumbered s) where
    abbrev l : Label
    l = label s p

    abbrev next : Seen
    next = call_after n s p

    abbrev k : Label
    k = label next q

    module _ (h : are_independent l k ≡ true) where
      known : Independent l k
      known = independent l k h

      abbrev one : Seen
      one = go s (Enter p)

      abbrev two : Seen
      two = go s (Enter q)

      abbrev rs : List ℕ
      rs = goers l p

      abbrev qs : List ℕ
      qs = goers k q

      one_numbered : IsNumbered one
      one_numbered = step_numbered s.sync (Enter p) are

      two_numbered : IsNumbered two
      two_numbered = step_numbered s.sync (Enter q) are

      -- q's call, known after p's call and the Turns, stands so before the Turns, and before p's call
      first_off : AreOff rs k.reads
      first_off = off_each l.writes k.reads rs known.off (wrote_each l (p ∷ option_to_list l.child))

      first : Past one rs (Enter q)
      first = turns_before rs one (Enter q) one_numbered first_off

      together : are_independent l (label one q) ≡ true
      together = ap (λ (m : Label). are_independent l m) (sym first.label) ∙ h

      pub before : label s q ≡ k
      before = law.before s (Enter p) (Enter q) are together ∙ sym first.label

      -- p's call stands so after q's, and after q's Turns
      later_one : label two p ≡ l
      later_one = law.afterwards s (Enter p) (Enter q) are together

      second : Past two qs (Enter p)
      second = turns_later qs two (Enter p) two_numbered
          (subst (λ (m : Label). AreOff qs m.reads) (sym later_one) (off_each k.writes l.reads qs known.back (wrote_each k (q ∷ option_to_list k.child))))

      abbrev after_q : Label → Seen
      after_q m = run two (turns n (goers m q))

      pub afterwards : label (call_after n s q) p ≡ l
      afterwards = ap (λ (m : Label). label (after_q m) p) before ∙ second.label ∙ later_one

      abbrev both : Seen
      both = go one (Enter q)

      pub same : call_after n (call_after n s q) p ≡ call_after n next q
      same =
          ap (λ (m : Label). call_after n (after_q m) p) before
          ∙ ap (λ (m : Label). run (go (after_q k) (Enter p)) (turns n (goers m p))) (second.label ∙ later_one)
          ∙ ap (λ (u : Seen). run u (turns n rs)) (second.same ∙ ap (λ (u : Seen). run u (turns n qs)) (law.same s (Enter p) (Enter q) are together))
          ∙ sym (turns_past qs rs both (step_numbered one.sync (Enter q) one_numbered)
          (others_each l.writes k.reads rs qs first_off (wrote_read next (Enter q) qs (wrote_each k (q ∷ option_to_list k.child)))))
          ∙ ap (λ (u : Seen). run u (turns n qs)) (sym first.same)

  -- a call that comes to nothing
  idle_call : (s : Seen) (p : ℕ) → IsNumbered s → writes_some (label s p) ≡ false → call_after n s p ≡ s
  idle_call s p are h = ap (λ (rs : List ℕ). run (go s (Enter p)) (turns n rs)) (nobody (label s p) h (p ∷ option_to_list (label s p).child)) ∙ law.idle s (Enter p) are h
    where
      nobody : (m : Label) → writes_some m ≡ false → (ps : List ℕ) → wrote m ps ≡ []
      nobody m none [] = refl
      nobody m none (r ∷ ps) = elim (is_among (Proc r) m.writes) as (λ b. is_among (Proc r) m.writes ≡ b → (if b then r ∷ wrote m ps else wrote m ps) ≡ []) [
        | true ↦ λ is. absurd (false≢true (sym (unwritten_by m.writes none) ∙ is))
        | false ↦ λ is. nobody m none ps
      ] refl
        where
          unwritten_by : (ws : List Carrier) → writes_some (record m { writes = ws }) ≡ false → is_among (Proc r) ws ≡ false
          unwritten_by [] e = refl
          unwritten_by (w ∷ ws) e = absurd (false≢true (sym e))

  pub calls_commute : Commutes (calls n) IsNumbered
  calls_commute = record {
    keeps = λ s p are. run_numbered (call_of n (label s p) p) s are;
    idle = idle_call;
    before = before;
    afterwards = afterwards;
    same = same;
  }
