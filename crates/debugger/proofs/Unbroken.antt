-- Runs of a machine that stop at some addresses, as moves along its trace.
use Rattle.std.proofs.Common.{◌≡◌, ℕ, suc, zero, ◌+◌, ◌-◌, ◌<◌, ◌≤◌, Bool, true, false, List, None, refl, sym, ap, subst, ◌∙◌, arith}
use Rattle.std.specs.Prelude.{Option}
use Rattle.std.specs.Option.{option_or}
use Rattle.slab.specs.Slab.{Slab}
use Rattle.machine_model.specs.Images.{Program}
use Rattle.machine_model.specs.States.{State, Stepped, Goes, Halts, Ran, next, reached_at}
use Rattle.machine_model.specs.Stopping.{is_among, run_to}
use Rattle.machine_model.specs.declared.reply.Reply.{Reply}
use Rattle.machine_model.specs.declared.stop.Stop.{Stop}
use Rattle.machine_model.proofs.Stopping.{run_to-zero, run_to-goes, run_to-halts, run_to-stops}
use Rattle.debugger.specs.Coasts.{Coasted, Coasts, HasAll}
use Rattle.debugger.specs.Hits.{hit_with, last_hit}
use Rattle.debugger.specs.Keeping.{IsAt, session_of}
use Rattle.debugger.specs.Stops.{least_from}
use Rattle.debugger.specs.Traces.{Traced, traced, Moves, along, next_of, reached}
use Rattle.debugger.specs.Ways.{Leads, traced_at}
use Rattle.debugger.specs.declared.place.Place.{Place}
use Rattle.debugger.proofs.Along.{along-add, along-moves, along-zero, leads-none, leads-one, leads-then}
use Rattle.debugger.proofs.Arriving.{onward-before, reached-add}
use Rattle.debugger.proofs.Hitting.{last_hit-suc}
use Rattle.debugger.proofs.Onward.{next_of-by}

-- as many moves as it did instructions, none at one of these addresses
record AreOff (stops : List ℕ) (n : ℕ) (from to : Traced) : Type 0 where
  leads : Leads n from to
  off : (k : ℕ) → k < n → is_among stops (along k from).state.architectural.pc ≡ false

off-none : (stops : List ℕ) (t : Traced) → AreOff stops 0 t t
off-none stops t = record { leads = leads-none t; off = λ k less. absurd (omega (arith, less)) }

off-more : (stops : List ℕ) (n : ℕ) (from next to : Traced) → is_among stops from.state.architectural.pc ≡ false → next_of from ≡ Moves next → AreOff stops n next to → AreOff stops (1 + n) from to
off-more stops n from next to here moves later = record {
  leads = leads-then 1 n from next to (leads-one from next moves) later.leads;
  off = each;
}
  where
    each : (k : ℕ) → k < 1 + n → is_among stops (along k from).state.architectural.pc ≡ false
    each zero less = ap (λ (t : Traced). is_among stops t.state.architectural.pc) (along-zero from) ∙ here
    each (suc k) less = ap (λ (t : Traced). is_among stops t.state.architectural.pc) (along-moves k from next moves) ∙ later.off k (omega (arith, less))

run_to-off : (stops : List ℕ) (max : ℕ) (s : State) (left : List Reply) → AreOff stops (run_to stops max s).count (traced s left) (traced (run_to stops max s).state left)
run_to-off stops zero s left = subst (λ (r : Ran). AreOff stops r.count (traced s left) (traced r.state left)) (sym (run_to-zero stops s)) (off-none stops (traced s left))
run_to-off stops (suc max) s left = by (λ t. run_to-off stops max t left) (is_among stops s.architectural.pc) (next s) refl refl
  where
    by : ((t : State) → AreOff stops (run_to stops max t).count (traced t left) (traced (run_to stops max t).state left)) → (b : Bool) (x : Stepped) → is_among stops s.architectural.pc ≡ b → next s ≡ x → AreOff stops (run_to stops (suc max) s).count (traced s left) (traced (run_to stops (suc max) s).state left)
    by later true x here is =
        subst (λ (r : Ran). AreOff stops r.count (traced s left) (traced r.state left)) (sym (run_to-stops stops (suc max) s here)) (off-none stops (traced s left))
    by later false (Goes t) here is =
        subst (λ (r : Ran). AreOff stops r.count (traced s left) (traced r.state left)) (sym (run_to-goes stops max s t here is))
        (off-more stops (run_to stops max t).count (traced s left) (traced t left) (traced (run_to stops max t).state left) here (next_of-by (traced s left) (Goes t) is) (later t))
    by later false (Halts stop) here is =
        subst (λ (r : Ran). AreOff stops r.count (traced s left) (traced r.state left)) (sym (run_to-halts stops max s stop here is)) (off-none stops (traced s left))

-- a run up to some addresses
pub run_to-coasted : (stops : List ℕ) (max n : ℕ) (s t : State) (stop : Stop) (left : List Reply) → run_to stops max s ≡ reached_at n t stop → n ≤ max → Coasted stops max (traced s left) (traced t left)
run_to-coasted stops max n s t stop left e few =
    let off : AreOff stops n (traced s left) (traced t left) = subst (λ (r : Ran). AreOff stops r.count (traced s left) (traced r.state left)) e (run_to-off stops max s left) in
    record { done = n; leads = off.leads; within = few; off = off.off }

-- a session whose place coasted
pub coasts-on : (p : Program) (rs : List Reply) (a b : Place) (breaks : Slab ℕ) (reran most limit : ℕ) (stops : List ℕ) → HasAll breaks.slots stops → IsAt p rs a → IsAt p rs b → Coasted stops most (traced_at rs a) (traced_at rs b) → a.machine.count + most ≤ limit
    → Coasts (session_of p rs a breaks reran) limit (session_of p rs b breaks reran)
coasts-on p rs a b breaks reran most limit stops all from to came few =
    let counts : b.machine.count ≡ a.machine.count + came.done = came.leads.counts in
    let within : came.done ≤ most = came.within in
    record {
      on = omega arith;
      within = omega arith;
      past = λ n _ less. onward-before p rs b n to less;
      unbroken = λ n above less.
          let split : n ≡ a.machine.count + (n - a.machine.count) = omega (arith, above) in
          let there : reached p rs n ≡ along (n - a.machine.count) (traced_at rs a) =
          ap (λ (k : ℕ). reached p rs k) split ∙ reached-add p rs a.machine.count (n - a.machine.count) ∙ ap (along (n - a.machine.count)) from in
          all (reached p rs n).state.architectural.pc
          (ap (λ (t : Traced). is_among stops t.state.architectural.pc) there ∙ came.off (n - a.machine.count) (omega (arith, above, less, counts)));
      rest = refl;
    }

-- no hit on a way that coasted
pub last_hit-coasted : (breaks : List (Option ℕ)) (stops : List ℕ) (f g h : Traced) (done max from : ℕ) → HasAll breaks stops → Leads done f g → (came : Coasted stops max g h) → last_hit breaks f from (done + came.done) ≡ last_hit breaks f from done
last_hit-coasted breaks stops f g h done max from all leads came = up came.done (omega arith)
  where
    up : (n : ℕ) → n ≤ came.done → last_hit breaks f from (done + n) ≡ last_hit breaks f from done
    up zero few = ap (last_hit breaks f from) (omega arith)
    up (suc n) few =
        let one : done + suc n ≡ suc (done + n) = omega arith in
        let there : along (done + n) f ≡ along n g = along-add done n f ∙ ap (along n) leads.moves in
        let none : least_from 0 breaks (along (done + n) f).state.architectural.pc ≡ None =
        all (along (done + n) f).state.architectural.pc (ap (λ (t : Traced). is_among stops t.state.architectural.pc) there ∙ came.off n (omega (arith, few))) in
        ap (last_hit breaks f from) one
        ∙ last_hit-suc breaks f from (done + n)
        ∙ ap (λ (o : Option ℕ). option_or (hit_with (from + (done + n)) o) (last_hit breaks f from (done + n))) none
        ∙ up n (omega (arith, few))
