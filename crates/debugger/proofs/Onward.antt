-- Runs of a machine as moves along its trace.
use Rattle.std.proofs.Common.{◌≡◌, ℕ, suc, zero, ◌+◌, ◌-◌, ◌<◌, ◌≤◌, Bool, true, false, cond, List, [], ◌∷◌, length, get_or, drop, Some, None, refl, sym, ap, subst, ◌∙◌, arith}
use Rattle.std.specs.Prelude.{Option}
use Rattle.std.proofs.lemmas.Option.{same_Some, none-some}
use Rattle.machine_model.specs.States.{State, Stepped, Goes, Halts, Ran, next, run, reached_at, stopped_at, by_step}
use Rattle.machine_model.specs.declared.reply.Reply.{Reply}
use Rattle.machine_model.specs.declared.stop.Cause.{Cause}
use Rattle.machine_model.specs.declared.stop.Stop.{Stop}
use Rattle.machine_model.specs.declared.stop.Stop.TheVariants.{Limit, Call, Trap}
use Rattle.machine_model.proofs.Running.{run-zero, run-goes, run-halts}
use Rattle.std.proofs.lemmas.List.{drop_more}
use Rattle.memory_model.specs.Access.{is_writable}
use Rattle.machine_model.specs.Images.{Program}
use Rattle.machine_model.specs.Replies.{in_image, replied, replied_by}
use Rattle.debugger.specs.Traces.{EntersNext, Traced, traced, Moves, Rests, brings_image, next_at_call, next_by, next_of, along, halt_of}
use Rattle.debugger.specs.declared.halt.Halt.{Halt}
use Rattle.debugger.specs.declared.halt.Halt.TheVariants as halt
use Rattle.debugger.specs.declared.place.StretchEnd.TheVariants as end
use Rattle.debugger.specs.Ways.{Leads, Came}
use Rattle.debugger.proofs.Along.{along-zero, leads-none, leads-one, leads-then, leads-same, onward-later}

pub next_of-by : (t : Traced) (x : Stepped) → next t.state ≡ x → next_of t ≡ next_by t x
unfolding next_of
next_of-by t x e = ap (next_by t) e

-- instructions of a machine are moves
pub run-leads : (max : ℕ) (s : State) (left : List Reply) → Leads (run max s).count (traced s left) (traced (run max s).state left)
run-leads zero s left = subst (λ (r : Ran). Leads r.count (traced s left) (traced r.state left)) (sym (run-zero s)) (leads-none (traced s left))
run-leads (suc max) s left = by (λ t. run-leads max t left) (next s) refl
  where
    by : ((t : State) → Leads (run max t).count (traced t left) (traced (run max t).state left)) → (x : Stepped) → next s ≡ x → Leads (run (suc max) s).count (traced s left) (traced (run (suc max) s).state left)
    by later (Goes t) is =
        subst (λ (r : Ran). Leads r.count (traced s left) (traced r.state left)) (sym (run-goes max s t is))
        (leads-then 1 (run max t).count (traced s left) (traced t left) (traced (run max t).state left) (leads-one (traced s left) (traced t left) (next_of-by (traced s left) (Goes t) is)) (later t))
    by later (Halts stop) is =
        subst (λ (r : Ran). Leads r.count (traced s left) (traced r.state left)) (sym (run-halts max s stop is)) (leads-none (traced s left))

pub reached-leads : (max n : ℕ) (s t : State) (stop : Stop) (left : List Reply) → run max s ≡ reached_at n t stop → Leads n (traced s left) (traced t left)
reached-leads max n s t stop left e = subst (λ (r : Ran). Leads r.count (traced s left) (traced r.state left)) e (run-leads max s left)

-- a state that stands somewhere goes no further by itself
pub halts-stands : (s : State) (stop : Stop) → stopped_at s ≡ Some stop → next s ≡ Halts stop
halts-stands s stop = by (next s) refl
  where
    by : (x : Stepped) → next s ≡ x → by_step {A = Option Stop} x (λ t. None) (λ why. Some why) ≡ Some stop → next s ≡ Halts stop
    by (Goes t) is e = cc
    by (Halts why) is e = is ∙ ap (λ (w : Stop). Halts w) (same_Some why stop e)

pub trap-halt : (t : Traced) (cause : Cause) → stopped_at t.state ≡ Some (Trap cause) → halt_of (next_of t) ≡ Some (halt.Trap cause)
trap-halt t cause e = ap halt_of (next_of-by t (Halts (Trap cause)) (halts-stands t.state (Trap cause) e))

pub call-next : (t : Traced) → stopped_at t.state ≡ Some Call → next_of t ≡ next_at_call t.state t.left
call-next t e = next_of-by t (Halts Call) (halts-stands t.state Call e)

pub limit-halt : (t : Traced) → stopped_at t.state ≡ Some Limit → halt_of (next_of t) ≡ Some halt.EndOfTrace
limit-halt t e = ap halt_of (next_of-by t (Halts Limit) (halts-stands t.state Limit e))

pub goes-halt : (t : Traced) → stopped_at t.state ≡ None → halt_of (next_of t) ≡ None
goes-halt t = by (next t.state) refl
  where
    by : (x : Stepped) → next t.state ≡ x → by_step {A = Option Stop} x (λ s. None) (λ why. Some why) ≡ None → halt_of (next_of t) ≡ None
    by (Goes s) is e = ap halt_of (next_of-by t (Goes s) is)
    by (Halts why) is e = cc

-- there is a reply where it brings an image
brings-less : (rs : List Reply) (taken : ℕ) → brings_image (drop taken rs) ≡ true → taken < length rs
brings-less [] zero e = cc
brings-less [] (suc n) e = cc
brings-less (r ∷ rs) zero e = omega arith
brings-less (r ∷ rs) (suc n) e = let less : n < length rs = brings-less rs n e in omega arith

-- a call whose reply enters a program
pub enters-leads : (rs : List Reply) (taken : ℕ) (s new : State) (p : Program) (d : Reply) → EntersNext (traced s (drop taken rs)) → halt_of (next_of (traced s (drop taken rs))) ≡ None
    → (get_or rs taken d).image ≡ Some p → new ≡ in_image s p → Leads 1 (traced s (drop taken rs)) (traced new (drop (taken + 1) rs))
enters-leads rs taken s new p d enters onward image is =
    leads-one (traced s (drop taken rs)) (traced new left)
    (call-next (traced s (drop taken rs)) enters.stands ∙ ap (next_at_call s) there ∙ by (is_writable s.architectural.memory r.at (length r.bytes)) goes ∙ ap (λ (t : State). Moves (traced t left)) (ap (replied_by s r) image ∙ sym is))
  where
    r : Reply
    r = get_or rs taken d

    left : List Reply
    left = drop (taken + 1) rs

    there : drop taken rs ≡ r ∷ left
    there = drop_more rs taken d (brings-less rs taken enters.image)

    goes : halt_of (next_at_call s (r ∷ left)) ≡ None
    goes = ap (λ (l : List Reply). halt_of (next_at_call s l)) (sym there) ∙ sym (ap halt_of (call-next (traced s (drop taken rs)) enters.stands)) ∙ onward

    by : (b : Bool) → halt_of (cond b (Moves (traced (replied s r) left)) (Rests halt.EndOfTrace)) ≡ None → cond b (Moves (traced (replied s r) left)) (Rests halt.EndOfTrace) ≡ Moves (traced (replied s r) left)
    by true e = refl
    by false e = cc

-- one instruction where nothing keeps it
pub came-one : (f t : Traced) (why : Option Halt) → halt_of (next_of f) ≡ None → Came 1 f why t → Leads 1 f t
came-one f t None onward came =
    let some : 0 < came.done = came.progress refl in
    let few : came.done ≤ 1 = came.within in
    leads-same came.done 1 f t (omega arith) came.leads
came-one f t (Some why) onward came = absurd (clash (sym (ap (λ (v : Traced). halt_of (next_of v)) same ∙ came.stands why refl) ∙ onward))
  where
    clash : Some why ≡ None → ⊥
    clash e = cc

    some_none : Some why ≡ None → ⊥
    some_none e = cc

    none : came.done ≡ 0
    none = let few : came.done < 1 = came.short some_none in omega arith

    same : f ≡ t
    same = sym (along-zero f) ∙ (leads-same came.done 0 f t none came.leads).moves

-- a way that ends before its limit, after a last stretch
pub came-halts : (max done n : ℕ) (f g h : Traced) (why : Halt) → done ≤ max → Leads done f g → Leads n g h → n < max - done → halt_of (next_of h) ≡ Some why → Came max f (Some why) h
came-halts max done n f g h why small a b less stands = record {
  done = done + n;
  leads = leads-then done n f g h a b;
  within = omega arith;
  progress = λ none. absurd (none-some why (sym none));
  short = λ _. omega arith;
  stands = λ w e. stands ∙ e;
}

-- a way that nothing ended
pub came-on : (max done : ℕ) (f g : Traced) → 0 < done → done ≤ max → Leads done f g → Came max f None g
came-on max done f g some few a = record {
  done = done;
  leads = a;
  within = few;
  progress = λ _. some;
  short = λ not. absurd (not refl);
  stands = λ w e. absurd (none-some w e);
}

-- where nothing keeps the machine from going on, at least one instruction is done
came-some : (max : ℕ) (f g : Traced) (o : Option Halt) → (came : Came max f o g) → ((k : ℕ) → k < max → halt_of (next_of (along k f)) ≡ None) → 0 < came.done
came-some max f g None came free = came.progress refl
came-some max f g (Some why) came free =
    absurd (none-some why (sym (free came.done (came.short (λ e. none-some why (sym e)))) ∙ ap (λ (t : Traced). halt_of (next_of t)) came.leads.moves ∙ came.stands why refl))

-- one more part of a way to a count
pub comes-on : (f g h : Traced) (done max count : ℕ) (o : Option Halt) → Leads done f g → Came max g o h → g.state.count + max ≤ count → ((n : ℕ) → f.state.count + n < count → halt_of (next_of (along n f)) ≡ None)
    → (g.state.count < h.state.count) × (h.state.count ≤ count) × Leads (h.state.count - f.state.count) f h
comes-on f g h done max count o leads came near onward =
    let counts : g.state.count ≡ f.state.count + done = leads.counts in
    let more : h.state.count ≡ g.state.count + came.done = came.leads.counts in
    let within : came.done ≤ max = came.within in
    let some : 0 < came.done = came-some max g h o came (λ k less. onward-later done k f g leads (onward (done + k) (omega arith))) in
    (omega arith, omega arith, leads-same (done + came.done) (h.state.count - f.state.count) f h (omega arith) (leads-then done came.done f g h leads came.leads))

-- one instruction more of a way to a count
pub one-on : (f g h : Traced) (done count : ℕ) (o : Option Halt) → Leads done f g → Came 1 g o h → g.state.count < count → ((n : ℕ) → f.state.count + n < count → halt_of (next_of (along n f)) ≡ None) → Leads (done + 1) f h
one-on f g h done count o leads came less onward =
    let counts : g.state.count ≡ f.state.count + done = leads.counts in
    leads-then done 1 f g h leads (came-one g h o (ap (λ (t : Traced). halt_of (next_of t)) (sym leads.moves) ∙ onward done (omega arith)) came)

pub trap-not_limit : (cause : Cause) → Trap cause ≡ Limit → ⊥
trap-not_limit cause e = cc

pub call-not_limit : Call ≡ Limit → ⊥
call-not_limit e = cc

pub same_halt : (one other : Halt) → end.Halted one ≡ end.Halted other → Some one ≡ Some other
same_halt one other e = cc

pub halted-not_done : (why : Halt) → end.Halted why ≡ end.Done → ⊥
halted-not_done why e = cc

pub entering-not_done : end.Entering ≡ end.Done → ⊥
entering-not_done e = cc
