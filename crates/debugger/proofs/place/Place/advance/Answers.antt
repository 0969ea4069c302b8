-- One stretch more.
use Rattle.std.proofs.Common.{◌≡◌, ◌+◌, ◌-◌, ◌<◌, ◌≤◌, refl, sym, ◌∙◌, arith}
use Rattle.debugger.specs.Ways.{traced_at}
use Rattle.debugger.proofs.Along.{leads-none, leads-then}
use Rattle.debugger.proofs.Onward.{came-on, came-halts, halted-not_done}
use Rattle.debugger.proofs.place.Place.advance.Goals as goal

pub loop-done-init : goal.loop-done-init
loop-done-init c = record { leads = leads-none (traced_at c.args.replies.now c.args.self.now); within = omega arith; still = λ _. refl; bound = λ e. e }

pub stretch-n-requires-clause-budget : goal.stretch-n-requires-clause-budget
stretch-n-requires-clause-budget c =
    let counts : c.loop-done.self.machine.count ≡ c.args.self.now.machine.count + c.loop-done.done = c.loop-done.invariant.leads.counts in
    omega arith

pub loop-done-preserved : goal.loop-done-preserved
loop-done-preserved c =
    let some : 0 < c.stretch-n.result.0 = c.stretch-n.ensures.progress c.in-Done.is in
    record {
      leads = (leads-then c.loop-done.done c.stretch-n.result.0 (traced_at c.args.replies.now c.args.self.now) (traced_at c.args.replies.now c.loop-done.self) (traced_at c.args.replies.now c.stretch-n.new.self)
          c.loop-done.invariant.leads c.stretch-n.ensures.leads);
      within = omega arith;
      still = λ none. absurd (omega (arith, none));
      bound = λ e. c.stretch-n.ensures.bound (c.loop-done.invariant.bound e);
    }

pub returns-in-Halted-clause-came : goal.returns-in-Halted-clause-came
returns-in-Halted-clause-came c =
    came-halts c.args.max c.loop-done.done c.stretch-n.result.0 (traced_at c.args.replies.now c.args.self.now) (traced_at c.args.replies.now c.loop-done.self) (traced_at c.args.replies.now c.stretch-n.new.self)
    c.in-Halted.halt (omega arith) c.loop-done.invariant.leads c.stretch-n.ensures.leads (c.stretch-n.ensures.short (λ done. halted-not_done c.in-Halted.halt (sym c.in-Halted.is ∙ done))) (c.stretch-n.ensures.stands c.in-Halted.halt c.in-Halted.is)

pub returns-else-done-eq0-clause-came : goal.returns-else-done-eq0-clause-came
returns-else-done-eq0-clause-came c =
    let within : c.stretch-n.result.0 ≤ c.args.max - c.loop-done.done = c.stretch-n.ensures.within in
    came-on c.args.max (c.loop-done.done + c.stretch-n.result.0) (traced_at c.args.replies.now c.args.self.now) (traced_at c.args.replies.now c.stretch-n.new.self) (omega (arith, c.if-done-eq0.false)) (omega arith)
    (leads-then c.loop-done.done c.stretch-n.result.0 (traced_at c.args.replies.now c.args.self.now) (traced_at c.args.replies.now c.loop-done.self) (traced_at c.args.replies.now c.stretch-n.new.self)
    c.loop-done.invariant.leads c.stretch-n.ensures.leads)

pub returns : goal.returns
returns c = record {
  came = came-on c.args.max c.loop-done.done (traced_at c.args.replies.now c.args.self.now) (traced_at c.args.replies.now c.loop-done.self) (omega (arith, c.requires.some)) c.loop-done.invariant.within c.loop-done.invariant.leads;
  onward = tt;
  enters = tt;
  same = tt;
  bound = c.loop-done.invariant.bound;
}
