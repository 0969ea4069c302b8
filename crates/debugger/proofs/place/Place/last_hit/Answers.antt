-- One instruction more, and then as many as there are up to a breakpoint.
use Rattle.std.proofs.Common.{◌≡◌, ℕ, ◌+◌, ◌-◌, ◌<◌, ◌≤◌, List, refl, ap, subst, sym, ◌∙◌, arith}
use Rattle.std.specs.Prelude.{Option}
use Rattle.std.specs.Option.{option_or}
use Rattle.debugger.specs.Coasts.{Coasted, HasAll}
use Rattle.debugger.specs.Hits.{last_hit}
use Rattle.debugger.specs.Ways.{Leads, traced_at}
use Rattle.debugger.specs.declared.hits.Hit.{Hit}
use Rattle.debugger.proofs.Along.{leads-none, leads-same, leads-then}
use Rattle.debugger.proofs.Unbroken.{last_hit-coasted}
use Rattle.debugger.proofs.Hitting.{last_hit-none, last_hit-more}
use Rattle.debugger.proofs.Onward.{one-on}
use Rattle.debugger.proofs.place.Place.last_hit.Goals as goal

pub loop-alloc-init : goal.loop-alloc-init
loop-alloc-init c = record {
  leads = leads-same 0 (c.args.self.now.machine.count - c.args.self.now.machine.count) (traced_at c.args.replies.now c.args.self.now) (traced_at c.args.replies.now c.args.self.now) (omega arith) (leads-none (traced_at c.args.replies.now c.args.self.now));
  all = c.in_ok-stops.ensures;
  ahead = omega arith;
  within = c.requires.ahead;
  hit = sym (last_hit-none c.args.breaks.now.slots (traced_at c.args.replies.now c.args.self.now) c.args.self.now.machine.count (c.args.self.now.machine.count - c.args.self.now.machine.count) (omega arith));
}

pub coast-requires : goal.coast-requires
coast-requires c =
    let ahead : c.args.self.now.machine.count ≤ c.loop-alloc.self.machine.count = c.loop-alloc.invariant.ahead in
    let less : c.loop-alloc.self.machine.count < c.args.end = omega arith in
    let one : Leads (c.loop-alloc.self.machine.count - c.args.self.now.machine.count + 1) (traced_at c.args.replies.now c.args.self.now) (traced_at c.args.replies.now c.advance.new.self) =
    one-on (traced_at c.args.replies.now c.args.self.now) (traced_at c.args.replies.now c.loop-alloc.self) (traced_at c.args.replies.now c.advance.new.self)
    (c.loop-alloc.self.machine.count - c.args.self.now.machine.count) c.args.end c.in_ok-advance.field-0 c.loop-alloc.invariant.leads c.in_ok-advance.ensures.came less c.requires.onward in
    let counts : c.advance.new.self.machine.count ≡ c.args.self.now.machine.count + (c.loop-alloc.self.machine.count - c.args.self.now.machine.count + 1) = one.counts in
    let few = c.min-rest.ensures in
    let left = c.saturating_sub.ensures in
    let stands = c.count-in-loop-alloc.ensures in
    omega (arith, ahead, counts, less, few, left, stands, c.requires.budget)

pub loop-alloc-preserved : goal.loop-alloc-preserved
loop-alloc-preserved c =
    let ahead : c.args.self.now.machine.count ≤ c.loop-alloc.self.machine.count = c.loop-alloc.invariant.ahead in
    let less : c.loop-alloc.self.machine.count < c.args.end = omega arith in
    let one : Leads (c.loop-alloc.self.machine.count - c.args.self.now.machine.count + 1) (traced_at c.args.replies.now c.args.self.now) (traced_at c.args.replies.now c.advance.new.self) =
    one-on (traced_at c.args.replies.now c.args.self.now) (traced_at c.args.replies.now c.loop-alloc.self) (traced_at c.args.replies.now c.advance.new.self)
    (c.loop-alloc.self.machine.count - c.args.self.now.machine.count) c.args.end c.in_ok-advance.field-0 c.loop-alloc.invariant.leads c.in_ok-advance.ensures.came less c.requires.onward in
    let counts : c.advance.new.self.machine.count ≡ c.args.self.now.machine.count + (c.loop-alloc.self.machine.count - c.args.self.now.machine.count + 1) = one.counts in
    let few = c.min-rest.ensures in
    let left = c.saturating_sub.ensures in
    let stands = c.count-in-loop-alloc.ensures in
    let came : Coasted c.as_slice.result.now c.min-rest.result (traced_at c.args.replies.now c.advance.new.self) (traced_at c.args.replies.now c.coast.new.self) = c.coast.ensures.coasted c.args.replies.now in
    let further : c.coast.new.self.machine.count ≡ c.advance.new.self.machine.count + came.done = came.leads.counts in
    let most : came.done ≤ c.min-rest.result = came.within in
    record {
      all = c.loop-alloc.invariant.all;
      leads = leads-same (c.loop-alloc.self.machine.count - c.args.self.now.machine.count + 1 + came.done) (c.coast.new.self.machine.count - c.args.self.now.machine.count) (traced_at c.args.replies.now c.args.self.now) (traced_at c.args.replies.now c.coast.new.self) (omega (arith, ahead, counts, further))
          (leads-then (c.loop-alloc.self.machine.count - c.args.self.now.machine.count + 1) came.done (traced_at c.args.replies.now c.args.self.now) (traced_at c.args.replies.now c.advance.new.self) (traced_at c.args.replies.now c.coast.new.self) one came.leads);
      ahead = omega (arith, ahead, counts, further);
      within = omega (arith, ahead, counts, less, further, most, few, left, stands);
      hit = (
          c.or-last.ensures
          ∙ ap (λ (o : Option Hit). option_or o c.loop-alloc.last) c.hit.ensures
          ∙ last_hit-more c.args.breaks.now.slots (traced_at c.args.replies.now c.args.self.now) (traced_at c.args.replies.now c.loop-alloc.self) (c.loop-alloc.self.machine.count - c.args.self.now.machine.count)
          c.args.self.now.machine.count c.advance.new.self.machine.count c.loop-alloc.last c.loop-alloc.invariant.leads refl (omega (arith, ahead, counts)) c.loop-alloc.invariant.hit
          ∙ ap (last_hit c.args.breaks.now.slots (traced_at c.args.replies.now c.args.self.now) c.args.self.now.machine.count) (omega (arith, ahead, counts))
          ∙ sym (last_hit-coasted c.args.breaks.now.slots c.as_slice.result.now (traced_at c.args.replies.now c.args.self.now) (traced_at c.args.replies.now c.advance.new.self) (traced_at c.args.replies.now c.coast.new.self) (c.loop-alloc.self.machine.count - c.args.self.now.machine.count + 1) c.min-rest.result c.args.self.now.machine.count
          (subst (λ (stops : List ℕ). HasAll c.args.breaks.now.slots stops) (sym c.as_slice.ensures.value) c.loop-alloc.invariant.all) one came)
          ∙ ap (last_hit c.args.breaks.now.slots (traced_at c.args.replies.now c.args.self.now) c.args.self.now.machine.count) (omega (arith, ahead, counts, further))
          );
    }

pub loop-alloc-smaller : goal.loop-alloc-smaller
loop-alloc-smaller c =
    let ahead : c.args.self.now.machine.count ≤ c.loop-alloc.self.machine.count = c.loop-alloc.invariant.ahead in
    let less : c.loop-alloc.self.machine.count < c.args.end = omega arith in
    let one : Leads (c.loop-alloc.self.machine.count - c.args.self.now.machine.count + 1) (traced_at c.args.replies.now c.args.self.now) (traced_at c.args.replies.now c.advance.new.self) =
    one-on (traced_at c.args.replies.now c.args.self.now) (traced_at c.args.replies.now c.loop-alloc.self) (traced_at c.args.replies.now c.advance.new.self)
    (c.loop-alloc.self.machine.count - c.args.self.now.machine.count) c.args.end c.in_ok-advance.field-0 c.loop-alloc.invariant.leads c.in_ok-advance.ensures.came less c.requires.onward in
    let counts : c.advance.new.self.machine.count ≡ c.args.self.now.machine.count + (c.loop-alloc.self.machine.count - c.args.self.now.machine.count + 1) = one.counts in
    let few = c.min-rest.ensures in
    let left = c.saturating_sub.ensures in
    let stands = c.count-in-loop-alloc.ensures in
    let came : Coasted c.as_slice.result.now c.min-rest.result (traced_at c.args.replies.now c.advance.new.self) (traced_at c.args.replies.now c.coast.new.self) = c.coast.ensures.coasted c.args.replies.now in
    let further : c.coast.new.self.machine.count ≡ c.advance.new.self.machine.count + came.done = came.leads.counts in
    let most : came.done ≤ c.min-rest.result = came.within in
    omega (arith, ahead, counts, less, further, most, few, left, stands)

pub returns : goal.returns
returns c =
    let within : c.loop-alloc.self.machine.count ≤ c.args.end = c.loop-alloc.invariant.within in
    let there : c.loop-alloc.self.machine.count ≡ c.args.end = omega arith in
    c.loop-alloc.invariant.hit
    ∙ ap (λ (n : ℕ). last_hit c.args.breaks.now.slots (traced_at c.args.replies.now c.args.self.now) c.args.self.now.machine.count (n - c.args.self.now.machine.count)) there
