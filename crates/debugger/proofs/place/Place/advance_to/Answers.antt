-- One part of the way more.
use Rattle.std.proofs.Common.{◌≡◌, ◌-◌, ◌<◌, ◌≤◌, arith}
use Rattle.debugger.specs.Ways.{traced_at}
use Rattle.debugger.proofs.Along.{leads-none, leads-same}
use Rattle.debugger.proofs.Onward.{comes-on}
use Rattle.debugger.proofs.place.Place.advance_to.Goals as goal

pub loop-alloc-init : goal.loop-alloc-init
loop-alloc-init c = record {
  leads = leads-same 0 (c.args.self.now.machine.count - c.args.self.now.machine.count) (traced_at c.args.replies.now c.args.self.now) (traced_at c.args.replies.now c.args.self.now) (omega arith) (leads-none (traced_at c.args.replies.now c.args.self.now));
  ahead = omega arith;
  within = c.requires.ahead;
  bound = λ e. e;
}

pub loop-alloc-smaller : goal.loop-alloc-smaller
loop-alloc-smaller c =
    let is : c.count-in-loop-alloc.result ≡ c.loop-alloc.self.machine.count = c.count-in-loop-alloc.ensures in
    let within : c.loop-alloc.self.machine.count ≤ c.args.count = c.loop-alloc.invariant.within in
    let on = comes-on (traced_at c.args.replies.now c.args.self.now) (traced_at c.args.replies.now c.loop-alloc.self) (traced_at c.args.replies.now c.advance.new.self)
    (c.loop-alloc.self.machine.count - c.args.self.now.machine.count) (c.args.count - c.count-in-loop-alloc.result) c.args.count c.in_ok-advance.field-0
    c.loop-alloc.invariant.leads c.in_ok-advance.ensures.came (omega arith) c.requires.onward in
    let more : c.loop-alloc.self.machine.count < c.advance.new.self.machine.count = on.0 in
    let most : c.advance.new.self.machine.count ≤ c.args.count = on.1 in
    omega arith

pub loop-alloc-preserved : goal.loop-alloc-preserved
loop-alloc-preserved c =
    let is : c.count-in-loop-alloc.result ≡ c.loop-alloc.self.machine.count = c.count-in-loop-alloc.ensures in
    let within : c.loop-alloc.self.machine.count ≤ c.args.count = c.loop-alloc.invariant.within in
    let on = comes-on (traced_at c.args.replies.now c.args.self.now) (traced_at c.args.replies.now c.loop-alloc.self) (traced_at c.args.replies.now c.advance.new.self)
    (c.loop-alloc.self.machine.count - c.args.self.now.machine.count) (c.args.count - c.count-in-loop-alloc.result) c.args.count c.in_ok-advance.field-0
    c.loop-alloc.invariant.leads c.in_ok-advance.ensures.came (omega arith) c.requires.onward in
    let more : c.loop-alloc.self.machine.count < c.advance.new.self.machine.count = on.0 in
    let ahead : c.args.self.now.machine.count ≤ c.loop-alloc.self.machine.count = c.loop-alloc.invariant.ahead in
    record { leads = on.2; ahead = omega arith; within = on.1; bound = λ e. c.advance.ensures.bound (c.loop-alloc.invariant.bound e) }
