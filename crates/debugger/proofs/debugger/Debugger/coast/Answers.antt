-- On along the trace, by the machine alone.
use Rattle.std.proofs.Common.{◌≡◌, ◌+◌, ◌*◌, ◌<◌, ◌≤◌, length, sym, ap, subst, arith, rules}
use Rattle.debugger.specs.Coasts.{Coasted, Coasts, HasAll}
use Rattle.debugger.specs.Keeping.{session_of}
use Rattle.debugger.specs.Sessions.{Session}
use Rattle.debugger.specs.Ways.{traced_at}
use Rattle.debugger.proofs.Arriving.{is_at-leads}
use Rattle.debugger.proofs.Unbroken.{coasts-on}
use Rattle.debugger.proofs.Holding.{keeps-at}
use Rattle.debugger.proofs.debugger.Debugger.coast.Goals as goal

pub invariant_of-self : goal.invariant_of-self
invariant_of-self c =
    let size : c.self.inside.kept.len ≡ length c.self.inside.kept.items = search rules in
    let len : c.len.result ≡ c.self.inside.kept.len = c.len.ensures in
    let count : c.count-count.result ≡ c.self.inside.place.machine.count = c.count-count.ensures in
    let same : c.self.inside.place.machine.count ≡ c.args.self.now.count = ap (λ (s : Session). s.count) c.self.view_is in
    let enough : c.self.inside.place.machine.count < 1024 * length c.self.inside.kept.items = c.self.invariant.enough in
    let came : Coasted c.args.stops.now c.min-few.result (traced_at c.self.inside.replies.items c.self.inside.place) (traced_at c.self.inside.replies.items c.coast.new.self) = c.coast.ensures.coasted c.self.inside.replies.items in
    let counts : c.coast.new.self.machine.count ≡ c.self.inside.place.machine.count + came.done = came.leads.counts in
    let within : came.done ≤ c.min-few.result = came.within in
    let few = c.min-few.ensures in
    let most = c.min.ensures in
    keeps-at c.self.inside.image c.self.inside.replies.items c.self.inside.place c.coast.new.self c.self.inside.kept.items c.self.inside.breaks c.self.invariant
    (is_at-leads c.self.inside.image c.self.inside.replies.items c.self.inside.place c.coast.new.self came.done c.self.invariant.there came.leads)
    (omega (arith, few, most)) (omega (arith, few, most, c.requires.ahead, c.requires.budget))
    (let bound = c.self.invariant.bound in omega (arith, bound, c.coast.ensures.taken))

pub returns : goal.returns
returns c =
    let count : c.count-count.result ≡ c.self.inside.place.machine.count = c.count-count.ensures in
    let same : c.self.inside.place.machine.count ≡ c.args.self.now.count = ap (λ (s : Session). s.count) c.self.view_is in
    let came : Coasted c.args.stops.now c.min-few.result (traced_at c.self.inside.replies.items c.self.inside.place) (traced_at c.self.inside.replies.items c.coast.new.self) = c.coast.ensures.coasted c.self.inside.replies.items in
    let few = c.min-few.ensures in
    let most = c.min.ensures in
    subst (λ (s : Session). Coasts s c.args.limit (session_of c.self.inside.image c.self.inside.replies.items c.coast.new.self c.self.inside.breaks c.self.inside.reran)) c.self.view_is
    (coasts-on c.self.inside.image c.self.inside.replies.items c.self.inside.place c.coast.new.self c.self.inside.breaks c.self.inside.reran c.min-few.result c.args.limit c.args.stops.now
    (subst (λ (s : Session). HasAll s.breaks c.args.stops.now) (sym c.self.view_is) c.requires.all)
    c.self.invariant.there
    (is_at-leads c.self.inside.image c.self.inside.replies.items c.self.inside.place c.coast.new.self came.done c.self.invariant.there came.leads)
    came (omega (arith, few, most, same, count, c.requires.ahead)))
