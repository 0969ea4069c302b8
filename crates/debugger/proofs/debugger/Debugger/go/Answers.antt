-- On along the trace, and what is kept of it.
use Rattle.std.proofs.Common.{◌≡◌, ◌+◌, ◌*◌, ◌<◌, ◌≤◌, List, length, None, sym, ap, subst, arith, rules}
use Rattle.machine_model.specs.declared.reply.Reply.{Reply}
use Rattle.debugger.specs.Sessions.{Session}
use Rattle.debugger.specs.Ways.{traced_at, Leads, Came}
use Rattle.debugger.specs.Keeping.{session_of, IsAt, Keeps, Advances}
use Rattle.debugger.specs.declared.place.Place.{Place}
use Rattle.debugger.proofs.Arriving.{is_at-leads, advances-came, advances-one}
use Rattle.debugger.proofs.Holding.{keeps-at, keeps-push}
use Rattle.debugger.proofs.debugger.Debugger.go.Goals as goal

pub invariant_of-self : goal.invariant_of-self
invariant_of-self c =
    subst (λ (places : List Place). Keeps c.self.inside.image c.self.inside.replies.items c.self.inside.place places c.self.inside.breaks) (sym c.in_err-push.ensures.items) c.self.invariant

pub invariant_of-self-then-room-eq0 : goal.invariant_of-self-then-room-eq0
invariant_of-self-then-room-eq0 c =
    let size : c.self.inside.kept.len ≡ length c.self.inside.kept.items = search rules in
    let len : c.len.result ≡ c.self.inside.kept.len = c.len.ensures in
    let count : c.count.result ≡ c.self.inside.place.machine.count = c.count.ensures in
    let same : c.self.inside.place.machine.count ≡ c.args.self.now.count = ap (λ (s : Session). s.count) c.self.view_is in
    let enough : c.self.inside.place.machine.count < 1024 * length c.self.inside.kept.items = c.self.invariant.enough in
    let leads : Leads 1 (traced_at c.self.inside.replies.items c.self.inside.place) (traced_at c.self.inside.replies.items c.in_ok-next.next) =
    subst (λ (rs : List Reply). Leads 1 (traced_at rs c.self.inside.place) (traced_at rs c.in_ok-next.next)) c.as_slice-then-room-eq0.ensures.value c.in_ok-next.ensures.leads in
    keeps-push c.self.inside.image c.self.inside.replies.items c.self.inside.place c.in_ok-next.next c.in_ok-kept.kept c.self.inside.kept.items c.push.new.self.items c.self.inside.breaks
    c.self.invariant leads c.in_ok-kept.ensures c.in_ok-push.ensures.items (omega (arith, c.if-room-eq0.true)) (omega (arith, c.requires.some, c.requires.budget))
    (subst (λ (rs : List Reply). c.self.inside.place.taken ≤ length rs → c.in_ok-next.next.taken ≤ length rs) c.as_slice-then-room-eq0.ensures.value c.in_ok-next.ensures.bound c.self.invariant.bound)

pub returns-then-room-eq0-clause-advances : goal.returns-then-room-eq0-clause-advances
returns-then-room-eq0-clause-advances c =
    let leads : Leads 1 (traced_at c.self.inside.replies.items c.self.inside.place) (traced_at c.self.inside.replies.items c.in_ok-next.next) =
    subst (λ (rs : List Reply). Leads 1 (traced_at rs c.self.inside.place) (traced_at rs c.in_ok-next.next)) c.as_slice-then-room-eq0.ensures.value c.in_ok-next.ensures.leads in
    let there : IsAt c.self.inside.image c.self.inside.replies.items c.in_ok-next.next =
    is_at-leads c.self.inside.image c.self.inside.replies.items c.self.inside.place c.in_ok-next.next 1 c.self.invariant.there leads in
    subst (λ (s : Session). Advances s c.args.max None (session_of c.self.inside.image c.self.inside.replies.items c.in_ok-next.next c.self.inside.breaks c.self.inside.reran)) c.self.view_is
    (advances-one c.self.inside.image c.self.inside.replies.items c.self.inside.place c.in_ok-next.next c.self.inside.breaks c.self.inside.reran c.args.max there c.requires.some leads)

pub invariant_of-self-2 : goal.invariant_of-self-2
invariant_of-self-2 c =
    let size : c.self.inside.kept.len ≡ length c.self.inside.kept.items = search rules in
    let len : c.len.result ≡ c.self.inside.kept.len = c.len.ensures in
    let count : c.count.result ≡ c.self.inside.place.machine.count = c.count.ensures in
    let same : c.self.inside.place.machine.count ≡ c.args.self.now.count = ap (λ (s : Session). s.count) c.self.view_is in
    let enough : c.self.inside.place.machine.count < 1024 * length c.self.inside.kept.items = c.self.invariant.enough in
    let came : Came c.min-few.result (traced_at c.self.inside.replies.items c.self.inside.place) c.in_ok-halt.halt (traced_at c.self.inside.replies.items c.advance.new.self) =
    subst (λ (rs : List Reply). Came c.min-few.result (traced_at rs c.self.inside.place) c.in_ok-halt.halt (traced_at rs c.advance.new.self)) c.as_slice-2.ensures.value c.in_ok-halt.ensures.came in
    let counts : c.advance.new.self.machine.count ≡ c.self.inside.place.machine.count + came.done = came.leads.counts in
    let within : came.done ≤ c.min-few.result = came.within in
    let few = c.min-few.ensures in
    let most = c.min.ensures in
    keeps-at c.self.inside.image c.self.inside.replies.items c.self.inside.place c.advance.new.self c.self.inside.kept.items c.self.inside.breaks c.self.invariant
    (is_at-leads c.self.inside.image c.self.inside.replies.items c.self.inside.place c.advance.new.self came.done c.self.invariant.there came.leads)
    (omega (arith, few, most)) (omega (arith, few, most, c.requires.budget))
    (subst (λ (rs : List Reply). c.self.inside.place.taken ≤ length rs → c.advance.new.self.taken ≤ length rs) c.as_slice-2.ensures.value c.advance.ensures.bound c.self.invariant.bound)

pub returns-clause-advances : goal.returns-clause-advances
returns-clause-advances c =
    let came : Came c.min-few.result (traced_at c.self.inside.replies.items c.self.inside.place) c.in_ok-halt.halt (traced_at c.self.inside.replies.items c.advance.new.self) =
    subst (λ (rs : List Reply). Came c.min-few.result (traced_at rs c.self.inside.place) c.in_ok-halt.halt (traced_at rs c.advance.new.self)) c.as_slice-2.ensures.value c.in_ok-halt.ensures.came in
    let few = c.min-few.ensures in
    let most = c.min.ensures in
    let top = c.from.ensures in
    subst (λ (s : Session). Advances s c.args.max c.in_ok-halt.halt (session_of c.self.inside.image c.self.inside.replies.items c.advance.new.self c.self.inside.breaks c.self.inside.reran)) c.self.view_is
    (advances-came c.self.inside.image c.self.inside.replies.items c.self.inside.place c.advance.new.self c.self.inside.breaks c.self.inside.reran c.min-few.result c.args.max c.in_ok-halt.halt c.self.invariant.there
    (is_at-leads c.self.inside.image c.self.inside.replies.items c.self.inside.place c.advance.new.self came.done c.self.invariant.there came.leads)
    (omega (arith, few, most, top, c.requires.some, c.if-room-eq0.false)) (omega (arith, few, most)) came)
