-- From what is kept at the part's begin.
use Rattle.std.proofs.Common.{◌≡◌, ◌-◌, ◌*◌, ◌/◌, ◌≤◌, ◌^◌, List, None, sym, ap, subst, arith}
use Rattle.std.specs.Option.{option_or}
use Rattle.machine_model.specs.declared.reply.Reply.{Reply}
use Rattle.debugger.specs.Hits.{last_below, last_hit}
use Rattle.debugger.specs.Sessions.{Session}
use Rattle.debugger.specs.Traces.{along, halt_of, next_of}
use Rattle.debugger.specs.Ways.{traced_at}
use Rattle.debugger.specs.Keeping.{IsKept}
use Rattle.debugger.proofs.Arriving.{onward-from}
use Rattle.debugger.proofs.Hitting.{kept-part}
use Rattle.debugger.proofs.Holding.{kept-found}
use Rattle.debugger.proofs.debugger.Debugger.last_hit_of_part.Goals as goal

pub last_hit-requires-clause-ahead : goal.last_hit-requires-clause-ahead
last_hit-requires-clause-ahead c =
    let there : c.self.inside.place.machine.count ≡ c.args.self.now.count = ap (λ (s : Session). s.count) c.self.view_is in
    let small : c.args.end - 1 ≤ c.self.inside.place.machine.count = omega (arith, there, c.requires.reached) in
    let found : IsKept c.self.inside.image c.self.inside.replies.items ((c.args.end - 1) / 1024) c.in_ok-start.start = kept-found c.self.inside.image c.self.inside.replies.items c.self.inside.place c.self.inside.kept.items c.self.inside.breaks (c.args.end - 1) c.index-kept.result.now c.in_ok-start.start c.self.invariant small c.index-kept.ensures c.in_ok-start.ensures in
    let counts : c.in_ok-start.start.machine.count ≡ 1024 * ((c.args.end - 1) / 1024) = found.counts in
    omega (arith, counts, c.requires.some)

pub last_hit-requires-clause-budget : goal.last_hit-requires-clause-budget
last_hit-requires-clause-budget c =
    let there : c.self.inside.place.machine.count ≡ c.args.self.now.count = ap (λ (s : Session). s.count) c.self.view_is in
    let most : c.self.inside.place.machine.count ≤ 2 ^ 40 = c.self.invariant.budget in
    omega (arith, there, most, c.requires.reached)

pub last_hit-requires-clause-onward : goal.last_hit-requires-clause-onward
last_hit-requires-clause-onward c =
    let there : c.self.inside.place.machine.count ≡ c.args.self.now.count = ap (λ (s : Session). s.count) c.self.view_is in
    let small : c.args.end - 1 ≤ c.self.inside.place.machine.count = omega (arith, there, c.requires.reached) in
    let found : IsKept c.self.inside.image c.self.inside.replies.items ((c.args.end - 1) / 1024) c.in_ok-start.start = kept-found c.self.inside.image c.self.inside.replies.items c.self.inside.place c.self.inside.kept.items c.self.inside.breaks (c.args.end - 1) c.index-kept.result.now c.in_ok-start.start c.self.invariant small c.index-kept.ensures c.in_ok-start.ensures in
    λ k less. subst (λ (rs : List Reply). halt_of (next_of (along k (traced_at rs c.in_ok-start.start))) ≡ None) (sym c.as_slice.ensures.value)
    (onward-from c.self.inside.image c.self.inside.replies.items c.self.inside.place c.in_ok-start.start k c.self.invariant.there found.there (omega (arith, there, less, c.requires.reached)))

pub returns-clause-hit : goal.returns-clause-hit
returns-clause-hit c =
    let there : c.self.inside.place.machine.count ≡ c.args.self.now.count = ap (λ (s : Session). s.count) c.self.view_is in
    let small : c.args.end - 1 ≤ c.self.inside.place.machine.count = omega (arith, there, c.requires.reached) in
    let found : IsKept c.self.inside.image c.self.inside.replies.items ((c.args.end - 1) / 1024) c.in_ok-start.start = kept-found c.self.inside.image c.self.inside.replies.items c.self.inside.place c.self.inside.kept.items c.self.inside.breaks (c.args.end - 1) c.index-kept.result.now c.in_ok-start.start c.self.invariant small c.index-kept.ensures c.in_ok-start.ensures in
    subst (λ (s : Session). last_below s c.args.end ≡ option_or c.in_ok-hit.hit (last_below s (1024 * ((c.args.end - 1) / 1024)))) c.self.view_is
    (kept-part c.self.inside.image c.self.inside.replies.items c.self.inside.place c.in_ok-start.start c.self.inside.breaks c.self.inside.reran ((c.args.end - 1) / 1024) c.args.end c.in_ok-hit.hit found (omega (arith, c.requires.some))
    (subst (λ (rs : List Reply). c.in_ok-hit.hit ≡ last_hit c.self.inside.breaks.slots (traced_at rs c.in_ok-start.start) c.in_ok-start.start.machine.count (c.args.end - c.in_ok-start.start.machine.count)) c.as_slice.ensures.value c.in_ok-hit.ensures))
