-- What was kept stays, and so do the states that were reached.
use Rattle.std.proofs.Common.{◌≡◌, List, [], ◌∷◌, refl, ap, ◌∙◌, arith}
use Rattle.machine_model.specs.declared.reply.Reply.{Reply}
use Rattle.debugger.specs.Sessions.{Session, place_at}
use Rattle.debugger.specs.Traces.{Traced, reached}
use Rattle.debugger.proofs.Along.{state-before}
use Rattle.debugger.proofs.Holding.{keeps-more}
use Rattle.debugger.proofs.debugger.Debugger.extend.Goals as goal

pub invariant_of-self-2 : goal.invariant_of-self-2
invariant_of-self-2 c =
    keeps-more c.self.inside.image c.self.inside.replies.items (c.args.reply ∷ []) c.push.new.self.items c.self.inside.place c.self.inside.kept.items c.self.inside.breaks
    c.in_ok-push.ensures.items c.self.invariant

pub returns-clause-stays : goal.returns-clause-stays
returns-clause-stays c = λ n within.
    let count : c.self.inside.place.machine.count ≡ c.args.self.now.count = ap (λ (s : Session). s.count) c.self.view_is in
    let here : (reached c.self.inside.image c.self.inside.replies.items c.self.inside.place.machine.count).state.count ≡ c.self.inside.place.machine.count = ap (λ (t : Traced). t.state.count) c.self.invariant.there in
    ap (λ (rs : List Reply). (reached c.self.inside.image rs n).state) c.in_ok-push.ensures.items
    ∙ state-before c.self.inside.image c.self.inside.replies.items (c.args.reply ∷ []) c.self.inside.place.machine.count n refl here (omega (arith, count, within))
    ∙ ap (λ (s : Session). (place_at s n).state) c.self.view_is
