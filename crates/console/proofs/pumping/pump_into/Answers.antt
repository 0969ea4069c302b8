-- What is offered is the text's rest, and what was taken of it goes on from there.
use Rattle.std.proofs.Common.{◌≡◌, ℕ, ◌-◌, ◌<◌, List, length, take, drop, subst, rules, arith, length-drop, Ok}
use Rattle.std.proofs.lemmas.List.{take_all}
use Rattle.console.specs.Sinks.{Calls}
use Rattle.console.specs.Sinks.GoesOut.{nothing, some}
use Rattle.console.proofs.pumping.pump_into.Goals as goal

rest-is : (text : List ℕ) (upto : ℕ) → take (length text - upto) (drop upto text) ≡ drop upto text
rest-is text upto = take_all (length text - upto) (drop upto text) (omega (arith, length-drop upto text))

pub loop-upto-init : goal.loop-upto-init
loop-upto-init g c = (c.requires, nothing)

pub loop-upto-preserved : goal.loop-upto-preserved
loop-upto-preserved g c =
    let text = c.args.text.now in
    let upto = c.loop-upto.upto in
    let size = length-drop upto text in
    let above : 0 < c.in-Ok.count = omega arith in
    let called = subst (λ (bytes : List ℕ). Calls g.S.Sink.answers bytes c.loop-upto.sink (Ok c.in-Ok.count) c.offer_again.new.sink) (rest-is text upto) c.in-Ok.ensures.called in
    (omega (arith, c.in-Ok.ensures.count), some c.in-Ok.count c.loop-upto.invariant.1 called above)

pub returns-in-Ok-eq0-clause-fault : goal.returns-in-Ok-eq0-clause-fault
returns-in-Ok-eq0-clause-fault g c =
    let answer = c.offer_again.result in
    let called = subst (λ (bytes : List ℕ). Calls g.S.Sink.answers bytes c.loop-upto.sink answer c.offer_again.new.sink) (rest-is c.args.text.now c.loop-upto.upto) c.offer_again.ensures.called in
    record { before = c.loop-upto.sink; answer = answer; out = c.loop-upto.invariant.1; rest = c.loop-upto-test.true; last = called; nothing_taken = search rules }

pub returns-in-Ok-eq0-2-clause-fault : goal.returns-in-Ok-eq0-2-clause-fault
returns-in-Ok-eq0-2-clause-fault g c =
    let answer = c.offer_again.result in
    let called = subst (λ (bytes : List ℕ). Calls g.S.Sink.answers bytes c.loop-upto.sink answer c.offer_again.new.sink) (rest-is c.args.text.now c.loop-upto.upto) c.offer_again.ensures.called in
    record { before = c.loop-upto.sink; answer = answer; out = c.loop-upto.invariant.1; rest = c.loop-upto-test.true; last = called; nothing_taken = search rules }
