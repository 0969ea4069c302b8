-- One part more is written, and the rights stay.
use Rattle.std.proofs.Common.{◌≡◌, ℕ, ◌+◌, ◌-◌, ◌<◌, List, length, drop, ap, ◌∙◌, arith, rules}
use Rattle.std.proofs.lemmas.List.{length-drop}
use Rattle.std.specs.List.{between}
use Rattle.std.proofs.lemmas.Slice.{between_to_end}
use Rattle.memory_model.specs.Memory.{Memory}
use Rattle.memory_model.specs.Access.{to_write}
use Rattle.memory.proofs.Stretches.{put-step, may-step, range_fault-first}
use Rattle.memory.proofs.space.Space.copy_out.Goals as goal

pub put_some-done-requires-clause-writable : goal.put_some-done-requires-clause-writable
put_some-done-requires-clause-writable c =
    let bytes : List ℕ = c.args.bytes.now in
    let done : ℕ = c.loop-done.done in
    let some : 0 < length bytes - done = omega arith in
    range_fault-first to_write c.loop-done.self (c.args.at + done) (length bytes - done) c.loop-done.invariant.writable some

pub loop-done-preserved : goal.loop-done-preserved
loop-done-preserved c =
    let m : Memory = c.loop-done.self in
    let bytes : List ℕ = c.args.bytes.now in
    let done : ℕ = c.loop-done.done in
    let rest : List ℕ = between done (length bytes) bytes in
    let is : rest ≡ drop done bytes = between_to_end bytes done (length bytes) (omega arith) in
    record {
      rest = put-step m c.put_some-done.new.self c.args.at done c.put_some-done.result bytes rest is c.put_some-done.ensures.within c.put_some-done.ensures.put ∙ c.loop-done.invariant.rest;
      writable = may-step m c.put_some-done.new.self c.args.at done c.put_some-done.result bytes rest is c.put_some-done.ensures.within c.put_some-done.ensures.put to_write c.loop-done.invariant.writable;
      below = omega (arith, c.put_some-done.ensures.within, ap length is, length-drop done bytes, c.loop-done-test.true);
    }

-- Without answers these would be proved too; with them, an edit that breaks one is refused sooner.
pub returns-in-Some-clause-answer : goal.returns-in-Some-clause-answer
returns-in-Some-clause-answer c = search rules

pub loop-done-init : goal.loop-done-init
loop-done-init c = search rules
