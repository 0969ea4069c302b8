-- What a store answers and leaves.
use Rattle.std.proofs.Common.{rules, ◌≡◌, ◌<◌, ◌≤◌, ◌%◌, ◌==◌, length, true, sym, ap, ◌∙◌, arith, refl}
use Rattle.memory_model.specs.Access.{size, or_fault, to_write}
use Rattle.library_tests.specs.FlatMemory.{memory_of_bytes}
use Rattle.library_tests.proofs.ByByte.{fault-here, fault-past, stored-here}
use Rattle.library_tests.proofs.flat_bus.FlatBusBus.store.Goals as goal

pub returns-then-at-end-clause-answer : goal.returns-then-at-end-clause-answer
returns-then-at-end-clause-answer c =
    let len : length c.args.self.now.bytes ≡ 64 = sym c.end.ensures.len ∙ c.end.ensures.value in
    let aligned : (c.args.at % size c.args.width == 0) ≡ true = search rules in
    let past : 64 ≤ c.args.at = omega arith in
    sym (ap (λ f. or_fault f tt) (fault-past to_write c.args.self.now.bytes c.args.at c.args.width len past aligned))

pub returns-clause-answer : goal.returns-clause-answer
returns-clause-answer c =
    let len : length c.args.self.now.bytes ≡ 64 = sym c.end.ensures.len ∙ c.end.ensures.value in
    let aligned : (c.args.at % size c.args.width == 0) ≡ true = search rules in
    let below : c.args.at < 64 = omega arith in
    sym (ap (λ f. or_fault f tt) (fault-here to_write c.args.self.now.bytes c.args.at c.args.width refl len below aligned))

pub returns-clause-ok : goal.returns-clause-ok
returns-clause-ok c =
    let len : length c.args.self.now.bytes ≡ 64 = sym c.end.ensures.len ∙ c.end.ensures.value in
    let aligned : (c.args.at % size c.args.width == 0) ≡ true = search rules in
    let below : c.args.at < 64 = omega arith in
    ap memory_of_bytes c.write.ensures ∙ sym (stored-here c.args.self.now.bytes c.args.at c.args.width c.args.value len below aligned)
