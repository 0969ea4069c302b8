-- What a load answers: that the address is past the bytes, or what they spell.
use Rattle.std.proofs.Common.{rules, ◌≡◌, ◌<◌, ◌≤◌, ◌%◌, ◌==◌, length, true, sym, ap, ◌∙◌, arith}
use Rattle.memory_model.specs.Access.{size, or_fault, value_at, to_read}
use Rattle.library_tests.specs.FlatMemory.{memory_of_bytes}
use Rattle.library_tests.proofs.ByByte.{fault-past, loaded-here}
use Rattle.library_tests.proofs.flat_bus.FlatBusBus.load.Goals as goal

pub returns-then-at-end : goal.returns-then-at-end
returns-then-at-end c =
    let len : length c.args.self.now.bytes ≡ 64 = sym c.end.ensures.len ∙ c.end.ensures.value in
    let aligned : (c.args.at % size c.args.width == 0) ≡ true = search rules in
    let past : 64 ≤ c.args.at = omega arith in
    sym (ap (λ f. or_fault f (value_at (memory_of_bytes c.args.self.now.bytes) c.args.at (size c.args.width))) (fault-past to_read c.args.self.now.bytes c.args.at c.args.width len past aligned))

pub returns : goal.returns
returns c =
    let len : length c.args.self.now.bytes ≡ 64 = sym c.end.ensures.len ∙ c.end.ensures.value in
    let aligned : (c.args.at % size c.args.width == 0) ≡ true = search rules in
    let below : c.args.at < 64 = omega arith in
    rw c.read.ensures (sym (loaded-here c.args.self.now.bytes c.args.at c.args.width len below aligned))
