-- One stretch more is copied.
use Rattle.std.proofs.Common.{◌≡◌, ℕ, ◌+◌, length, sym, ap, ◌∙◌, arith, rules, vec_len, length-append}
use Rattle.memory_model.specs.Access.{to_read}
use Rattle.memory.proofs.Stretches.{copy-step, not-missing}
use Rattle.memory.proofs.space.Space.copy_of.Goals as goal

pub unreachable-requires : goal.unreachable-requires
unreachable-requires c =
    let done : ℕ = c.len-done.result in
    not-missing to_read c.args.self.now c.args.at done c.args.n (c.from.result + done) c.requires.readable (omega arith) (ap (λ a. a + done) c.from.ensures) c.in_default.ensures.missing

pub loop-bytes-preserved : goal.loop-bytes-preserved
loop-bytes-preserved c =
    let v = c.loop-bytes.bytes in
    let done : ℕ = c.len-done.result in
    let len : vec_len v ≡ length v.items = search rules in
    let size : length v.items ≡ done = sym len ∙ sym c.len-done.ensures in
    let place : c.from.result + done ≡ c.args.at + done = ap (λ a. a + done) c.from.ensures in
    record {
      so_far = copy-step c.args.self.now c.args.at done c.args.n (c.from.result + done) c.in-Some.found.now c.in-Some.field-0-1 place c.in-Some.ensures.bytes c.in-Some.ensures.most v.items c.extend_from_slice.new.self.items size c.in_ok-extend_from_slice.ensures.items ∙ c.loop-bytes.invariant.so_far;
      below = omega (arith, ap length c.in_ok-extend_from_slice.ensures.items, length-append v.items c.in-Some.found.now, c.in-Some.ensures.most, size, len);
    }
