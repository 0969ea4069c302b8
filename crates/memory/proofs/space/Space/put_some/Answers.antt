-- One byte is put where no whole word is.
use Rattle.std.proofs.Common.{◌≡◌, ℕ, ◌%◌, ◌^◌, List, ap, ◌∙◌, take, arith, slice_index}
use Rattle.memory_model.specs.Memory.{Memory}
use Rattle.memory_model.specs.Access.{put_bytes}
use Rattle.memory.proofs.Stretches.{one-byte}
use Rattle.memory.proofs.space.Space.put_some.Goals as goal

pub returns-clause-put : goal.returns-clause-put
returns-clause-put c =
    let old : Memory = c.args.self.now in
    let bytes : List ℕ = c.args.bytes.now in
    let none : c.put_words-count.result ≡ 0 = omega arith in
    let same : c.put_words-count.new.self ≡ old = c.put_words-count.ensures.put ∙ ap (λ k. put_bytes old c.args.at (take k bytes)) none in
    let byte : c.from.result % 2 ^ 8 ≡ slice_index bytes 0 = omega (arith, c.from.ensures, c.type_inv.bytes 0) in
    one-byte old c.put_words-count.new.self c.store.new.self c.args.at c.from.result bytes c.store.result c.requires.some byte same c.requires.writable c.store.ensures.answer c.store.ensures.ok
