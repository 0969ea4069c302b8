-- Whole words are put where a run has them.
use Rattle.std.proofs.Common.{◌≡◌, ℕ, ◌*◌, ◌/◌, ◌≤◌, List, length, take, ap, ◌∙◌, None, Option, map, arith, true, false}
use Rattle.std.specs.List.{flat_map}
use Rattle.memory_model.specs.Memory.{Memory}
use Rattle.memory_model.specs.Access.{put_bytes}
use Rattle.memory.specs.Words.{Word, memory_of_words}
use Rattle.memory.specs.Pages.{word_among}
use Rattle.memory.proofs.Flat.{flat-chunks}
use Rattle.memory.proofs.space.Space.put_words.Goals as goal

pub returns-clause-put : goal.returns-clause-put
returns-clause-put c =
    let rest : ℕ → Option Word = λ n. word_among false (map (λ a. a.value) c.self.inside.shared.items) None n in
    let old : Memory = memory_of_words (λ n. word_among true c.self.inside.own (rest n) n) in
    let bytes : List ℕ = c.args.bytes.now in
    let k : ℕ = c.put.result in
    let place : 4 * (c.args.at / 4) ≡ c.args.at = omega arith in
    let count : k ≤ length bytes / 4 = omega (arith, c.put.ensures.count, ap length c.as_chunks.ensures.front, c.as_chunks.ensures.front_len) in
    let words : flat_map (λ x. x) (take k c.as_chunks.result.0.now) ≡ take (4 * k) bytes =
    ap (λ ws. flat_map (λ x. x) (take k ws)) c.as_chunks.ensures.front ∙ flat-chunks k (length bytes / 4) bytes count (omega arith) in
    c.put.ensures.put rest ∙ (λ i. put_bytes old (place i) (words i)) ∙ ap (λ m. put_bytes m c.args.at (take (4 * k) bytes)) c.self.view_is
