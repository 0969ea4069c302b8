-- One half after the other.
use Rattle.std.proofs.Common.{◌++◌, ℕ, List, subst}
use Rattle.std.proofs.lemmas.List.{append_assoc}
use Rattle.state_search.specs.Digests.{IsOf, word_bytes}
use Rattle.state_search.proofs.state_digest.StateDigest.sum.Goals as goal

pub returns : goal.returns
returns c = λ text is.
    let high = word_bytes c.args.sum.high in
    subst (λ (m : List ℕ). IsOf c.word-2.new.self m) (append_assoc text high (word_bytes c.args.sum.low)) (c.word-2.ensures (text ++ high) (c.word.ensures text is))
