-- The bytes grow by zeros, and are then overwritten.
use Rattle.std.proofs.Common.{rules, arith, ◌≡◌, ℕ, ◌+◌, ◌-◌, List, ◌++◌, length, take, drop, ap, ◌∙◌}
use Rattle.std.proofs.lemmas.Grind.{common_steps}
use Rattle.files.proofs.Patching.{patched-grown}
use Rattle.files.proofs.list.patch.Goals as goal

pub returns-clause-ok : goal.returns-clause-ok
returns-clause-ok c =
    let more : c.saturating_sub.result ≡ c.args.offset + length c.args.bytes.now - length c.args.file.now = first_of (search rules, grind (arith, common_steps)) in
    c.overwrite.ensures
    ∙ ap (λ (b : List ℕ). take c.args.offset b ++ c.args.bytes.now ++ drop (c.args.offset + length c.args.bytes.now) b) c.in_ok-extend_zeros.ensures.ok
    ∙ patched-grown c.args.file.now c.args.offset c.args.bytes.now c.saturating_sub.result more
