-- One byte more.
use Rattle.std.proofs.Common.{◌≡◌, ℕ, ◌+◌, ◌%◌, ◌^◌, ◌++◌, ◌∷◌, [], List, sym, ap, ◌∙◌, rules}
use Rattle.std.specs.Prelude.{Option}
use Rattle.std.proofs.lemmas.List.{append-nil}
use Rattle.timeline.specs.Locations.{byte_in, bytes_from}
use Rattle.timeline.proofs.Holding.{bytes_more, bytes_none}
use Rattle.timeline.proofs.location.push_bytes.Goals as goal

pub loop-offset-init : goal.loop-offset-init
loop-offset-init c = sym (ap (λ (bytes : List (Option ℕ)). c.args.held.now.items ++ bytes) (bytes_none c.args.space.now c.args.at) ∙ append-nil c.args.held.now.items)

pub loop-offset-preserved : goal.loop-offset-preserved
loop-offset-preserved c =
    let byte : c.byte_in.result ≡ byte_in c.args.space.now ((c.args.at + c.loop-offset.offset) % 2 ^ 32) = search rules in
    c.in_ok-push.ensures.items
    ∙ ap (λ (bytes : List (Option ℕ)). bytes ++ c.byte_in.result ∷ []) c.loop-offset.invariant
    ∙ ap (λ (o : Option ℕ). (c.args.held.now.items ++ bytes_from c.args.space.now c.args.at c.loop-offset.offset) ++ o ∷ []) byte
    ∙ bytes_more c.args.space.now c.args.at c.loop-offset.offset c.args.held.now.items
