use Rattle.std.proofs.Common.{◌≡◌, drop}
use Rattle.assembler.specs.Layout.{string_in}
use Rattle.assembler.proofs.layout.string_in.Given as goal

abbrev pub invariant-loop-token : goal.invariant-loop-token
invariant-loop-token l = string_in (drop l.token-index l.tokens) ≡ string_in l.tokens
