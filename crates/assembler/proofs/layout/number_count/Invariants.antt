use Rattle.std.proofs.Common.{◌≡◌, ◌+◌, ◌≤◌, drop, length}
use Rattle.assembler.specs.Layout.{counted, numbers_in}
use Rattle.assembler.proofs.layout.number_count.Given as goal

abbrev pub invariant-loop-token : goal.invariant-loop-token
invariant-loop-token l = record {
  count : counted (l.count + length (numbers_in (drop l.token-index l.tokens))) ≡ counted (length (numbers_in l.tokens));
  small : l.count ≤ 4294967295;
}
