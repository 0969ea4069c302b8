use Rattle.std.proofs.Common.{◌≡◌, drop}
use Rattle.asm_statements.specs.Statements.{operands_read, slots_of, no_operands}
use Rattle.asm_statements.proofs.operands.read_operands.Given as goal

abbrev pub invariant-loop-slot : goal.invariant-loop-slot
invariant-loop-slot l = record {
  wanted : l.slot-items ≡ slots_of l.fn.mnemonic;
  read : operands_read l.source l.end (drop l.slot-index l.slot-items) l.rest l.operands ≡ operands_read l.source l.end (slots_of l.fn.mnemonic) l.fn.tokens no_operands;
}
