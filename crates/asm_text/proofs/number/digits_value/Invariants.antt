-- The digits so far make the value, which is small, and with the digits left it makes the number.
use Rattle.std.proofs.Common.{◌≡◌, ◌<◌, ◌^◌, drop}
use Rattle.asm_text.specs.Letters.{digits_value}
use Rattle.asm_text.proofs.number.digits_value.Given as goal

abbrev pub invariant-loop-byte : goal.invariant-loop-byte
invariant-loop-byte l = record {
  small : l.value < 2 ^ 32;
  so_far : digits_value l.base l.value (drop l.byte-index l.digits) ≡ digits_value l.base 0 l.digits;
}
