-- The contents so far, and after them what the rest holds, are the contents.
use Rattle.std.proofs.Common.{◌≡◌, false, drop}
use Rattle.asm_text.specs.Scan.{contents_from}
use Rattle.asm_text.proofs.Strings.{after}
use Rattle.asm_text.proofs.quoted.contents.Given as goal

abbrev pub invariant-loop-i : goal.invariant-loop-i
invariant-loop-i l = after l.contents.items l.i (contents_from l.escaping (drop l.i l.bytes)) ≡ contents_from false l.bytes
