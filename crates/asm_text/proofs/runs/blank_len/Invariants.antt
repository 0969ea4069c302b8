-- Each byte so far is one of the run.
use Rattle.std.proofs.Common.{◌≡◌, ◌+◌, drop}
use Rattle.std.specs.List.{prefix_len}
use Rattle.asm_text.specs.Letters.{is_blank}
use Rattle.asm_text.proofs.runs.blank_len.Given as goal

abbrev pub invariant-loop-len : goal.invariant-loop-len
invariant-loop-len l = l.len + prefix_len is_blank (drop l.len l.bytes) ≡ prefix_len is_blank l.bytes
