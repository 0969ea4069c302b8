-- The lemmas on lines and tokens, one step at a time, say it.
use Rattle.asm_text.proofs.{Every.has_text, Unique.one_text, Unique.text_or_fault, Unique.one_fault}
use Rattle.asm_text.proofs.laws.one_reading.Goals as goal

pub returns : goal.returns
returns c = record { some = has_text; lines = one_text; not_both = text_or_fault; fault = one_fault }
