-- Steps of a line that gave a value.
use Rattle.std.proofs.Common.{ℕ, ◌≡◌, List, Result, Ok, Err}
use Rattle.asm_text.specs.declared.token.Line.{Line}
use Rattle.assembler.specs.{Faults.at_line, declared.fault.Cause.Cause}

pub at_line-ok : {A : Type 0} (source : List ℕ) (line : Line) (why : Cause) (r : Result A ℕ) (x : A) → at_line source line why r ≡ Ok x → r ≡ Ok x
at_line-ok source line why (Ok y) x is = cc
at_line-ok source line why (Err at) x is = cc
