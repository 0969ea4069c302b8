use Rattle.std.proofs.Common.{◌≡◌, List, ℕ, ◌++◌, drop, Result, Ok}
use Rattle.asm_statements.specs.Tokens.{and_then}
use Rattle.assembler.specs.Layout.{numbers_in, bytes_of_numbers}
use Rattle.assembler.proofs.filling.fill_bytes.Given as goal

abbrev pub invariant-loop-token : goal.invariant-loop-token
invariant-loop-token l = record {
  tokens : l.token-items ≡ l.line.tokens;
  cells : l.output.cells.items ≡ l.initial.output.cells.items;
  bytes : ◌≡◌ {A = Result (List ℕ) ℕ} (and_then (bytes_of_numbers (numbers_in (drop l.token-index l.token-items))) (λ (more : List ℕ). Ok (l.output.bytes.items ++ more)))
      (and_then (bytes_of_numbers (numbers_in l.line.tokens)) (λ (more : List ℕ). Ok (l.initial.output.bytes.items ++ more)));
}
