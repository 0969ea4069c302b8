-- What a table of names gives.
use Rattle.std.proofs.Common.{ℕ, ◌≡◌, ◌<◌, true, false, List, [], ◌∷◌, Some, arith, refl, nat_lt}
use Rattle.std.specs.{List.list_all, Str.bytes_eq}
use Rattle.std.proofs.lemmas.Bool.Decides.{nat_tests}
use Rattle.asm_statements.specs.Names.{named, registers}

-- a table of numbers below 32 gives one below 32
named-below : (rows : List (List ℕ × ℕ)) (word : List ℕ) (n : ℕ) → list_all (λ row. nat_lt row.1 32) rows ≡ true → named rows word ≡ Some n → n < 32
named-below [] word n all is = cc
named-below (row ∷ rows) word n all is =
    elim (bytes_eq row.0 word) as (λ b. bytes_eq row.0 word ≡ b → n < 32) [
      | true ↦ λ e. grind (arith, nat_tests)
      | false ↦ λ e. named-below rows word n (grind (arith, nat_tests)) (rw e at is)
    ] refl

-- a register's number is below 32
pub register-below : (word : List ℕ) (n : ℕ) → named registers word ≡ Some n → n < 32
register-below word n is = named-below registers word n refl is
