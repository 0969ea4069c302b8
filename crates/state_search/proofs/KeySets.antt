-- Keys, and sets of them.
use Rattle.std.proofs.Common.{arith, ◌≡◌, Bool, true, false, cond}
use Rattle.std.specs.Prelude.{◌||◌}
use Rattle.std.proofs.lemmas.Grind.{common_steps}
use Rattle.state_search.specs.declared.key.Key.{Key}
use Rattle.state_search.specs.Keys.{is_same}

key_of_parts : (a b : Key) → a.high ≡ b.high → a.low ≡ b.low → a ≡ b
key_of_parts a b high low = λ i. record { high = high i; low = low i }

-- two keys that are tested to be the same are
pub same-keys : (a b : Key) → is_same a b ≡ true → a ≡ b
same-keys a b same = key_of_parts a b (grind (arith, common_steps, same)) (grind (arith, common_steps, same))

-- and a key is the same as itself
pub same-itself : (a : Key) → is_same a a ≡ true
same-itself a = grind (arith, common_steps)

-- a set to which a key is added has it beside the others
pub set-added : (test old new : Bool) → new ≡ cond test true old → new ≡ (test || old)
set-added true old new sets = sets
set-added false old new sets = sets
