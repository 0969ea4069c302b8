-- An access over a memory by its words.
use Rattle.std.proofs.Common.{◌≡◌, ℕ, suc, zero, ◌+◌, ◌*◌, ◌/◌, ◌%◌, ◌^◌, ◌<◌, ◌≤◌, Bool, true, false, cond, List, refl, ap, ◌∙◌, arith}
use Rattle.std.specs.Prelude.{◌==◌, nat_lt, Option, Some, None, option_map, Ok, Err}
use Rattle.std.proofs.lemmas.Bool.{eqb-true}
use Rattle.std.proofs.lemmas.Bool.Decides.{nat_tests}
use Rattle.std.specs.FinMap.{get}
use Rattle.memory_model.specs.Memory.{Cell}
use Rattle.memory_model.specs.Bytes.{value_in}
use Rattle.memory_model.proofs.Memories.{get-memory_of}
use Rattle.memory_model.specs.Access.{size, range_fault, access_fault, value_at, or_fault, fetched, to_execute, to_read}
use Rattle.memory_model.specs.declared.access.Rights.{Rights}
use Rattle.memory_model.specs.declared.access.Width.{Width}
use Rattle.memory_model.specs.declared.access.Width.TheVariants as width
use Rattle.memory_model.specs.declared.access.BusFault.TheVariants.{NoRight}
use Rattle.memory.specs.Words.{Word, IsReadable, cell_of, cell_at, memory_of_words, word_fault, word_taken}

inside : (q : ℕ) (c : Option Cell) → q < 2 ^ 32 → cond (nat_lt q (2 ^ 32)) c None ≡ c
inside q c h = grind (arith, nat_tests)

pub get-words : (words : ℕ → Option Word) (q : ℕ) → q < 2 ^ 32 → get (memory_of_words words) q ≡ cell_at words q
get-words words q h = get-memory_of (cell_at words) q ∙ inside q (cell_at words q) h

-- the byte at place i of the word n
pub get-word : (words : ℕ → Option Word) (w : Option Word) (n i q : ℕ) → n < 2 ^ 30 → i < 4 → q ≡ 4 * n + i → words n ≡ w → get (memory_of_words words) q ≡ option_map (cell_of i) w
get-word words w n i q h k e is =
    let number : q / 4 ≡ n = omega arith in
    let place : q % 4 ≡ i = omega arith in
    get-words words q (omega arith) ∙ (λ t. option_map (cell_of (place t)) (words (number t))) ∙ ap (option_map (cell_of i)) is

-- the same of n bytes that lie in one word
pub range_fault-word : (right : Rights → Bool) (words : ℕ → Option Word) (w : Option Word) (n j k q : ℕ) → n < 2 ^ 30 → j + suc k ≤ 4 → q ≡ 4 * n + j → words n ≡ w → range_fault right (memory_of_words words) q (suc k) ≡ word_fault right w
range_fault-word right words None n j k q h b e is =
    rw (get-word words None n j q h (omega arith) e is) refl
range_fault-word right words (Some w) n j zero q h b e is =
    rw (get-word words (Some w) n j q h (omega arith) e is) refl
range_fault-word right words (Some w) n j (suc k) q h b e is =
    rw (get-word words (Some w) n j q h (omega arith) e is, range_fault-word right words (Some w) n (j + 1) k (q + 1) h (omega arith) (omega arith) is) (by_right (right w.rights))
  where
    by_right : (r : Bool) → cond r (cond r None (Some NoRight)) (Some NoRight) ≡ cond r None (Some NoRight)
    by_right true = refl
    by_right false = refl

pub value_at-word : (words : ℕ → Option Word) (w : Word) (n j k q : ℕ) → n < 2 ^ 30 → j + k ≤ 4 → q ≡ 4 * n + j → words n ≡ Some w → value_at (memory_of_words words) q k ≡ value_in w.bytes j k
value_at-word words w n j zero q h b e is = refl
value_at-word words w n j (suc k) q h b e is =
    rw (get-word words (Some w) n j q h (omega arith) e is, value_at-word words w n (j + 1) k (q + 1) h (omega arith) (omega arith) is) refl

taken : (right : Rights → Bool) (words : ℕ → Option Word) (w : Option Word) (n j k q : ℕ) → n < 2 ^ 30 → j + suc k ≤ 4 → q ≡ 4 * n + j → words n ≡ w → or_fault (range_fault right (memory_of_words words) q (suc k)) (value_at (memory_of_words words) q (suc k)) ≡ word_taken right w j (suc k)
taken right words None n j k q h b e is = rw (range_fault-word right words None n j k q h b e is) refl
taken right words (Some w) n j k q h b e is =
    rw (range_fault-word right words (Some w) n j k q h b e is, value_at-word words w n j (suc k) q h b e is) (by_right (right w.rights) (value_in w.bytes j (suc k)))
  where
    by_right : (r : Bool) (v : ℕ) → or_fault (cond r None (Some NoRight)) v ≡ cond r (Ok v) (Err NoRight)
    by_right true v = refl
    by_right false v = refl

by_width : (right : Rights → Bool) (words : ℕ → Option Word) (at : ℕ) (width : Width) → at < 2 ^ 32 → (at % size width == 0) ≡ true
    → or_fault (range_fault right (memory_of_words words) at (size width)) (value_at (memory_of_words words) at (size width)) ≡ word_taken right (words (at / 4)) (at % 4) (size width)
by_width right words at width.Byte h e = taken right words (words (at / 4)) (at / 4) (at % 4) 0 at (omega arith) (omega arith) (omega arith) refl
by_width right words at width.Half h e = let f : at % 2 ≡ 0 = eqb-true _ _ e in taken right words (words (at / 4)) (at / 4) (at % 4) 1 at (omega arith) (omega arith) (omega arith) refl
by_width right words at width.Word h e = let f : at % 4 ≡ 0 = eqb-true _ _ e in taken right words (words (at / 4)) (at / 4) (at % 4) 3 at (omega arith) (omega arith) (omega arith) refl

-- what an aligned access gives, by the word it lies in
pub taken-aligned : (right : Rights → Bool) (words : ℕ → Option Word) (at : ℕ) (width : Width) (w : Option Word) → at < 2 ^ 32 → (at % size width == 0) ≡ true → words (at / 4) ≡ w
    → or_fault (access_fault right (memory_of_words words) at width) (value_at (memory_of_words words) at (size width)) ≡ word_taken right w (at % 4) (size width)
taken-aligned right words at width w h e is = rw e (by_width right words at width h e ∙ ap (λ (x : Option Word). word_taken right x (at % 4) (size width)) is)

range_by_width : (right : Rights → Bool) (words : ℕ → Option Word) (at : ℕ) (width : Width) → at < 2 ^ 32 → (at % size width == 0) ≡ true → range_fault right (memory_of_words words) at (size width) ≡ word_fault right (words (at / 4))
range_by_width right words at width.Byte h e = range_fault-word right words (words (at / 4)) (at / 4) (at % 4) 0 at (omega arith) (omega arith) (omega arith) refl
range_by_width right words at width.Half h e = let f : at % 2 ≡ 0 = eqb-true _ _ e in range_fault-word right words (words (at / 4)) (at / 4) (at % 4) 1 at (omega arith) (omega arith) (omega arith) refl
range_by_width right words at width.Word h e = let f : at % 4 ≡ 0 = eqb-true _ _ e in range_fault-word right words (words (at / 4)) (at / 4) (at % 4) 3 at (omega arith) (omega arith) (omega arith) refl

-- why an aligned access is refused, by the word it lies in
pub access_fault-aligned : (right : Rights → Bool) (words : ℕ → Option Word) (at : ℕ) (width : Width) (w : Option Word) → at < 2 ^ 32 → (at % size width == 0) ≡ true → words (at / 4) ≡ w → access_fault right (memory_of_words words) at width ≡ word_fault right w
access_fault-aligned right words at width w h e is = rw e (range_by_width right words at width h e ∙ ap (word_fault right) is)

pub fetched-aligned : (words : ℕ → Option Word) (at : ℕ) (w : Option Word) → at < 2 ^ 32 → (at % 4 == 0) ≡ true → words (at / 4) ≡ w → fetched (memory_of_words words) at ≡ word_taken to_execute w 0 4
fetched-aligned words at w h e is =
    let place : at % 4 ≡ 0 = eqb-true _ _ e in
    taken-aligned to_execute words at width.Word w h e is ∙ ap (λ j. word_taken to_execute w j 4) place

-- what a word that may be read gives
pub taken-readable : (w : Option Word) (bytes : List ℕ) (j n : ℕ) → IsReadable w bytes → word_taken to_read w j n ≡ Ok (value_in bytes j n)
taken-readable None bytes j n r = absurd r
taken-readable (Some w) bytes j n r = λ i. cond (r.0 i) (Ok (value_in (r.1 i) j n)) (Err NoRight)
