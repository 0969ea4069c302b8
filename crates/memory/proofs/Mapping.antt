-- Pages that are added to a memory.
use Rattle.std.proofs.Common.{◌≡◌, ℕ, suc, zero, ◌+◌, ◌-◌, ◌*◌, ◌/◌, ◌%◌, ◌^◌, ◌<◌, ◌≤◌, Bool, true, false, cond, List, [], ◌∷◌, ◌++◌, length, drop, refl, sym, ap, ◌∙◌, arith, subst}
use Rattle.std.specs.Prelude.{◌&&◌, nat_lt, nat_le, slice_index, slice_index_or, Option, Some, None, option_map}
use Rattle.std.specs.Simd.{first_chunks}
use Rattle.std.specs.FinMap.{get}
use Rattle.std.proofs.lemmas.List.{get_or-take, get_or-drop}
use Rattle.std.proofs.lemmas.Bool.Decides.{nat_tests}
use Rattle.memory_model.specs.Access.{mapped, cell_with}
use Rattle.memory_model.specs.declared.access.Rights.{Rights}
use Rattle.memory_model.proofs.Memories.{get-memory_of, same_memory}
use Rattle.memory.specs.Words.{Word, cell_of, cell_at, memory_of_words}
use Rattle.memory.specs.Pages.{Pages, Adds, has_word, word_in, word_among, words_of, pages_of}
use Rattle.memory.proofs.WordAccess.{get-words, get-word}
use Rattle.memory.proofs.Places.{no_some, has_word-range}

among-push : (write : Bool) (parts : List Pages) (p : Pages) (rest : Option Word) (n : ℕ) → word_among write (parts ++ p ∷ []) rest n ≡ word_among write parts (cond (has_word p n) (Some (word_in write p n)) rest) n
among-push write [] p rest n = refl
among-push write (q ∷ qs) p rest n = ap (cond (has_word q n) (Some (word_in write q n))) (among-push write qs p rest n)

free-step : (b : Bool) (w : Word) (a c y : Option Word) → (a ≡ None → c ≡ y) → cond b (Some w) a ≡ None → cond b (Some w) c ≡ y
free-step true w a c y f e = absurd (no_some e)
free-step false w a c y f e = f e

-- where no run has a word, what stands after them counts
among-free : (write : Bool) (parts : List Pages) (x y : Option Word) (n : ℕ) → word_among write parts x n ≡ None → word_among write parts y n ≡ y
among-free write [] x y n e = refl
among-free write (q ∷ qs) x y n e = free-step (has_word q n) (word_in write q n) (word_among write qs x n) (word_among write qs y n) y (among-free write qs x y n) e

-- a run that may be written is added after the others
pub own-push : (own : List Pages) (p : Pages) → Adds own p (own ++ p ∷ [])
own-push own p rest n free = among-push true own p rest n ∙ by (has_word p n) refl
  where
    by : (b : Bool) → has_word p n ≡ b → word_among true own (cond b (Some (word_in true p n)) rest) n ≡ cond b (Some (word_in true p n)) (word_among true own rest n)
    by true e = among-free true own rest (Some (word_in true p n)) n (free e)
    by false e = refl

-- the same of runs that equal these
pub adds-as : (old own left new : List Pages) (p : Pages) → old ≡ own → left ≡ new → Adds old p left → Adds own p new
adds-as old own left new p e f adds = subst (λ (ps : List Pages). Adds ps p new) e (subst (λ (ps : List Pages). Adds old p ps) f adds)

-- a run that may not be written is added before the others that may not
pub shared-front : (own shared : List Pages) (p : Pages) (n : ℕ) → (has_word p n ≡ true → words_of own shared n ≡ None) → words_of own (p ∷ shared) n ≡ cond (has_word p n) (Some (word_in false p n)) (words_of own shared n)
shared-front own shared p n free = by (has_word p n) refl
  where
    by : (b : Bool) → has_word p n ≡ b → word_among true own (cond b (Some (word_in false p n)) (word_among false shared None n)) n ≡ cond b (Some (word_in false p n)) (words_of own shared n)
    by true e = among-free true own (word_among false shared None n) (Some (word_in false p n)) n (free e)
    by false e = refl

none_mapped : (w : Option Word) → option_map (cell_of 0) w ≡ None → w ≡ None
none_mapped None e = refl
none_mapped (Some w) e = cc

length-first_chunks : (n k : ℕ) (xs : List ℕ) → length (first_chunks n k xs) ≡ k
length-first_chunks n zero xs = refl
length-first_chunks n (suc k) xs = ap suc (length-first_chunks n k (drop n xs))

slice_index-first_chunks : (k : ℕ) (xs : List ℕ) (i j : ℕ) → i < k → j < 4 → slice_index (slice_index_or (first_chunks 4 k xs) i []) j ≡ slice_index xs (4 * i + j)
slice_index-first_chunks zero xs i j h l = absurd (omega arith)
slice_index-first_chunks (suc k) xs zero j h l = get_or-take 4 xs j 0 l ∙ ap (slice_index xs) (omega arith)
slice_index-first_chunks (suc k) xs (suc i) j h l = slice_index-first_chunks k (drop 4 xs) i j (omega arith) l ∙ get_or-drop 4 xs (4 * i + j) 0 ∙ ap (slice_index xs) (omega arith)

-- a word's address lies in the added range exactly where its number lies in the added run
same_range : (page q l k : ℕ) → l % 4096 ≡ 0 → k ≡ l / 4 → (nat_le (page * 1024) (q / 4) && nat_lt (q / 4 - page * 1024) k) ≡ (nat_le (4096 * page) q && nat_lt q (4096 * page + l))
same_range page q l k h e = grind (arith, nat_tests)

-- what no address of the added range has, no word of the added run has
pub free-words : (words : ℕ → Option Word) (page : ℕ) (rights : Rights) (bytes : List ℕ) → length bytes % 4096 ≡ 0 → 4096 * page + length bytes ≤ 2 ^ 32
    → ((a : ℕ) → 4096 * page ≤ a → a < 4096 * page + length bytes → get (memory_of_words words) a ≡ None) → (n : ℕ) → has_word (pages_of page rights bytes) n ≡ true → words n ≡ None
free-words words page rights bytes whole range free n has =
    let r = has_word-range (pages_of page rights bytes) n has in
    let len = length-first_chunks 4 (length bytes / 4) bytes in
    none_mapped (words n) (sym (get-word words (words n) n 0 (4 * n) (omega (arith, r.1, len)) (omega arith) (omega arith) refl) ∙ free (4 * n) (omega (arith, r.0)) (omega (arith, r.1, len)))

-- the memory with a run of pages added
pub mapped-words : (words new : ℕ → Option Word) (page : ℕ) (rights : Rights) (bytes : List ℕ) → length bytes % 4096 ≡ 0 → 4096 * page + length bytes ≤ 2 ^ 32
    → ((n : ℕ) → new n ≡ cond (has_word (pages_of page rights bytes) n) (Some (word_in rights.write (pages_of page rights bytes) n)) (words n))
    → memory_of_words new ≡ mapped (memory_of_words words) (4096 * page) rights bytes
mapped-words words new page rights bytes whole range added = same_memory _ _ alike
  where
    here : (q : ℕ) → q < 2 ^ 32 → (b : Bool) → has_word (pages_of page rights bytes) (q / 4) ≡ b → option_map (cell_of (q % 4)) (cond b (Some (word_in rights.write (pages_of page rights bytes) (q / 4))) (words (q / 4))) ≡ cond b (Some (cell_with rights (slice_index bytes (q - 4096 * page)))) (get (memory_of_words words) q)
    here q h true e =
        let r = has_word-range (pages_of page rights bytes) (q / 4) e in
        let len = length-first_chunks 4 (length bytes / 4) bytes in
        ap (λ (x : ℕ). Some (cell_with rights x)) (slice_index-first_chunks (length bytes / 4) bytes (q / 4 - page * 1024) (q % 4) (omega (arith, r.0, r.1, len)) (omega arith) ∙ ap (slice_index bytes) (omega (arith, r.0)))
    here q h false e = sym (get-words words q h)

    cells : (q : ℕ) (b : Bool) → nat_lt q (2 ^ 32) ≡ b → cond b (cell_at new q) None ≡ cond b (cond (nat_le (4096 * page) q && nat_lt q (4096 * page + length bytes)) (Some (cell_with rights (slice_index bytes (q - 4096 * page)))) (get (memory_of_words words) q)) None
    cells q true e =
        ap (option_map (cell_of (q % 4))) (added (q / 4)) ∙ here q (grind (arith, nat_tests)) (has_word (pages_of page rights bytes) (q / 4)) refl
        ∙ ap (λ b. cond b (Some (cell_with rights (slice_index bytes (q - 4096 * page)))) (get (memory_of_words words) q)) (same_range page q (length bytes) _ whole (length-first_chunks 4 (length bytes / 4) bytes))
    cells q false e = refl

    alike : (q : ℕ) → get (memory_of_words new) q ≡ get (mapped (memory_of_words words) (4096 * page) rights bytes) q
    alike q = get-memory_of (cell_at new) q ∙ cells q (nat_lt q (2 ^ 32)) refl ∙ sym (get-memory_of _ q)
