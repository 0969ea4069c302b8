-- A store over a memory by its words.
use Rattle.std.proofs.Common.{◌≡◌, ℕ, ◌+◌, ◌*◌, ◌/◌, ◌%◌, ◌^◌, ◌<◌, ◌≤◌, Bool, true, false, cond, List, [], ◌∷◌, length, refl, sym, ap, ◌∙◌, arith}
use Rattle.std.specs.Prelude.{◌==◌, ◌≢◌, nat_lt, slice_set, Option, Some, None, option_map, if◌then◌else◌}
use Rattle.std.proofs.Common.{inl, inr}
use Rattle.std.proofs.Math.ListN.{length-set}
use Rattle.std.proofs.lemmas.List.{get_or-set_same, get_or-set_other}
use Rattle.std.proofs.lemmas.Bool.Decides.{eqb_tells}
use Rattle.std.specs.FinMap.{get, insert}
use Rattle.memory_model.specs.Memory.{Cell}
use Rattle.memory_model.specs.Bytes.{put_in}
use Rattle.memory_model.proofs.Memories.{get-memory_of, get-insert, same_memory}
use Rattle.memory_model.specs.Access.{with_byte, put_bytes}
use Rattle.memory.specs.Words.{Word, cell_of, cell_at, memory_of_words}
use Rattle.memory.proofs.WordAccess.{get-word}

-- the words with one changed
abbrev pub with_word : (ℕ → Option Word) → ℕ → Option Word → ℕ → Option Word
with_word words n w m = if m == n then w else words m

get-any : (words : ℕ → Option Word) (q : ℕ) → get (memory_of_words words) q ≡ cond (nat_lt q (2 ^ 32)) (cell_at words q) None
get-any words q = get-memory_of (cell_at words) q

-- pointwise equal words make the same memory
pub same_words : (f g : ℕ → Option Word) → ((n : ℕ) → f n ≡ g n) → memory_of_words f ≡ memory_of_words g
same_words f g same = λ i. memory_of_words (λ n. same n i)

changed : Word → ℕ → ℕ → Word
changed w j b = record { bytes = slice_set w.bytes j b; rights = w.rights }

with_word-same : (words : ℕ → Option Word) (n : ℕ) (w : Option Word) → with_word words n w n ≡ w
with_word-same words n w = elim (eqb_tells n n) [ inl e ↦ rw e.0 refl | inr e ↦ absurd (e.1 refl) ]

with_word-twice : (words : ℕ → Option Word) (n : ℕ) (v w : Option Word) (m : ℕ) → with_word (with_word words n v) n w m ≡ with_word words n w m
with_word-twice words n v w m = by (m == n) (words m)
  where
    by : (t : Bool) (x : Option Word) → cond t w (cond t v x) ≡ cond t w x
    by true x = refl
    by false x = refl

with_word-kept : (words : ℕ → Option Word) (n : ℕ) (w : Option Word) (m : ℕ) → words n ≡ w → words m ≡ with_word words n w m
with_word-kept words n w m is = elim (eqb_tells m n) [ inl e ↦ rw e.0 (ap words e.1 ∙ is) | inr e ↦ rw e.0 refl ]

-- a cell at another place of the changed word, or of another word
elsewhere : (words : ℕ → Option Word) (w : Word) (n j b p : ℕ) → words n ≡ Some w → p ≢ 4 * n + j → cell_at words p ≡ cell_at (with_word words n (Some (changed w j b))) p
unfolding changed
elsewhere words w n j b p is other =
    elim (eqb_tells (p / 4) n) [
      | inl e ↦
          let place : p % 4 ≢ j = λ (same : p % 4 ≡ j). other (let number : p / 4 ≡ n = e.1 in omega arith) in
          rw e.0 (ap (λ m. option_map (cell_of (p % 4)) (words m)) e.1 ∙ ap (option_map (cell_of (p % 4))) is
          ∙ ap (λ (x : ℕ). Some (record { byte = x; rights = w.rights })) (sym (get_or-set_other w.bytes j (p % 4) b 0 place)))
      | inr e ↦ rw e.0 refl
    ]

-- one byte
one : (words : ℕ → Option Word) (w : Word) (n j b q : ℕ) → n < 2 ^ 30 → j < 4 → length w.bytes ≡ 4 → q ≡ 4 * n + j → words n ≡ Some w
    → with_byte (memory_of_words words) q b (get (memory_of_words words) q) ≡ memory_of_words (with_word words n (Some (changed w j b)))
unfolding changed
one words w n j b q h k len e is = rw (get-word words (Some w) n j q h k e is) (same_memory _ _ alike)
  where
    here : (p : ℕ) → p ≡ q → Some (record { byte = b; rights = w.rights }) ≡ get (memory_of_words (with_word words n (Some (changed w j b)))) p
    here p f =
        ap (λ (x : ℕ). Some (record { byte = x; rights = w.rights })) (sym (get_or-set_same w.bytes j b 0 (omega arith)))
        ∙ sym (get-word (with_word words n (Some (changed w j b))) (Some (changed w j b)) n j p h k (f ∙ e) (with_word-same words n (Some (changed w j b))))

    alike : (p : ℕ) → get (insert (memory_of_words words) q (record { byte = b; rights = w.rights })) p ≡ get (memory_of_words (with_word words n (Some (changed w j b)))) p
    alike p =
        get-insert (memory_of_words words) q (record { byte = b; rights = w.rights }) p
        ∙ elim (eqb_tells p q) [
          | inl f ↦ rw f.0 (here p f.1)
          | inr f ↦ rw f.0 (get-any words p ∙ ap (λ (c : Option Cell). cond (nat_lt p (2 ^ 32)) c None) (elsewhere words w n j b p is (λ (g : p ≡ 4 * n + j). f.1 (g ∙ sym e))) ∙ sym (get-any (with_word words n (Some (changed w j b))) p))
        ]

pub put_bytes-words : (bs : List ℕ) (words : ℕ → Option Word) (w : Word) (n j q : ℕ) → n < 2 ^ 30 → j + length bs ≤ 4 → length w.bytes ≡ 4 → q ≡ 4 * n + j → words n ≡ Some w
    → put_bytes (memory_of_words words) q bs ≡ memory_of_words (with_word words n (Some (record { bytes = put_in w.bytes j bs; rights = w.rights })))
unfolding changed
put_bytes-words [] words w n j q h k len e is = same_words _ _ (λ m. with_word-kept words n (Some w) m is)
put_bytes-words (b ∷ bs) words w n j q h k len e is =
    let shorter : j + 1 + length bs ≤ 4 = omega arith in
    ap (λ m. put_bytes m (q + 1) bs) (one words w n j b q h (omega arith) len e is)
    ∙ put_bytes-words bs (with_word words n (Some (changed w j b))) (changed w j b) n (j + 1) (q + 1) h shorter (length-set w.bytes j b ∙ len) (omega arith) (with_word-same words n (Some (changed w j b)))
    ∙ same_words _ _ (with_word-twice words n (Some (changed w j b)) (Some (record { bytes = put_in (slice_set w.bytes j b) (j + 1) bs; rights = w.rights })))
