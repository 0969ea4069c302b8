-- The bytes of words.
use Rattle.std.proofs.Common.{◌≡◌, ℕ, suc, zero, ◌+◌, ◌*◌, ◌/◌, ◌%◌, ◌^◌, ◌<◌, ◌≤◌, true, false, subst, List, [], ◌∷◌, ◌++◌, length, get_or, take, refl, sym, ap, ◌∙◌, arith}
use Rattle.std.specs.Prelude.{All}
use Rattle.std.specs.Int.{to_le_bytes, w32}
use Rattle.std.proofs.lemmas.List.{append_assoc, append-nil, take_more, length-append}
use Rattle.memory_model.specs.Access.{low_bytes}
use Rattle.machine_model.specs.declared.image.Segment.{Segment}
use Rattle.machine_model.specs.Images.{IsLoadable, IsProfile, bytes_of_words, program_of_words}

pub low_bytes-le : (word : ℕ) → to_le_bytes w32 word ≡ low_bytes 4 word
low_bytes-le word =
    let second : word / 65536 ≡ word / 256 / 256 = omega arith in
    let third : word / 16777216 ≡ word / 256 / 256 / 256 = omega arith in
    ap (λ (n : ℕ). word % 256 ∷ word / 256 % 256 ∷ n % 256 ∷ word / 16777216 % 256 ∷ []) second
    ∙ ap (λ (n : ℕ). word % 256 ∷ word / 256 % 256 ∷ word / 256 / 256 % 256 ∷ n % 256 ∷ []) third

bytes_of_words-push : (words : List ℕ) (word : ℕ) → bytes_of_words (words ++ word ∷ []) ≡ bytes_of_words words ++ low_bytes 4 word
bytes_of_words-push [] word = append-nil (low_bytes 4 word)
bytes_of_words-push (w ∷ words) word = ap (λ (bytes : List ℕ). low_bytes 4 w ++ bytes) (bytes_of_words-push words word) ∙ sym (append_assoc (low_bytes 4 w) (bytes_of_words words) (low_bytes 4 word))

bytes_of_words-take : (words : List ℕ) (i : ℕ) → i < length words → bytes_of_words (take i words) ++ to_le_bytes w32 (get_or words i 0) ≡ bytes_of_words (take (i + 1) words)
bytes_of_words-take words i small =
    ap (λ (bytes : List ℕ). bytes_of_words (take i words) ++ bytes) (low_bytes-le (get_or words i 0)) ∙ sym (bytes_of_words-push (take i words) (get_or words i 0)) ∙ sym (ap bytes_of_words (take_more words i 0 small))

-- one more word at the end
pub words_more : (old now new number words : List ℕ) (i : ℕ) → i < length words → now ≡ old ++ bytes_of_words (take i words) → number ≡ to_le_bytes w32 (get_or words i 0) → new ≡ now ++ number
    → new ≡ old ++ bytes_of_words (take (i + 1) words)
words_more old now new number words i small so_far is put =
    put ∙ ap (λ (bytes : List ℕ). bytes ++ number) so_far ∙ append_assoc old (bytes_of_words (take i words)) number
    ∙ ap (λ (bytes : List ℕ). old ++ (bytes_of_words (take i words) ++ bytes)) is
    ∙ ap (λ (bytes : List ℕ). old ++ bytes) (bytes_of_words-take words i small)

pub length-low_bytes : (n value : ℕ) → length (low_bytes n value) ≡ n
length-low_bytes zero value = refl
length-low_bytes (suc n) value = ap suc (length-low_bytes n (value / 2 ^ 8))

pub length-bytes_of_words : (words : List ℕ) → length (bytes_of_words words) ≡ 4 * length words
length-bytes_of_words [] = refl
length-bytes_of_words (word ∷ words) = omega (arith, length-append (low_bytes 4 word) (bytes_of_words words), length-low_bytes 4 word, length-bytes_of_words words)

All-one : {X : Type 0} (P : X → Type 0) (x : X) → P x → All P (x ∷ [])
All-one P x p zero d lt = p
All-one P x p (suc k) d lt = absurd (omega (arith, lt))

-- the program of words meets the profile
IsProfile-words : (words : List ℕ) → 0 < length words → length words ≤ 61440 → IsProfile (program_of_words words)
IsProfile-words words some few = record {
  some = omega arith;
  few = omega arith;
  loadable = All-one IsLoadable _ (record { present = omega (arith, some); within = omega (arith, length-bytes_of_words words); some_right = refl; above = omega arith; below = omega (arith, few) });
  ascending = (omega arith, tt);
  small = omega (arith, few);
  aligned = refl;
  in_code = (0, _, omega arith, refl, (refl, omega arith, omega (arith, some)));
}

pub IsProfile-segments : (words bytes : List ℕ) (segments : List Segment) → segments ≡ record { vaddr = 0x00010000; memsz = 4 * length words; rights = record { read = true; write = false; execute = true }; bytes = bytes } ∷ [] → bytes ≡ bytes_of_words words
    → 0 < length words → length words ≤ 61440 → IsProfile (record { entry = 0x00010000; segments = segments })
IsProfile-segments words bytes segments is spelled some few =
    subst (λ (list : List Segment). IsProfile (record { entry = 0x00010000; segments = list })) (sym (is ∙ ap (λ (b : List ℕ). record { vaddr = 0x00010000; memsz = 4 * length words; rights = record { read = true; write = false; execute = true }; bytes = b } ∷ []) spelled)) (IsProfile-words words some few)
