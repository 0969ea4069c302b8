-- What the statements of a source come to may be loaded.
use Rattle.std.proofs.Common.{◌≡◌, ℕ, ◌+◌, ◌*◌, ◌%◌, ◌<◌, ◌≤◌, subst, List, [], ◌∷◌, ◌++◌, length, drop, refl, sym, ap, ◌∙◌, arith, length-drop}
use Rattle.std.proofs.{lemmas.List.length-append, lemmas.List.Elements.All-cons, lemmas.List.Elements.All-nil}
use Rattle.memory_model.specs.Access.{low_bytes}
use Rattle.machine_model.specs.{declared.image.Segment.Segment, Images.IsLoadable, Images.IsProfile, Images.bytes_of_words}
use Rattle.machine_model.proofs.Words.{length-low_bytes}
use Rattle.assembler.specs.{Assembly.pages, Assembly.data_base, Assembly.words_of, Assembly.text_segment, Assembly.data_segment, Assembly.data_segments, declared.filling.Cell.Cell}

-- text has four bytes for each word
pub text_length : (cells : List Cell) → length (bytes_of_words (words_of cells)) ≡ 4 * length cells
text_length [] = refl
text_length (c ∷ cells) = omega (arith, length-append (low_bytes 4 c.word) (bytes_of_words (words_of cells)), length-low_bytes 4 c.word, text_length cells)

-- bytes that with those of the words left are those of all, have four for each word so far
pub text-ends : (prefix : List ℕ) (cells : List Cell) (i : ℕ) → length cells ≤ i → prefix ++ bytes_of_words (words_of (drop i cells)) ≡ bytes_of_words (words_of cells) → length prefix ≡ 4 * length cells
text-ends prefix cells i ended is =
    omega (arith, ap length is, length-append prefix (bytes_of_words (words_of (drop i cells))), text_length (drop i cells), text_length cells, length-drop i cells)

loadable-text : (bytes : List ℕ) → 0 < length bytes → length bytes ≤ 245760 → IsLoadable (text_segment bytes)
loadable-text bytes some few = record { present = some; within = omega arith; some_right = refl; above = omega arith; below = omega arith }

loadable-data : (at : ℕ) (bytes : List ℕ) → 0 < length bytes → length bytes ≤ 245760 → 65536 ≤ at → at ≤ 311296 → IsLoadable (data_segment at bytes)
loadable-data at bytes some few low high = record { present = some; within = omega arith; some_right = refl; above = low; below = omega arith }

-- an image of at most 60 pages, with an entry in its text, may be loaded
profile-segments : (entry count : ℕ) (text bytes : List ℕ) → length text ≡ 4 * count → pages (4 * count) + pages (length bytes) ≤ 60 → entry % 4 ≡ 0 → 65536 ≤ entry → entry < 65536 + 4 * count
    → IsProfile (record { entry = entry; segments = text_segment text ∷ data_segments (data_base count) bytes })
profile-segments entry count text [] len fits aligned low high = record {
  some = omega arith;
  few = omega arith;
  loadable = All-cons IsLoadable (text_segment text) [] (loadable-text text (omega arith) (omega arith)) (All-nil IsLoadable);
  ascending = (omega arith, tt);
  small = omega arith;
  aligned = aligned;
  in_code = (0, text_segment text, omega arith, refl, (refl, low, omega arith));
}
profile-segments entry count text (b ∷ bytes) len fits aligned low high = record {
  some = omega arith;
  few = omega arith;
  loadable = All-cons IsLoadable (text_segment text) (data_segment (data_base count) (b ∷ bytes) ∷ []) (loadable-text text (omega arith) (omega arith)) (All-cons IsLoadable (data_segment (data_base count) (b ∷ bytes)) [] (loadable-data (data_base count) (b ∷ bytes) (omega arith) (omega arith) (omega arith) (omega arith)) (All-nil IsLoadable));
  ascending = (omega arith, (omega arith, tt));
  small = omega arith;
  aligned = aligned;
  in_code = (0, text_segment text, omega arith, refl, (refl, low, omega arith));
}

pub profile-image : (entry : ℕ) (cells : List Cell) (bytes : List ℕ) (segments : List Segment) → segments ≡ text_segment (bytes_of_words (words_of cells)) ∷ data_segments (data_base (length cells)) bytes
    → pages (4 * length cells) + pages (length bytes) ≤ 60 → entry % 4 ≡ 0 → 65536 ≤ entry → entry < 65536 + 4 * length cells → IsProfile (record { entry = entry; segments = segments })
profile-image entry cells bytes segments is fits aligned low high =
    subst (λ (list : List Segment). IsProfile (record { entry = entry; segments = list })) (sym is)
    (profile-segments entry (length cells) (bytes_of_words (words_of cells)) bytes (text_length cells) fits aligned low high)

-- the same of the parts as the code has them
pub profile-parts : (entry : ℕ) (cells given : List Cell) (text bytes : List ℕ) (base count : ℕ) (segments : List Segment) → segments ≡ text_segment text ∷ data_segments base bytes → text ≡ bytes_of_words (words_of given) → given ≡ cells → base ≡ data_base count → count ≡ length cells
    → pages (4 * length cells) + pages (length bytes) ≤ 60 → entry % 4 ≡ 0 → 65536 ≤ entry → entry < 65536 + 4 * length cells → IsProfile (record { entry = entry; segments = segments })
profile-parts entry cells given text bytes base count segments is spelled same at counts fits aligned low high =
    let words : List Cell → List ℕ = λ (x : List Cell). bytes_of_words (words_of x) in
    profile-image entry cells bytes segments
    (is ∙ ap (λ (t : List ℕ). text_segment t ∷ data_segments base bytes) (spelled ∙ ap words same) ∙ ap (λ (b : ℕ). text_segment (words cells) ∷ data_segments b bytes) (at ∙ ap data_base counts))
    fits aligned low high
