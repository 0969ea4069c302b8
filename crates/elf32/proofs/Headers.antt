-- Program headers, one after the other.
use Rattle.std.proofs.Common.{◌≡◌, ℕ, zero, suc, ◌+◌, ◌*◌, ◌<◌, List, [], ◌∷◌, ◌++◌, length, take, drop, set, refl, ap, sym, ◌∙◌, arith}
use Rattle.std.proofs.lemmas.List.{drop-drop, take_more_set}
use Rattle.image_model.specs.declared.header.ProgramHeader.{ProgramHeader}
use Rattle.image_model.specs.Fields.{program_header, headers_in}

headers_in-suc : (k : ℕ) (bytes : List ℕ) → headers_in k bytes ++ program_header (drop (32 * k) bytes) ∷ [] ≡ headers_in (suc k) bytes
headers_in-suc zero bytes = refl
headers_in-suc (suc k) bytes =
    let far : 32 + 32 * k ≡ 32 * suc k = omega arith in
    ap (λ (rest : List ProgramHeader). program_header bytes ∷ rest)
    (ap (λ (b : List ℕ). headers_in k (drop 32 bytes) ++ program_header b ∷ []) (ap (λ (n : ℕ). drop n bytes) (sym far) ∙ sym (drop-drop (32 * k) 32 bytes))
    ∙ headers_in-suc k (drop 32 bytes))

-- one more header that is read
pub headers_in-grown : (k : ℕ) (bytes : List ℕ) (headers : List ProgramHeader) (h : ProgramHeader) → headers ≡ headers_in k bytes → h ≡ program_header (drop (32 * k) bytes)
    → headers ++ h ∷ [] ≡ headers_in (k + 1) bytes
headers_in-grown k bytes headers h so_far is =
    let one : suc k ≡ k + 1 = omega arith in
    ap (λ (prefix : List ProgramHeader). prefix ++ h ∷ []) so_far
    ∙ ap (λ (x : ProgramHeader). headers_in k bytes ++ x ∷ []) is
    ∙ headers_in-suc k bytes
    ∙ ap (λ (n : ℕ). headers_in n bytes) one

-- and is put into an array
pub headers_in-more : (k : ℕ) (bytes : List ℕ) (headers : List ProgramHeader) (h : ProgramHeader) → k < length headers → take k headers ≡ headers_in k bytes → h ≡ program_header (drop (32 * k) bytes)
    → take (k + 1) (set headers k h) ≡ headers_in (k + 1) bytes
headers_in-more k bytes headers h small so_far is = take_more_set headers k h small ∙ headers_in-grown k bytes (take k headers) h so_far is
