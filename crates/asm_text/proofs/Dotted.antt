-- Where `fence.i` comes first, and stands whole.
use Rattle.std.proofs.Common.{◌≡◌, ℕ, ◌≤◌, true, eqb, List, [], ◌++◌, length, take, drop, refl, ap, subst, ◌∙◌, arith, length-append}
use Rattle.std.specs.Prelude.{nat_eq}
use Rattle.std.specs.List.{prefix_len, starts_with}
use Rattle.std.proofs.{Math.Seq.take-append_seam, Math.Seq.drop-append_seam, lemmas.Bool.Decides.Decides-eqb, lemmas.Slice.Eq.starts_is}
use Rattle.std.proofs.lemmas.Bool.{eqb-true, eq-eqb, and_parts, and_from}
use Rattle.asm_text.specs.{Letters.is_name_byte, Letters.fence_i, Letters.IsRunEnd, Scan.begins_fence_i}
use Rattle.asm_text.proofs.Names.{run_ends, run_is}

-- where it is found: its bytes come first, there are as many, it stands whole, and the rest comes after it
pub whole_here : (bytes : List ℕ) → begins_fence_i bytes ≡ true → (take 7 bytes ≡ fence_i) × (7 ≤ length bytes) × IsRunEnd is_name_byte (drop 7 bytes) × (bytes ≡ fence_i ++ drop 7 bytes)
whole_here bytes here =
    let parts = and_parts (starts_with nat_eq bytes fence_i) (eqb (prefix_len is_name_byte (drop 7 bytes)) 0) here in
    let parted : bytes ≡ fence_i ++ drop 7 bytes = (starts_is Decides-eqb bytes fence_i (starts_with nat_eq bytes fence_i) refl).0 parts.0 in
    let none : prefix_len is_name_byte (drop 7 bytes) ≡ 0 = eqb-true (prefix_len is_name_byte (drop 7 bytes)) 0 parts.1 in
    let ends : IsRunEnd is_name_byte (drop 7 bytes) = subst (λ (n : ℕ). IsRunEnd is_name_byte (drop n (drop 7 bytes))) none (run_ends is_name_byte (drop 7 bytes)) in
    let size : 7 ≤ length bytes = omega (arith, ap length parted, length-append fence_i (drop 7 bytes)) in
    (ap (take 7) parted ∙ take-append_seam fence_i (drop 7 bytes), size, ends, parted)

-- where these are its bytes, and it stands whole, it is found
pub is_whole : (bytes after : List ℕ) → bytes ≡ fence_i ++ after → IsRunEnd is_name_byte after → begins_fence_i bytes ≡ true
is_whole bytes after parted ends =
    let first : starts_with nat_eq bytes fence_i ≡ true = (starts_is Decides-eqb bytes fence_i (starts_with nat_eq bytes fence_i) refl).1 after parted in
    let rest : drop 7 bytes ≡ after = ap (drop 7) parted ∙ drop-append_seam fence_i after in
    let none : prefix_len is_name_byte (drop 7 bytes) ≡ 0 = ap (prefix_len is_name_byte) rest ∙ run_is is_name_byte [] after (λ k d small. absurd (omega arith)) ends in
    and_from (starts_with nat_eq bytes fence_i) (eqb (prefix_len is_name_byte (drop 7 bytes)) 0) first (eq-eqb (prefix_len is_name_byte (drop 7 bytes)) 0 none)
