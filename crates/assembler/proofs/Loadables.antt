-- What a source assembles to may be loaded.
use Rattle.std.proofs.Common.{ℕ, ◌≡◌, ◌+◌, ◌*◌, ◌<◌, ◌≤◌, Bool, true, false, not, ◌&&◌, nat_lt, List, ◌∷◌, length, Option, Some, None, Result, Ok, Err, refl, subst, arith}
use Rattle.std.specs.Prelude.{if◌then◌else◌, codes}
use Rattle.std.specs.FinMap.{get}
use Rattle.std.proofs.lemmas.Bool.Decides.{nat_tests}
use Rattle.machine_model.specs.Images.{Program, IsProfile, bytes_of_words}
use Rattle.asm_text.specs.declared.token.Line.{Line}
use Rattle.assembler.specs.{Faults.whole, Layout.Laid, Layout.Contents, declared.fault.AsmFault.AsmFault, declared.labels.Spot.Spot, declared.listing.ListingRow.ListingRow}
use Rattle.assembler.specs.Assembly.{pages, data_base, start_at, IsTextAddress, entry_of, words_of, text_segment, data_segments, Assembled, assembly}
use Rattle.assembler.specs.{declared.fault.Cause.TheVariants.NoStart, declared.fault.Cause.TheVariants.TooLarge, declared.layout.Position.Position}
use Rattle.assembler.proofs.{Profiles.profile-image, Assemblies.IsAssembly, Assemblies.assembly-is}

same_number : (m n : ℕ) → ◌≡◌ {A = Result ℕ AsmFault} (Ok m) (Ok n) → m ≡ n
same_number m n is = cc

text-address : (words offset entry : ℕ) → offset < words → 65536 + 4 * offset ≡ entry → IsTextAddress words entry
text-address words offset entry below is = (omega arith, omega arith, omega arith)

-- `_start` stands before a word of text
start-inside : (spot : Option Spot) (words entry : ℕ) → start_at spot words ≡ Ok entry → IsTextAddress words entry
start-inside None words entry is = absurd (let no : ⊥ = cc in no)
start-inside (Some spot) words entry is = by_test spot.in_data (nat_lt spot.offset words) refl is
  where
    by_test : (d b : Bool) → nat_lt spot.offset words ≡ b → (if not d && b then Ok (65536 + 4 * spot.offset) else Err (whole NoStart)) ≡ Ok entry → IsTextAddress words entry
    by_test true b test is = absurd (let no : ⊥ = cc in no)
    by_test false false test is = absurd (let no : ⊥ = cc in no)
    by_test false true test is =
        let below : spot.offset < words = grind (arith, nat_tests) in
        text-address words spot.offset entry below (same_number (65536 + 4 * spot.offset) entry is)

entry-start : (l : Laid) (entry : ℕ) → entry_of l ≡ Ok entry → start_at (get l.labels (codes "_start")) l.position.words ≡ Ok entry
entry-start l entry is = by_test (nat_lt 60 (pages (4 * l.position.words) + pages l.position.bytes)) is
  where
    by_test : (b : Bool) → (if b then Err (whole TooLarge) else start_at (get l.labels (codes "_start")) l.position.words) ≡ Ok entry → start_at (get l.labels (codes "_start")) l.position.words ≡ Ok entry
    by_test true is = absurd (let no : ⊥ = cc in no)
    by_test false is = is

fitting-pages : (words bytes w b : ℕ) → w ≡ words → b ≡ bytes → pages (4 * words) + pages bytes ≤ 60 → pages (4 * w) + pages b ≤ 60
fitting-pages words bytes w b is js fits = omega arith

-- what the lines come to keeps the profile
pub profile-made : (source : List ℕ) (lines : List Line) (image : Program) (listing : List ListingRow) → assembly source lines ≡ Ok (record { image = image; listing = listing }) → IsProfile image
profile-made source lines image listing is =
    let a : IsAssembly source lines (record { image = image; listing = listing }) = assembly-is source lines (record { image = image; listing = listing }) is in
    let c : Contents = a.contents in
    let p : Position = a.layout.position in
    let inside : IsTextAddress p.words a.entry = start-inside (get a.layout.labels (codes "_start")) p.words a.entry (entry-start a.layout a.entry a.starts) in
    let high : a.entry < 65536 + 4 * length c.cells = omega (arith, a.words, inside.2) in
    subst (λ (x : Assembled). IsProfile x.image) a.made
    (profile-image a.entry c.cells c.bytes (text_segment (bytes_of_words (words_of c.cells)) ∷ data_segments (data_base (length c.cells)) c.bytes) refl
    (fitting-pages p.words p.bytes (length c.cells) (length c.bytes) a.words a.bytes a.fits) inside.0 inside.1 high)
