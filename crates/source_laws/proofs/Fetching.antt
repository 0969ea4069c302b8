-- Words are fetched where they are listed.
use Rattle.std.proofs.Common.{◌≡◌, ℕ, suc, zero, ◌+◌, ◌*◌, ◌/◌, ◌%◌, ◌^◌, ◌<◌, Bool, true, List, [], ◌∷◌, ◌++◌, length, Option, Some, None, Ok, refl, sym, ap, ◌∙◌, subst, arith}
use Rattle.std.specs.Prelude.{◌==◌, if◌then◌else◌, All, slice_index}
use Rattle.std.specs.FinMap.{get}
use Rattle.std.proofs.lemmas.List.Elements.{All-nil, All-cons, All-head, All-tail}
use Rattle.formats.specs.declared.instr.Instr.{Instr}
use Rattle.memory_model.specs.{Memory.Memory, Memory.Cell, declared.access.Rights.Rights, declared.access.Width.TheVariants.Word, declared.access.BusFault.BusFault}
use Rattle.memory_model.specs.Access.{to_execute, fault_at, range_fault, access_fault, byte_of, value_at, or_fault, fetched, low_bytes, cell_with}
use Rattle.memory_model.specs.declared.access.BusFault.TheVariants.{NoRight, Misaligned}
use Rattle.machine_model.specs.declared.image.Segment.{Segment}
use Rattle.asm_text.specs.declared.token.Line.{Line}
use Rattle.assembler.specs.{Assembly.text_segment, Sections.AreListed, Sections.IsListedFirst, Sections.AreInstructions, Sections.IsListedInstruction, Sections.ListsInstructions}
use Rattle.asm_statements.specs.{Expansion.instructions_of, declared.mnemonic.Mnemonic.Mnemonic, declared.operands.Operands.Operands}
use Rattle.assembler.specs.declared.listing.ListingRow.{ListingRow}
use Rattle.source_laws.specs.Loaded.{IsFetched, AreFetched, FetchesInstructions}

-- ---- a word that stands in a memory is fetched

-- bytes stand in a memory one after the other from an address on, with these rights
abbrev HasBytes : Memory → Rights → ℕ → List ℕ → Type 0
HasBytes memory rights at [] = Unit {0}
HasBytes memory rights at (b ∷ bytes) = (get memory at ≡ Some (cell_with rights b)) × HasBytes memory rights (at + 1) bytes

-- each byte stands at its own address
abbrev EachHasByte : Memory → Rights → ℕ → List ℕ → Type 0
EachHasByte memory rights at bytes = (k : ℕ) → k < length bytes → get memory (at + k) ≡ Some (cell_with rights (slice_index bytes k))

each-next : (memory : Memory) (rights : Rights) (at b : ℕ) (bytes : List ℕ) → EachHasByte memory rights at (b ∷ bytes) → EachHasByte memory rights (at + 1) bytes
each-next memory rights at b bytes each k below =
    let place : at + suc k ≡ at + 1 + k = omega arith in
    let inside : suc k < length (b ∷ bytes) = omega (arith, below) in
    subst (λ (n : ℕ). get memory n ≡ Some (cell_with rights (slice_index bytes k))) place (each (suc k) inside)

stands-each : (memory : Memory) (rights : Rights) (bytes : List ℕ) (at : ℕ) → EachHasByte memory rights at bytes → HasBytes memory rights at bytes
stands-each memory rights [] at each = tt
stands-each memory rights (b ∷ bytes) at each =
    let place : at + 0 ≡ at = omega arith in
    let inside : 0 < length (b ∷ bytes) = omega arith in
    (subst (λ (n : ℕ). get memory n ≡ Some (cell_with rights b)) place (each 0 inside), stands-each memory rights bytes (at + 1) (each-next memory rights at b bytes each))

-- the bytes of a number may be executed
no-fault : (memory : Memory) (rights : Rights) (n value : ℕ) (rest : List ℕ) (at : ℕ) → rights.execute ≡ true → HasBytes memory rights at (low_bytes n value ++ rest) → range_fault to_execute memory at n ≡ None
no-fault memory rights zero value rest at right stands = refl
no-fault memory rights (suc n) value rest at right stands =
    ap (λ (c : Option Cell). fault_at to_execute c (range_fault to_execute memory (at + 1) n)) stands.0
    ∙ ap (λ (b : Bool). if b then range_fault to_execute memory (at + 1) n else Some NoRight) right
    ∙ no-fault memory rights n (value / 2 ^ 8) rest (at + 1) right stands.1

-- one above the greatest number of so many bytes
abbrev bytes_end : ℕ → ℕ
bytes_end zero = 1
bytes_end (suc n) = 256 * bytes_end n

shorter : (value end : ℕ) → value < 256 * end → value / 2 ^ 8 < end
shorter value end small = omega arith

joined : (value : ℕ) → value % 2 ^ 8 + 2 ^ 8 * (value / 2 ^ 8) ≡ value
joined value = omega arith

-- and spell it
spells : (memory : Memory) (rights : Rights) (n value : ℕ) (rest : List ℕ) (at : ℕ) → value < bytes_end n → HasBytes memory rights at (low_bytes n value ++ rest) → value_at memory at n ≡ value
spells memory rights zero value rest at small stands = let none : value < 1 = small in omega (arith, none)
spells memory rights (suc n) value rest at small stands =
    ap (λ (c : Option Cell). byte_of c + 2 ^ 8 * value_at memory (at + 1) n) stands.0
    ∙ ap (λ (m : ℕ). value % 2 ^ 8 + 2 ^ 8 * m) (spells memory rights n (value / 2 ^ 8) rest (at + 1) (shorter value (bytes_end n) small) stands.1)
    ∙ joined value

word-fetched : (memory : Memory) (rights : Rights) (at word : ℕ) (rest : List ℕ) → rights.execute ≡ true → at % 4 ≡ 0 → word < 2 ^ 32 → HasBytes memory rights at (low_bytes 4 word ++ rest) → fetched memory at ≡ Ok word
word-fetched memory rights at word rest right aligned small stands =
    let access : access_fault to_execute memory at Word ≡ None =
    ap (λ (n : ℕ). if n == 0 then range_fault to_execute memory at 4 else Some Misaligned) aligned ∙ no-fault memory rights 4 word rest at right stands in
    ap (λ (f : Option BusFault). or_fault f (value_at memory at 4)) access ∙ ap (λ (n : ℕ). Ok n) (spells memory rights 4 word rest at small stands)

-- ---- the rows of a listing

abbrev IsWord : ListingRow → Type 0
IsWord row = row.word < 2 ^ 32

rows-fetched : (memory : Memory) (rights : Rights) (rows : List ListingRow) (at : ℕ) (bytes : List ℕ) → rights.execute ≡ true → at % 4 ≡ 0 → All IsWord rows → AreListed at bytes rows → HasBytes memory rights at bytes → All (IsFetched memory) rows
rows-fetched memory rights [] at bytes right aligned small listed stands = All-nil (IsFetched memory)
rows-fetched memory rights (row ∷ rows) at bytes right aligned small listed stands =
    let rest : List ℕ = listed.0 in
    let here : HasBytes memory rights at (low_bytes 4 row.word ++ rest) = subst (λ (x : List ℕ). HasBytes memory rights at x) listed.1 stands in
    let next : at + 1 + 1 + 1 + 1 ≡ at + 4 = omega arith in
    let further : HasBytes memory rights (at + 4) rest = subst (λ (n : ℕ). HasBytes memory rights n rest) next here.1.1.1.1 in
    let aligned_next : (at + 4) % 4 ≡ 0 = omega (arith, aligned) in
    All-cons (IsFetched memory) row rows
    (ap (λ (n : ℕ). fetched memory n) listed.2 ∙ word-fetched memory rights at row.word rest right aligned (All-head IsWord row rows small) here)
    (rows-fetched memory rights rows (at + 4) rest right aligned_next (All-tail IsWord row rows small) listed.3 further)

-- a segment's bytes stand in a memory, as `machine` says it
abbrev IsLoaded : Memory → Segment → Type 0
IsLoaded memory s = (k : ℕ) → k < s.memsz → get memory (s.vaddr + k) ≡ Some (cell_with s.rights (slice_index s.bytes k))

-- the rows of an image whose first segment is text
pub text-fetched : (memory : Memory) (segments : List Segment) (listing : List ListingRow) (text : List ℕ) (others : List Segment) → segments ≡ text_segment text ∷ others → IsListedFirst segments listing → All IsWord listing → All (IsLoaded memory) segments
    → All (IsFetched memory) listing
text-fetched memory segments listing text others is listed small loaded =
    let rows : AreListed 65536 text listing = subst (λ (ss : List Segment). IsListedFirst ss listing) is listed in
    let all : All (IsLoaded memory) (text_segment text ∷ others) = subst (λ (ss : List Segment). All (IsLoaded memory) ss) is loaded in
    let first : EachHasByte memory (text_segment text).rights 65536 text = All-head (IsLoaded memory) (text_segment text) others all in
    rows-fetched memory (text_segment text).rights listing 65536 text refl refl small rows (stands-each memory (text_segment text).rights text 65536 first)

-- ---- instructions

all-before : {X : Type 0} (P : X → Type 0) (xs ys : List X) → All P (xs ++ ys) → All P xs
all-before P [] ys all = All-nil P
all-before P (x ∷ xs) ys all = All-cons P x xs (All-head P x (xs ++ ys) all) (all-before P xs ys (All-tail P x (xs ++ ys) all))

all-after : {X : Type 0} (P : X → Type 0) (xs ys : List X) → All P (xs ++ ys) → All P ys
all-after P [] ys all = all
all-after P (x ∷ xs) ys all = all-after P xs ys (All-tail P x (xs ++ ys) all)

rows-mean : (memory : Memory) (at number : ℕ) (instructions : List Instr) (rows : List ListingRow) → AreInstructions at number instructions rows → All (IsFetched memory) rows → AreFetched memory at instructions
rows-mean memory at number [] rows listed all = tt
rows-mean memory at number (i ∷ instructions) [] listed all = absurd listed
rows-mean memory at number (i ∷ instructions) (row ∷ rows) listed all =
    let here : fetched memory at ≡ Ok row.word = ap (λ (n : ℕ). fetched memory n) (sym listed.0) ∙ All-head (IsFetched memory) row rows all in
    (row.word, here, listed.2, rows-mean memory (at + 4) number instructions rows listed.3 (All-tail (IsFetched memory) row rows all))

listed-fetched : (source : List ℕ) (lines : List Line) (line : Line) (words : ℕ) (m : Mnemonic) (o : Operands) (listing : List ListingRow) (memory : Memory) → All (IsFetched memory) listing
    → (x : IsListedInstruction source lines line words m o listing) → AreFetched memory (65536 + 4 * words) (instructions_of x.expansion)
listed-fetched source lines line words m o listing memory all x =
    let parts : All (IsFetched memory) ((x.above ++ x.rows) ++ x.below) = subst (λ (rows : List ListingRow). All (IsFetched memory) rows) x.parted all in
    let rows : All (IsFetched memory) x.rows = all-after (IsFetched memory) x.above x.rows (all-before (IsFetched memory) (x.above ++ x.rows) x.below parts) in
    rows-mean memory (65536 + 4 * words) line.number (instructions_of x.expansion) x.rows x.instructions rows

pub instructions-fetched : (source : List ℕ) (listing : List ListingRow) (memory : Memory) → ListsInstructions source listing → All (IsFetched memory) listing → FetchesInstructions source listing memory
instructions-fetched source listing memory lists all before line after words m o text instruction =
    let x : IsListedInstruction source (before ++ line ∷ after) line words m o listing = lists before line after words m o text instruction in
    (x, listed-fetched source (before ++ line ∷ after) line words m o listing memory all x)
