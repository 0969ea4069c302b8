-- A source has one outcome.
use Rattle.std.proofs.Common.{ℕ, ◌≡◌, ◌<◌, ◌≤◌, List, length, Result, Ok, Err, ◌⊎◌, inl, inr, ⊎_elim, Bool, true, false, nat_lt, refl, sym, ap, ◌∙◌, subst, arith}
use Rattle.std.proofs.lemmas.Bool.Decides.{nat_tests}
use Rattle.machine_model.specs.Images.{Program}
use Rattle.asm_text.specs.{Text.IsText, Text.FirstFault, declared.token.Line.Line}
use Rattle.assembler.specs.{Faults.whole, declared.fault.AsmFault.AsmFault, declared.fault.Cause.Cause, declared.listing.ListingRow.ListingRow}
use Rattle.assembler.specs.Assembly.{Assembled, Assembles, FaultOf, too_long, in_tokens, in_lines, assembly, source_limit}
use Rattle.assembler.specs.declared.fault.Cause.TheVariants.{Syntax, TooLarge}
use Rattle.assembler.proofs.Assemblies.{same_assembled}

-- what asm_text's law says
abbrev pub LinesAreOne : Type 0
LinesAreOne = (s : List ℕ) (ls ms : List Line) → IsText s ls → IsText s ms → ls ≡ ms

abbrev pub LinesOrFault : Type 0
LinesOrFault = (s : List ℕ) (ls : List Line) (line column : ℕ) → IsText s ls → FirstFault s line column → ⊥

abbrev pub FaultIsOne : Type 0
FaultIsOne = (s : List ℕ) (j c k d : ℕ) → FirstFault s j c → FirstFault s k d → (j ≡ k) × (c ≡ d)

-- a number is within another, or above it
within : (m n : ℕ) → (m ≤ n) ⊎ (n < m)
within m n = by_test (nat_lt n m) refl
  where
    by_test : (b : Bool) → nat_lt n m ≡ b → (m ≤ n) ⊎ (n < m)
    by_test true is = inr (grind (arith, nat_tests))
    by_test false is = inl (grind (arith, nat_tests))

-- two readings come to one outcome
same_assembly : LinesAreOne → (s : List ℕ) (ls ms : List Line) (r : Result Assembled AsmFault) → IsText s ls → IsText s ms → assembly s ls ≡ r → assembly s ms ≡ r
same_assembly one s ls ms r p q is = subst (λ (x : List Line). assembly s x ≡ r) (one s ls ms p q) is

pub one-image : LinesAreOne → (s : List ℕ) (i j : Program) (l m : List ListingRow) → Assembles s i l → Assembles s j m → (i ≡ j) × (l ≡ m)
one-image one s i j l m a b =
    let first : Assembled = record { image = i; listing = l } in
    let second : Assembled = record { image = j; listing = m } in
    let same : first ≡ second = same_assembled first second (sym (same_assembly one s a.lines b.lines (Ok first) a.text b.text a.made) ∙ b.made) in
    (ap (λ (x : Assembled). x.image) same, ap (λ (x : Assembled). x.listing) same)

-- every source has its lines or a fault, as asm_text's law says
abbrev pub ReadingIsThere : Type 0
ReadingIsThere = (s : List ℕ) → ((ls : List Line) × IsText s ls) ⊎ ((line : ℕ) × (column : ℕ) × FirstFault s line column)

abbrev HasOutcome : List ℕ → Type 0
HasOutcome s = ((i : Program) × (l : List ListingRow) × Assembles s i l) ⊎ ((f : AsmFault) × FaultOf s f)

lines-outcome : (s : List ℕ) (ls : List Line) (r : Result Assembled AsmFault) → length s ≤ source_limit → IsText s ls → assembly s ls ≡ r → HasOutcome s
lines-outcome s ls (Ok a) fits text is = inl (a.image, a.listing, record { fits = fits; lines = ls; text = text; made = is })
lines-outcome s ls (Err f) fits text is = inr (f, in_lines fits ls text is)

short-outcome : ReadingIsThere → (s : List ℕ) → length s ≤ source_limit → HasOutcome s
short-outcome there s fits =
    ⊎_elim (λ text. lines-outcome s text.0 (assembly s text.0) fits text.1 refl)
    (λ fault. inr (record { why = Syntax; line = fault.0; column = fault.1 }, in_tokens fits fault.2 refl))
    (there s)

pub some-outcome : ReadingIsThere → (s : List ℕ) → HasOutcome s
some-outcome there s = ⊎_elim (λ fits. short-outcome there s fits) (λ long. inr (whole TooLarge, too_long long refl)) (within (length s) source_limit)

no_outcome : (a : Assembled) (f : AsmFault) → ◌≡◌ {A = Result Assembled AsmFault} (Ok a) (Err f) → ⊥
no_outcome a f is = cc

same_fault : (f g : AsmFault) → ◌≡◌ {A = Result Assembled AsmFault} (Err f) (Err g) → f ≡ g
same_fault f g is = cc

pub image-or-fault : LinesAreOne → LinesOrFault → (s : List ℕ) (i : Program) (l : List ListingRow) (f : AsmFault) → Assembles s i l → FaultOf s f → ⊥
image-or-fault one either s i l f a (too_long long is) = let fits : length s ≤ source_limit = a.fits in omega arith
image-or-fault one either s i l f a (in_tokens fits fault why) = either s a.lines f.line f.column a.text fault
image-or-fault one either s i l f a (in_lines fits lines text refused) =
    let made : Assembled = record { image = i; listing = l } in
    no_outcome made f (sym (same_assembly one s a.lines lines (Ok made) a.text text a.made) ∙ refused)

-- a fault by its parts
same_parts : (f g : AsmFault) (why : Cause) → f.why ≡ why → g.why ≡ why → f.line ≡ g.line → f.column ≡ g.column → f ≡ g
same_parts f g why p q line column = let cause : f.why ≡ g.why = p ∙ sym q in λ i. record { why = cause i; line = line i; column = column i }

pub one-fault : LinesAreOne → LinesOrFault → FaultIsOne → (s : List ℕ) (f g : AsmFault) → FaultOf s f → FaultOf s g → f ≡ g
one-fault one either single s f g (too_long long is) (too_long other js) = is ∙ sym js
one-fault one either single s f g (too_long long is) (in_tokens fits fault why) = absurd (omega arith)
one-fault one either single s f g (too_long long is) (in_lines fits lines text refused) = absurd (omega arith)
one-fault one either single s f g (in_tokens fits fault why) (too_long long is) = absurd (omega arith)
one-fault one either single s f g (in_tokens fits fault why) (in_tokens fits' fault' why') =
    let same = single s f.line f.column g.line g.column fault fault' in
    same_parts f g Syntax why why' same.0 same.1
one-fault one either single s f g (in_tokens fits fault why) (in_lines fits' lines text refused) = absurd (either s lines f.line f.column text fault)
one-fault one either single s f g (in_lines fits lines text refused) (too_long long is) = absurd (omega arith)
one-fault one either single s f g (in_lines fits lines text refused) (in_tokens fits' fault why) = absurd (either s lines g.line g.column text fault)
one-fault one either single s f g (in_lines fits lines text refused) (in_lines fits' lines' text' refused') =
    same_fault f g (sym (same_assembly one s lines lines' (Err f) text text' refused) ∙ refused')
