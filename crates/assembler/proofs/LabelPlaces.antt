-- A label stays where it was first met.
use Rattle.std.proofs.Common.{ℕ, ◌≡◌, Ordering, Less, Equal, Greater, Bool, true, false, cond, List, [], ◌∷◌, Result, Ok, Err, Option, Some, None, refl, sym, ap, ◌∙◌, subst}
use Rattle.std.specs.Prelude.{is_some, if◌then◌else◌}
use Rattle.std.specs.{Cmp.Lexicographic.slice_cmp, Ordering.is_eq, Ordering.nat_cmp, Ordering.eq_by_cmp}
use Rattle.std.specs.FinMap.{get, insert, get-insert, slice_cmp-IsAntisymmetric, nat_cmp-IsAntisymmetric}
use Rattle.std.proofs.lemmas.Cmp.{nat_list_cmp_total, eq_by_cmp_equiv}
use Rattle.asm_text.specs.{Text.Leads, declared.token.Line.Line}
use Rattle.asm_statements.specs.{Tokens.text_at, declared.statement.Label.Label}
use Rattle.assembler.specs.{Labels.SpotsByName, Faults.fault_at, Layout.Laid, Layout.spot_of, Layout.label_declared, Layout.labelled, declared.fault.AsmFault.AsmFault}
use Rattle.assembler.specs.{declared.fault.Cause.TheVariants.DoubleLabel, declared.labels.Spot.Spot, declared.layout.Position.Position, declared.layout.Piece.Piece}
use Rattle.assembler.proofs.Pieces.{IsPlaced}

same_labels : (a b : SpotsByName) → ◌≡◌ {A = Result SpotsByName AsmFault} (Ok a) (Ok b) → a ≡ b
same_labels a b is = cc

-- an inserted label is found, and the others stay
found-inserted : (labels : SpotsByName) (name : List ℕ) (spot : Spot) → get (insert labels name spot) name ≡ Some spot
found-inserted labels name spot =
    get-insert nat_list_cmp_total labels name spot name ∙ ap (λ (b : Bool). cond b (Some spot) (get labels name)) ((eq_by_cmp_equiv nat_list_cmp_total).refl name)

is-equal : (o : Ordering) → is_eq o ≡ true → o ≡ Equal
is-equal Less is = cc
is-equal Equal is = refl
is-equal Greater is = cc

others-stay : (labels : SpotsByName) (name : List ℕ) (spot : Spot) (q : List ℕ) (s : Spot) → is_some (get labels name) ≡ false → get labels q ≡ Some s → get (insert labels name spot) q ≡ Some s
others-stay labels name spot q s absent is =
    get-insert nat_list_cmp_total labels name spot q ∙
    (elim (eq_by_cmp (slice_cmp nat_cmp) q name) as (λ b. eq_by_cmp (slice_cmp nat_cmp) q name ≡ b → cond b (Some spot) (get labels q) ≡ Some s) [
      | true ↦ λ same. absurd (clash same)
      | false ↦ λ _. is
    ] refl)
  where
    clash : eq_by_cmp (slice_cmp nat_cmp) q name ≡ true → ⊥
    clash same =
        let names : q ≡ name = slice_cmp-IsAntisymmetric nat_cmp-IsAntisymmetric q name (is-equal (slice_cmp nat_cmp q name) same) in
        let there : get labels name ≡ Some s = ap (get labels) (sym names) ∙ is in
        let some : is_some (get labels name) ≡ true = ap is_some there in
        let no : ⊥ = cc in
        no

-- what a declared label shows
record IsDeclared (source : List ℕ) (label : Label) (p : Position) (before after : SpotsByName) : Type 0 where
  found : get after (text_at source label.start label.end) ≡ Some (spot_of p)
  stay : (q : List ℕ) (s : Spot) → get before q ≡ Some s → get after q ≡ Some s

declared-is : (source : List ℕ) (line : Line) (label : Label) (p : Position) (before after : SpotsByName) → label_declared source line label p before ≡ Ok after → IsDeclared source label p before after
declared-is source line label p before after is =
    elim (is_some (get before (text_at source label.start label.end))) as (λ b. is_some (get before (text_at source label.start label.end)) ≡ b
    → ◌≡◌ {A = Result SpotsByName AsmFault} (if b then Err (fault_at source line DoubleLabel label.start) else Ok (insert before (text_at source label.start label.end) (spot_of p))) (Ok after) → IsDeclared source label p before after) [
      | true ↦ λ _ no. absurd (let none : ⊥ = cc in none)
      | false ↦ λ absent made.
          let same : insert before (text_at source label.start label.end) (spot_of p) ≡ after = same_labels _ _ made in
          subst (λ (x : SpotsByName). IsDeclared source label p before x) same (record {
            found = found-inserted before (text_at source label.start label.end) (spot_of p);
            stay = λ q s. others-stay before (text_at source label.start label.end) (spot_of p) q s absent;
          })
    ] refl is

labels-stay : (source : List ℕ) (line : Line) (label : Option Label) (p : Position) (before after : SpotsByName) → labelled source line label p before ≡ Ok after → (q : List ℕ) (s : Spot) → get before q ≡ Some s → get after q ≡ Some s
labels-stay source line None p before after is q s at = subst (λ (x : SpotsByName). get x q ≡ Some s) (same_labels before after is) at
labels-stay source line (Some label) p before after is q s at = (declared-is source line label p before after is).stay q s at

-- over statements a label stays where it stands
pub all-stay : (source : List ℕ) (ps : List Piece) (l m : Laid) → Leads (IsPlaced source) l ps m → (q : List ℕ) (s : Spot) → get l.labels q ≡ Some s → get m.labels q ≡ Some s
all-stay source [] l m steps q s at = subst (λ (x : Laid). get x.labels q ≡ Some s) steps at
all-stay source (p ∷ ps) l m steps q s at =
    let step : IsPlaced source l p steps.0 = steps.1 in
    all-stay source ps steps.0 m steps.2 q s (labels-stay source p.line step.label l.position l.labels steps.0.labels step.labels q s at)

-- after its line a label stands where the line begins
pub label-found : (source : List ℕ) (p : Piece) (label : Label) (l m : Laid) (step : IsPlaced source l p m) → step.label ≡ Some label → get m.labels (text_at source label.start label.end) ≡ Some (spot_of l.position)
label-found source p label l m step is =
    (declared-is source p.line label l.position l.labels m.labels (subst (λ (x : Option Label). labelled source p.line x l.position l.labels ≡ Ok m.labels) is step.labels)).found
