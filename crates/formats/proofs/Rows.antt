-- The relation `Means` and the function `instr_of` say the same of every word.
use Rattle.std.proofs.Common.{ℕ, ◌≡◌, refl, sym, ap, ◌∙◌, subst, Bool, true, false, eqb-true, List, [], ◌∷◌}
use Rattle.std.specs.Prelude.{◌==◌, ◌&&◌, if◌then◌else◌, Option, Some, None, MatchOption}
use Rattle.std.specs.Option.{option_map}
use Rattle.memory_model.specs.declared.access.Width.{Width}
use Rattle.memory_model.specs.declared.access.Width.TheVariants as width
use Rattle.formats.specs.Fields.{opcode, funct3, funct7, rd_of, rs1_of, rs2_of, immediate_i, immediate_s, immediate_b}
use Rattle.formats.specs.Meaning.{Means}
use Rattle.formats.specs.Table.{Row, with_bits, found, registers, immediates, shifts, loads, stores, branches, register_row, immediate_row, shift_row, load_row, store_row, branch_row, branch_of, load_of, store_of, shift_of, immediate_of, register_of, row_of, instr_of}
use Rattle.formats.specs.declared.instr.Instr.{Instr}
use Rattle.formats.specs.declared.instr.Instr.TheVariants as instr
use Rattle.formats.specs.declared.operators.Arithmetic.{Arithmetic}
use Rattle.formats.specs.declared.operators.Arithmetic.TheVariants.{Add, Sub, Sll, Slt, Sltu, Xor, Srl, Sra, Or, And, Mul, Mulh, Mulhsu, Mulhu, Div, Divu, Rem, Remu}
use Rattle.formats.specs.declared.operators.ImmediateOperator.{ImmediateOperator}
use Rattle.formats.specs.declared.operators.ImmediateOperator.TheVariants.{Addi, Slti, Sltiu, Xori, Ori, Andi}
use Rattle.formats.specs.declared.operators.ShiftOperator.{ShiftOperator}
use Rattle.formats.specs.declared.operators.ShiftOperator.TheVariants.{Slli, Srli, Srai}
use Rattle.formats.specs.declared.operators.LoadOperator.{LoadOperator}
use Rattle.formats.specs.declared.operators.LoadOperator.TheVariants.{Lb, Lh, Lw, Lbu, Lhu}
use Rattle.formats.specs.declared.operators.Condition.{Condition}
use Rattle.formats.specs.declared.operators.Condition.TheVariants.{Equal, NotEqual, Less, NotLess, Below, NotBelow}

-- ---- from the relation to the function

-- the row of a word whose opcode, funct3 and funct7 are these
at_row : (w o f g : ℕ) → opcode w ≡ o → funct3 w ≡ f → funct7 w ≡ g → instr_of w ≡ row_of w o f g
unfolding instr_of
at_row w o f g is_o is_f is_g = rw (← is_o, ← is_f, ← is_g) refl

-- each operator is found by its bits
register-found : (x : Arithmetic) → found (with_bits register_row registers) (register_row x).funct3 (register_row x).funct7 ≡ Some x
register-found x = elim x as (λ (x : Arithmetic). found (with_bits register_row registers) (register_row x).funct3 (register_row x).funct7 ≡ Some x) [ Add ↦ refl | Sub ↦ refl | Sll ↦ refl | Slt ↦ refl | Sltu ↦ refl | Xor ↦ refl | Srl ↦ refl | Sra ↦ refl | Or ↦ refl | And ↦ refl | Mul ↦ refl | Mulh ↦ refl | Mulhsu ↦ refl | Mulhu ↦ refl | Div ↦ refl | Divu ↦ refl | Rem ↦ refl | Remu ↦ refl ]

load-found : (x : LoadOperator) → found (with_bits load_row loads) (load_row x).funct3 0 ≡ Some x
load-found x = elim x as (λ (x : LoadOperator). found (with_bits load_row loads) (load_row x).funct3 0 ≡ Some x) [ Lb ↦ refl | Lh ↦ refl | Lw ↦ refl | Lbu ↦ refl | Lhu ↦ refl ]

store-found : (x : Width) → found (with_bits store_row stores) (store_row x).funct3 0 ≡ Some x
store-found x = elim x as (λ (x : Width). found (with_bits store_row stores) (store_row x).funct3 0 ≡ Some x) [ width.Byte ↦ refl | width.Half ↦ refl | width.Word ↦ refl ]

branch-found : (x : Condition) → found (with_bits branch_row branches) (branch_row x).funct3 0 ≡ Some x
branch-found x = elim x as (λ (x : Condition). found (with_bits branch_row branches) (branch_row x).funct3 0 ≡ Some x) [ Equal ↦ refl | NotEqual ↦ refl | Less ↦ refl | NotLess ↦ refl | Below ↦ refl | NotBelow ↦ refl ]

-- and those of opcode 0010011 by theirs
immediate-found : (w g : ℕ) (x : ImmediateOperator) → row_of w 0b0010011 (immediate_row x).funct3 g ≡ Some (instr.Immediate x (rd_of w) (rs1_of w) (immediate_i w))
unfolding row_of immediate_of
immediate-found w g x = elim x as (λ (x : ImmediateOperator). row_of w 0b0010011 (immediate_row x).funct3 g ≡ Some (instr.Immediate x (rd_of w) (rs1_of w) (immediate_i w))) [ Addi ↦ refl | Slti ↦ refl | Sltiu ↦ refl | Xori ↦ refl | Ori ↦ refl | Andi ↦ refl ]

shift-found : (w : ℕ) (x : ShiftOperator) → row_of w 0b0010011 (shift_row x).funct3 (shift_row x).funct7 ≡ Some (instr.Shift x (rd_of w) (rs1_of w) (rs2_of w))
unfolding row_of shift_of
shift-found w x = elim x as (λ (x : ShiftOperator). row_of w 0b0010011 (shift_row x).funct3 (shift_row x).funct7 ≡ Some (instr.Shift x (rd_of w) (rs1_of w) (rs2_of w))) [ Slli ↦ refl | Srli ↦ refl | Srai ↦ refl ]

-- a word that means an instruction has it in the table
pub means-instr_of : (w : ℕ) (i : Instr) → Means w i → instr_of w ≡ Some i
unfolding row_of branch_of load_of store_of register_of
means-instr_of w (instr.Lui rd imm) (o, a, b) = rw (a, b) (at_row w 0b0110111 _ _ o refl refl)
means-instr_of w (instr.Auipc rd imm) (o, a, b) = rw (a, b) (at_row w 0b0010111 _ _ o refl refl)
means-instr_of w (instr.Jal rd offset) (o, a, b) = rw (a, b) (at_row w 0b1101111 _ _ o refl refl)
means-instr_of w (instr.Jalr rd rs1 imm) (o, f, a, b, c) = rw (a, b, c) (at_row w 0b1100111 0b000 _ o f refl)
means-instr_of w (instr.Branch x rs1 rs2 offset) (o, f, a, b, c) = rw (a, b, c) (at_row w 0b1100011 (branch_row x).funct3 _ o f refl ∙ ap (option_map (λ (x : Condition). instr.Branch x (rs1_of w) (rs2_of w) (immediate_b w))) (branch-found x))
means-instr_of w (instr.Load x rd rs1 imm) (o, f, a, b, c) = rw (a, b, c) (at_row w 0b0000011 (load_row x).funct3 _ o f refl ∙ ap (option_map (λ (x : LoadOperator). instr.Load x (rd_of w) (rs1_of w) (immediate_i w))) (load-found x))
means-instr_of w (instr.Store x rs1 rs2 imm) (o, f, a, b, c) = rw (a, b, c) (at_row w 0b0100011 (store_row x).funct3 _ o f refl ∙ ap (option_map (λ (x : Width). instr.Store x (rs1_of w) (rs2_of w) (immediate_s w))) (store-found x))
means-instr_of w (instr.Immediate x rd rs1 imm) (o, f, a, b, c) = rw (a, b, c) (at_row w 0b0010011 (immediate_row x).funct3 _ o f refl ∙ immediate-found w _ x)
means-instr_of w (instr.Shift x rd rs1 amount) (o, f, g, a, b, c) = rw (a, b, c) (at_row w 0b0010011 (shift_row x).funct3 (shift_row x).funct7 o f g ∙ shift-found w x)
means-instr_of w (instr.Register x rd rs1 rs2) (o, f, g, a, b, c) = rw (a, b, c) (at_row w 0b0110011 (register_row x).funct3 (register_row x).funct7 o f g ∙ ap (option_map (λ (x : Arithmetic). instr.Register x (rd_of w) (rs1_of w) (rs2_of w))) (register-found x))
means-instr_of w instr.Fence (o, f) = at_row w 0b0001111 0b000 _ o f refl
means-instr_of w instr.FenceI (o, f) = at_row w 0b0001111 0b001 _ o f refl
means-instr_of w instr.Ecall e = let P : ℕ → Type 0 = λ w. instr_of w ≡ Some instr.Ecall in subst P (sym e) (at_row 0x00000073 _ _ _ refl refl refl)
means-instr_of w instr.Ebreak e = let P : ℕ → Type 0 = λ w. instr_of w ≡ Some instr.Ebreak in subst P (sym e) (at_row 0x00100073 _ _ _ refl refl refl)

-- ---- from the function to the relation

-- one test of a table: it holds, or the next one is made
by_test : (P : Type 0) (n k : ℕ) (here next : Option Instr) (i : Instr) → (n ≡ k → here ≡ Some i → P) → (next ≡ Some i → P) → (if n == k then here else next) ≡ Some i → P
by_test P n k here next i passed failed =
    elim (n == k) as (λ b. (n == k) ≡ b → (if b then here else next) ≡ Some i → P)
    [ true ↦ λ is. passed (eqb-true n k is) | false ↦ λ _. failed ]
    refl

-- a row found is the row that is meant
same : (w : ℕ) (i j : Instr) → Means w i → Some i ≡ Some j → Means w j
same w i j m e = let same : i ≡ j = cc in let P : Instr → Type 0 = λ i. Means w i in subst P same m

-- an illegal word has no row
none : {X : Type 0} (P : Type 0) (x : X) → None ≡ Some x → P
none P x e = absurd (cc)

both : (a b : Bool) → (a && b) ≡ true → (a ≡ true) × (b ≡ true)
both true b e = (refl, e)
both false b e = cc

-- an operator that is found has these bits
found-bits : {X : Type 0} (row : X → Row) (xs : List X) (f g : ℕ) (x : X) → found (with_bits row xs) f g ≡ Some x → ((row x).funct3 ≡ f) × ((row x).funct7 ≡ g)
found-bits {X} row [] f g x = none _ x
found-bits {X} row (y ∷ xs) f g x =
    elim (((row y).funct3 == f) && ((row y).funct7 == g)) as (λ b. (((row y).funct3 == f) && ((row y).funct7 == g)) ≡ b → (if b then Some y else found (with_bits row xs) f g) ≡ Some x → ((row x).funct3 ≡ f) × ((row x).funct7 ≡ g)) [
      | true ↦ λ is e.
          let same : y ≡ x = cc in
          let bits = both ((row y).funct3 == f) ((row y).funct7 == g) is in
          let P : X → Type 0 = λ x. ((row x).funct3 ≡ f) × ((row x).funct7 ≡ g) in
          subst P same (eqb-true (row y).funct3 f bits.0, eqb-true (row y).funct7 g bits.1)
      | false ↦ λ _. found-bits row xs f g x
    ] refl

-- what is made of an operator that is found
by_found : {X : Type 0} (P : Type 0) (row : X → Row) (xs : List X) (f g : ℕ) (make : X → Instr) (i : Instr) → ((x : X) → f ≡ (row x).funct3 → g ≡ (row x).funct7 → Some (make x) ≡ Some i → P) → option_map make (found (with_bits row xs) f g) ≡ Some i → P
by_found {X} P row xs f g make i meant =
    elim (found (with_bits row xs) f g) as (λ o. found (with_bits row xs) f g ≡ o → option_map make o ≡ Some i → P) [
      | Some x ↦ λ is. let bits = found-bits row xs f g x is in meant x (sym bits.0) (sym bits.1)
      | None ↦ λ _. none P i
    ] refl

shift-means : (w : ℕ) (i : Instr) → opcode w ≡ 0b0010011 → shift_of (funct3 w) (funct7 w) (rd_of w) (rs1_of w) (rs2_of w) ≡ Some i → Means w i
unfolding shift_of
shift-means w i o = by_found _ shift_row shifts (funct3 w) (funct7 w) (λ (x : ShiftOperator). instr.Shift x (rd_of w) (rs1_of w) (rs2_of w)) i (λ x f g. same w (instr.Shift x _ _ _) i (o, f, g, refl, refl, refl))

-- what a word has in the table is what it means
pub instr_of-means : (w : ℕ) (i : Instr) → instr_of w ≡ Some i → Means w i
unfolding instr_of row_of branch_of load_of store_of shift_of immediate_of register_of
instr_of-means w i =
    by_test _ (opcode w) 0b0110111 _ _ i (λ o. same w (instr.Lui _ _) i (o, refl, refl)) (
    by_test _ (opcode w) 0b0010111 _ _ i (λ o. same w (instr.Auipc _ _) i (o, refl, refl)) (
    by_test _ (opcode w) 0b1101111 _ _ i (λ o. same w (instr.Jal _ _) i (o, refl, refl)) (
    by_test _ (opcode w) 0b1100111 _ _ i (λ o. by_test _ (funct3 w) 0b000 _ _ i (λ f. same w (instr.Jalr _ _ _) i (o, f, refl, refl, refl)) (none _ i)) (
    by_test _ (opcode w) 0b1100011 _ _ i (λ o. by_found _ branch_row branches (funct3 w) 0 (λ (x : Condition). instr.Branch x (rs1_of w) (rs2_of w) (immediate_b w)) i (λ x f g. same w (instr.Branch x _ _ _) i (o, f, refl, refl, refl))) (
    by_test _ (opcode w) 0b0000011 _ _ i (λ o. by_found _ load_row loads (funct3 w) 0 (λ (x : LoadOperator). instr.Load x (rd_of w) (rs1_of w) (immediate_i w)) i (λ x f g. same w (instr.Load x _ _ _) i (o, f, refl, refl, refl))) (
    by_test _ (opcode w) 0b0100011 _ _ i (λ o. by_found _ store_row stores (funct3 w) 0 (λ (x : Width). instr.Store x (rs1_of w) (rs2_of w) (immediate_s w)) i (λ x f g. same w (instr.Store x _ _ _) i (o, f, refl, refl, refl))) (
    by_test _ (opcode w) 0b0010011 _ _ i (λ o.
    by_test _ (funct3 w) 0b001 _ _ i (λ _. shift-means w i o) (
    by_test _ (funct3 w) 0b101 _ _ i (λ _. shift-means w i o) (
    by_found _ immediate_row immediates (funct3 w) 0 (λ (x : ImmediateOperator). instr.Immediate x (rd_of w) (rs1_of w) (immediate_i w)) i (λ x f g. same w (instr.Immediate x _ _ _) i (o, f, refl, refl, refl))))) (
    by_test _ (opcode w) 0b0110011 _ _ i (λ o. by_found _ register_row registers (funct3 w) (funct7 w) (λ (x : Arithmetic). instr.Register x (rd_of w) (rs1_of w) (rs2_of w)) i (λ x f g. same w (instr.Register x _ _ _) i (o, f, g, refl, refl, refl))) (
    by_test _ (opcode w) 0b0001111 _ _ i (λ o. by_test _ (funct3 w) 0b000 _ _ i (λ f. same w instr.Fence i (o, f)) (by_test _ (funct3 w) 0b001 _ _ i (λ f. same w instr.FenceI i (o, f)) (none _ i))) (
    by_test _ w 0x00000073 _ _ i (λ e. same w instr.Ecall i e) (
    by_test _ w 0x00100073 _ _ i (λ e. same w instr.Ebreak i e) (
    none _ i))))))))))))

-- what an answer of the table says of the word's meaning
pub meaning_from_table : (w : ℕ) (r : Option Instr) → r ≡ instr_of w → MatchOption r ((i : Instr) → Means w i → ⊥) (λ i. Means w i)
meaning_from_table w (Some i) e = instr_of-means w i (sym e)
meaning_from_table w None e = λ i m. none _ i (e ∙ means-instr_of w i m)

-- for an attribute, which cannot name a lemma with a dash
pub ruleset means_in_table = (means-instr_of)
