-- The contents computed from the left are those that are spelled.
use Rattle.std.proofs.Common.{◌≡◌, ℕ, ◌+◌, ◌≤◌, Bool, true, false, eqb, leb, ◌&&◌, List, [], ◌∷◌, ◌++◌, length, Option, Some, None, refl, sym, ap, subst, ◌∙◌, ⊎_elim, arith, append_assoc, length-append}
use Rattle.std.specs.List.{AllPass, flat_map}
use Rattle.std.proofs.{lemmas.Bool.eqb-true, lemmas.Bool.eqb-false, lemmas.Bool.cases_eq, lemmas.Bool.Decides.nat_tests}
use Rattle.std.proofs.lemmas.List.Elements.{All-nil, All-cons, All-head, All-tail}
use Rattle.asm_text.specs.{Text.spelling, Text.has_spelling, Scan.escaped, Scan.one_more, Scan.contents_from}
use Rattle.asm_text.proofs.{Choices.chosen, Choices.then_some, Strings.plain}

-- contents, and how many bytes they and the closing quote take, as a prefix of bytes
pub record IsQuoted (bs : List ℕ) (f : List ℕ × ℕ) : Type 0 where
  pub rest : List ℕ
  pub spelled : AllPass has_spelling f.0
  pub text : bs ≡ flat_map spelling f.0 ++ 34 ∷ rest
  pub count : f.1 ≡ length (flat_map spelling f.0) + 1

-- one byte more before them
quoted_more : (c : ℕ) (text bs : List ℕ) (n : ℕ) (g : List ℕ × ℕ) → spelling c ≡ text → has_spelling c ≡ true → n ≡ length text → IsQuoted bs g → IsQuoted (text ++ bs) (c ∷ g.0, n + g.1)
quoted_more c text bs n g spells has n_is q =
    let more : spelling c ++ flat_map spelling g.0 ≡ text ++ flat_map spelling g.0 = ap (λ (t : List ℕ). t ++ flat_map spelling g.0) spells in
    record {
      rest = q.rest;
      spelled = All-cons (λ (b : ℕ). has_spelling b ≡ true) c g.0 has q.spelled;
      text = ap (λ (l : List ℕ). text ++ l) q.text ∙ sym (append_assoc text (flat_map spelling g.0) (34 ∷ q.rest)) ∙ ap (λ (l : List ℕ). l ++ 34 ∷ q.rest) (sym more);
      count = omega (arith, n_is, q.count, ap length more, length-append text (flat_map spelling g.0));
    }

-- what an escape stands for is written by it
escape_spells : (b c : ℕ) → escaped b ≡ Some c → (spelling c ≡ 92 ∷ b ∷ []) × (has_spelling c ≡ true)
escape_spells b c e =
    ⊎_elim (λ n. by_values 110 10 (eqb-true b 110 n.0) n.1 (refl, refl))
    (λ not_n. ⊎_elim (λ t. by_values 116 9 (eqb-true b 116 t.0) t.1 (refl, refl))
    (λ not_t. ⊎_elim (λ z. by_values 48 0 (eqb-true b 48 z.0) z.1 (refl, refl))
    (λ not_z. ⊎_elim (λ s. by_values 92 92 (eqb-true b 92 s.0) s.1 (refl, refl))
    (λ not_s. ⊎_elim (λ q. by_values 34 34 (eqb-true b 34 q.0) q.1 (refl, refl))
    (λ not_q. absurd (let no : ⊥ = cc (not_q.1) in no))
    (chosen (eqb b 34) (Some 34) None (Some c) not_s.1))
    (chosen (eqb b 92) (Some 92) _ (Some c) not_z.1))
    (chosen (eqb b 48) (Some 0) _ (Some c) not_t.1))
    (chosen (eqb b 116) (Some 9) _ (Some c) not_n.1))
    (chosen (eqb b 110) (Some 10) _ (Some c) e)
  where
    by_values : (x v : ℕ) → b ≡ x → Some v ≡ Some c → (spelling v ≡ 92 ∷ x ∷ []) × (has_spelling v ≡ true) → (spelling c ≡ 92 ∷ b ∷ []) × (has_spelling c ≡ true)
    by_values x v b_is c_is spelled =
        let same : v ≡ c = cc in
        subst (λ (w : ℕ). (spelling w ≡ 92 ∷ b ∷ []) × (has_spelling w ≡ true)) same (subst (λ (y : ℕ). (spelling v ≡ 92 ∷ y ∷ []) × (has_spelling v ≡ true)) (sym b_is) spelled)

-- a byte from 0x20 to 0x7E but the quote and the backslash is written as itself
plain_spells : (b : ℕ) → (b ≡ 34 → ⊥) → (b ≡ 92 → ⊥) → 32 ≤ b → b ≤ 126 → (spelling b ≡ b ∷ []) × (has_spelling b ≡ true)
plain_spells b quote backslash low high =
    let line_feed : b ≡ 10 → ⊥ = λ e. omega arith in
    let tab : b ≡ 9 → ⊥ = λ e. omega arith in
    let zero : b ≡ 0 → ⊥ = λ e. omega arith in
    ((let own : spelling b ≡ b ∷ [] = grind (arith, nat_tests) in own), (let has : has_spelling b ≡ true = grind (arith, nat_tests) in has))

-- what one_more was made of
grown : (prefix : List ℕ) (o : Option (List ℕ × ℕ)) (f : List ℕ × ℕ) → one_more prefix o ≡ Some f → (g : List ℕ × ℕ) × (o ≡ Some g) × ((prefix ++ g.0, 1 + g.1) ≡ f)
grown prefix None f e = absurd (let no : ⊥ = cc in no)
grown prefix (Some g) f e = (g, refl, (let same : ◌≡◌ {A = List ℕ × ℕ} (prefix ++ g.0, 1 + g.1) f = cc in same))

-- what is held after a backslash, or not after one
abbrev pub IsHeld : Bool → List ℕ → List ℕ × ℕ → Type 0
IsHeld true bs f = IsQuoted (92 ∷ bs) (f.0, 1 + f.1)
IsHeld false bs f = IsQuoted bs f

pub contents_found : (escaping : Bool) (bs : List ℕ) (f : List ℕ × ℕ) → contents_from escaping bs ≡ Some f → IsHeld escaping bs f
contents_found true [] f e = absurd (let no : ⊥ = cc in no)
contents_found false [] f e = absurd (let no : ⊥ = cc in no)
contents_found true (b ∷ bs) f e =
    let meant = then_some (λ (c : ℕ). one_more (c ∷ []) (contents_from false bs)) (escaped b) f e in
    let rest = grown (meant.0 ∷ []) (contents_from false bs) f meant.2 in
    let spells = escape_spells b meant.0 meant.1 in
    let q = quoted_more meant.0 (92 ∷ b ∷ []) bs 2 rest.0 spells.0 spells.1 refl (contents_found false bs rest.0 rest.1) in
    let count : 2 + rest.0.1 ≡ 1 + (1 + rest.0.1) = omega arith in
    subst (λ (h : List ℕ × ℕ). IsQuoted (92 ∷ b ∷ bs) (h.0, 1 + h.1)) rest.2 (subst (λ (n : ℕ). IsQuoted (92 ∷ b ∷ bs) (meant.0 ∷ rest.0.0, n)) count q)
contents_found false (b ∷ bs) f e =
    ⊎_elim
    (λ quote.
    let b_is = eqb-true b 34 quote.0 in
    let closing : IsQuoted (34 ∷ bs) ([], 1) = record { rest = bs; spelled = All-nil (λ (c : ℕ). has_spelling c ≡ true); text = refl; count = refl } in
    let same : ◌≡◌ {A = List ℕ × ℕ} ([], 1) f = cc (quote.1) in
    subst (λ (h : List ℕ × ℕ). IsQuoted (b ∷ bs) h) same (subst (λ (c : ℕ). IsQuoted (c ∷ bs) ([], 1)) (sym b_is) closing))
    (λ no_quote. ⊎_elim
    (λ backslash.
    let b_is = eqb-true b 92 backslash.0 in
    let rest = grown [] (contents_from true bs) f backslash.1 in
    let q = contents_found true bs rest.0 rest.1 in
    subst (λ (h : List ℕ × ℕ). IsQuoted (b ∷ bs) h) rest.2 (subst (λ (c : ℕ). IsQuoted (c ∷ bs) (rest.0.0, 1 + rest.0.1)) (sym b_is) q))
    (λ no_backslash. ⊎_elim
    (λ plain.
    let rest = grown (b ∷ []) (contents_from false bs) f plain.1 in
    let low : 32 ≤ b = grind (arith, nat_tests, plain.0) in
    let high : b ≤ 126 = grind (arith, nat_tests, plain.0) in
    let spells = plain_spells b (eqb-false b 34 no_quote.0) (eqb-false b 92 no_backslash.0) low high in
    let q = quoted_more b (b ∷ []) bs 1 rest.0 spells.0 spells.1 refl (contents_found false bs rest.0 rest.1) in
    subst (λ (h : List ℕ × ℕ). IsQuoted (b ∷ bs) h) rest.2 q)
    (λ nothing. absurd (let no : ⊥ = cc (nothing.1) in no))
    (chosen (leb 32 b && leb b 126) (one_more (b ∷ []) (contents_from false bs)) None (Some f) no_backslash.1))
    (chosen (eqb b 92) (one_more [] (contents_from true bs)) _ (Some f) no_quote.1))
    (chosen (eqb b 34) (Some ([], 1)) _ (Some f) e)

-- contents with one byte more before them, written by this many bytes
abbrev longer : ℕ → ℕ → Option (List ℕ × ℕ) → Option (List ℕ × ℕ)
longer c n None = None
longer c n (Some f) = Some (c ∷ f.0, n + f.1)

-- a byte that is written is read
step_once : (c : ℕ) (o : Option (List ℕ × ℕ)) → one_more (c ∷ []) o ≡ longer c 1 o
step_once c None = refl
step_once c (Some f) = refl

step_twice : (c : ℕ) (o : Option (List ℕ × ℕ)) → one_more [] (one_more (c ∷ []) o) ≡ longer c 2 o
step_twice c None = refl
step_twice c (Some f) = ap (λ (n : ℕ). Some (c ∷ f.0, n)) (let e : 1 + (1 + f.1) ≡ 2 + f.1 = omega arith in e)

byte_only : (c : ℕ) (bs : List ℕ) → has_spelling c ≡ true → contents_from false (spelling c ++ bs) ≡ longer c (length (spelling c)) (contents_from false bs)
byte_only c bs has =
    ⊎_elim (λ e. by_value c 10 e (step_twice 10 (contents_from false bs))) (λ not_feed.
    ⊎_elim (λ e. by_value c 9 e (step_twice 9 (contents_from false bs))) (λ not_tab.
    ⊎_elim (λ e. by_value c 0 e (step_twice 0 (contents_from false bs))) (λ not_zero.
    ⊎_elim (λ e. by_value c 92 e (step_twice 92 (contents_from false bs))) (λ not_backslash.
    ⊎_elim (λ e. by_value c 34 e (step_twice 34 (contents_from false bs))) (λ not_quote.
    let range = in_range c has not_feed not_tab not_zero in
    let spells = plain_spells c not_quote not_backslash range.0 range.1 in
    ap (λ (l : List ℕ). contents_from false (l ++ bs)) spells.0
    ∙ plain c bs not_quote not_backslash range.0 range.1
    ∙ step_once c (contents_from false bs)
    ∙ ap (λ (l : List ℕ). longer c (length l) (contents_from false bs)) (sym spells.0))
    (cases_eq c 34)) (cases_eq c 92)) (cases_eq c 0)) (cases_eq c 9)) (cases_eq c 10)
  where
    by_value : (c v : ℕ) → c ≡ v → contents_from false (spelling v ++ bs) ≡ longer v (length (spelling v)) (contents_from false bs) → contents_from false (spelling c ++ bs) ≡ longer c (length (spelling c)) (contents_from false bs)
    by_value c v e h = subst (λ (x : ℕ). contents_from false (spelling x ++ bs) ≡ longer x (length (spelling x)) (contents_from false bs)) (sym e) h

    in_range : (c : ℕ) → has_spelling c ≡ true → (c ≡ 10 → ⊥) → (c ≡ 9 → ⊥) → (c ≡ 0 → ⊥) → (32 ≤ c) × (c ≤ 126)
    in_range c has not_feed not_tab not_zero = ((let low : 32 ≤ c = grind (arith, nat_tests) in low), (let high : c ≤ 126 = grind (arith, nat_tests) in high))

pub contents_only : (cs rest : List ℕ) → AllPass has_spelling cs → contents_from false (flat_map spelling cs ++ 34 ∷ rest) ≡ Some (cs, length (flat_map spelling cs) + 1)
contents_only [] rest all = refl
contents_only (c ∷ cs) rest all =
    let further = contents_only cs rest (All-tail (λ (b : ℕ). has_spelling b ≡ true) c cs all) in
    ap (contents_from false) (append_assoc (spelling c) (flat_map spelling cs) (34 ∷ rest))
    ∙ byte_only c (flat_map spelling cs ++ 34 ∷ rest) (All-head (λ (b : ℕ). has_spelling b ≡ true) c cs all)
    ∙ ap (longer c (length (spelling c))) further
    ∙ ap (λ (n : ℕ). Some (c ∷ cs, n)) (let count : length (spelling c) + (length (flat_map spelling cs) + 1) ≡ length (spelling c ++ flat_map spelling cs) + 1 = omega (arith, length-append (spelling c) (flat_map spelling cs)) in count)
