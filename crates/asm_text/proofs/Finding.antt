-- What is computed from the left is what the forms say.
use Rattle.std.proofs.Common.{◌≡◌, ℕ, suc, ◌+◌, ◌≤◌, Bool, true, false, not, cond, eqb, leb, ◌&&◌, ◌||◌, List, [], ◌∷◌, ◌++◌, length, take, drop, Some, None, ℤ, refl, sym, ap, subst, ◌∙◌, ⊎_elim, inl, inr, arith, length-append, append_assoc}
use Rattle.std.specs.{Char.is_ascii_digit, List.prefix_len, List.flat_map, Option.option_map}
use Rattle.std.proofs.{Math.Seq.take-append_seam, lemmas.Bool.Decides.nat_tests, lemmas.List.length-take-le, lemmas.List.take-append-drop, lemmas.Option.cond_some}
use Rattle.std.proofs.lemmas.Bool.{eqb-true, leb-true, le-leb, and_parts, cond-true, cond-false}
use Rattle.std.proofs.lemmas.List.Sums.{prefix_len-le-length}
use Rattle.asm_text.specs.{Letters.is_name_byte, Letters.begins_word, Letters.fence_i, Letters.IsRun, Letters.IsRunEnd, Letters.number_value, declared.token.TokenKind.TokenKind}
use Rattle.asm_text.specs.Text.{spelling, IsToken, IsNoPart}
use Rattle.asm_text.specs.Scan.{run_len, begins_fence_i, word_len, word_of, number_of, string_of, contents_from, mark_of, token_at}
use Rattle.asm_text.specs.declared.token.TokenKind.TheVariants.{Word, Number, Text, Comma, Colon, Open, Close, Plus, Minus}
use Rattle.asm_text.proofs.{Choices.chosen, Choices.mapped, Names.prefix_passes, Names.run_ends, Names.run_is, Dotted.whole_here, Dotted.is_whole, Digits.number_names}
use Rattle.asm_text.proofs.Quotes.{contents_found, contents_only}

-- a token of this kind and length comes first
pub record IsFound (after_word : Bool) (bytes : List ℕ) (kind : TokenKind) (len : ℕ) : Type 0 where
  pub within : len ≤ length bytes
  pub token : IsToken after_word kind (take len bytes) (drop len bytes)

as_found : (w : Bool) (bytes : List ℕ) (k kind : TokenKind) (n len : ℕ) → ◌≡◌ {A = TokenKind × ℕ} (k, n) (kind, len) → IsFound w bytes k n → IsFound w bytes kind len
as_found w bytes k kind n len same f = subst (λ (p : TokenKind × ℕ). IsFound w bytes p.0 p.1) same f

-- where `fence.i` does not stand whole, no first bytes are a part of it
no_part : (bytes : List ℕ) (n : ℕ) → begins_fence_i bytes ≡ false → IsNoPart (take n bytes) (drop n bytes)
no_part bytes n no_fence after parted ends =
    let here : begins_fence_i bytes ≡ true = is_whole bytes after (sym (take-append-drop n bytes) ∙ parted) ends in
    absurd (let no : ⊥ = cc in no)

fence_found : (w : Bool) (bytes : List ℕ) (kind : TokenKind) (len : ℕ) → begins_fence_i bytes ≡ true → word_of 7 ≡ Some (kind, len) → IsFound w bytes kind len
fence_found w bytes kind len here e =
    let whole = whole_here bytes here in
    let same : ◌≡◌ {A = TokenKind × ℕ} (Word, 7) (kind, len) = cc in
    as_found w bytes Word kind 7 len same (record {
      within = whole.1;
      token = (inr whole.0, (whole.2, λ after parted ends. whole.0));
    })

run_found : (w : Bool) (b : ℕ) (bs : List ℕ) (kind : TokenKind) (len : ℕ) → begins_word b ≡ true → begins_fence_i (b ∷ bs) ≡ false → word_of (run_len (b ∷ bs)) ≡ Some (kind, len) → IsFound w (b ∷ bs) kind len
run_found w b bs kind len begins no_fence e =
    let m : ℕ = prefix_len is_name_byte bs in
    let parts = cond_some (leb (suc m) 64) (Word, suc m) (kind, len) e in
    let short = leb-true (suc m) 64 parts.0 in
    let within = prefix_len-le-length is_name_byte bs in
    let count = length-take-le m bs within in
    as_found w (b ∷ bs) Word kind (suc m) len parts.1 (record {
      within = omega arith;
      token = (inl (begins, prefix_passes is_name_byte bs, (let fits : suc (length (take m bs)) ≤ 64 = omega arith in fits)), (run_ends is_name_byte bs, no_part (b ∷ bs) (suc m) no_fence));
    })

word_found : (w : Bool) (b : ℕ) (bs : List ℕ) (kind : TokenKind) (len : ℕ) → begins_word b ≡ true → word_of (word_len (b ∷ bs)) ≡ Some (kind, len) → IsFound w (b ∷ bs) kind len
word_found w b bs kind len begins e =
    elim (begins_fence_i (b ∷ bs)) as (λ (t : Bool). begins_fence_i (b ∷ bs) ≡ t → word_of (cond t 7 (run_len (b ∷ bs))) ≡ Some (kind, len) → IsFound w (b ∷ bs) kind len) [
      | true ↦ λ here f. fence_found w (b ∷ bs) kind len here f
      | false ↦ λ here f. run_found w b bs kind len begins here f
    ] refl e

number_found : (w : Bool) (b : ℕ) (bs : List ℕ) (kind : TokenKind) (len : ℕ) → (is_ascii_digit b || (eqb b 45 && not w)) ≡ true → number_of (take (run_len (b ∷ bs)) (b ∷ bs)) ≡ Some (kind, len) → IsFound w (b ∷ bs) kind len
number_found w b bs kind len begins e =
    let m : ℕ = prefix_len is_name_byte bs in
    let value = mapped (λ (n : ℤ). (Number n, length (b ∷ take m bs))) (number_value (b ∷ take m bs)) (kind, len) e in
    let within = prefix_len-le-length is_name_byte bs in
    let count : suc (length (take m bs)) ≡ suc m = ap suc (length-take-le m bs within) in
    as_found w (b ∷ bs) (Number value.0) kind (suc m) len (ap (λ (n : ℕ). (Number value.0, n)) (sym count) ∙ value.2) (record {
      within = omega arith;
      token = ((value.1, unsigned w b begins), run_ends is_name_byte bs);
    })
  where
    unsigned : (w : Bool) (b : ℕ) → (is_ascii_digit b || (eqb b 45 && not w)) ≡ true → (w && eqb b 45) ≡ false
    unsigned false b begins = refl
    unsigned true b begins = grind (arith, nat_tests)

string_found : (w : Bool) (bs : List ℕ) (kind : TokenKind) (len : ℕ) → string_of (contents_from false bs) ≡ Some (kind, len) → IsFound w (34 ∷ bs) kind len
string_found w bs kind len e =
    let held = mapped (λ (f : List ℕ × ℕ). (Text f.0, 1 + f.1)) (contents_from false bs) (kind, len) e in
    let q = contents_found false bs held.0 held.1 in
    let text : List ℕ = 34 ∷ (flat_map spelling held.0.0 ++ 34 ∷ []) in
    let parted : 34 ∷ bs ≡ text ++ q.rest = ap (λ (l : List ℕ). 34 ∷ l) (q.text ∙ sym (append_assoc (flat_map spelling held.0.0) (34 ∷ []) q.rest)) in
    let count : length text ≡ 1 + held.0.1 = omega (arith, q.count, length-append (flat_map spelling held.0.0) (34 ∷ [])) in
    let prefix : take (1 + held.0.1) (34 ∷ bs) ≡ text = ap (λ (n : ℕ). take n (34 ∷ bs)) (sym count) ∙ ap (take (length text)) parted ∙ take-append_seam text q.rest in
    as_found w (34 ∷ bs) (Text held.0.0) kind (1 + held.0.1) len held.2 (record {
      within = omega (arith, count, ap length parted, length-append text q.rest);
      token = (record { spelled = q.spelled; quoted = prefix }, tt);
    })

mark_found : (w : Bool) (b : ℕ) (bs : List ℕ) (kind : TokenKind) (len : ℕ) → option_map {U = TokenKind × ℕ} (λ (k : TokenKind). (k, 1)) (mark_of w b) ≡ Some (kind, len) → IsFound w (b ∷ bs) kind len
mark_found w b bs kind len e =
    let mark = mapped {B = TokenKind × ℕ} (λ (k : TokenKind). (k, 1)) (mark_of w b) (kind, len) e in
    as_found w (b ∷ bs) mark.0 kind 1 len mark.2 (record { within = omega arith; token = by_kind mark.0 mark.1 })
  where
    one : (k l : TokenKind) (x : ℕ) → eqb b x ≡ true → Some l ≡ Some k → IsToken w l (x ∷ []) bs → IsToken w k (b ∷ []) bs
    one k l x b_is k_is t =
        let same : l ≡ k = cc in
        subst (λ (y : ℕ). IsToken w k (y ∷ []) bs) (sym (eqb-true b x b_is)) (subst (λ (j : TokenKind). IsToken w j (x ∷ []) bs) same t)

    by_kind : (k : TokenKind) → mark_of w b ≡ Some k → IsToken w k (b ∷ []) bs
    by_kind k m =
        ⊎_elim (λ y. one k Comma 44 y.0 y.1 (refl, tt)) (λ n1.
        ⊎_elim (λ y. one k Colon 58 y.0 y.1 (refl, tt)) (λ n2.
        ⊎_elim (λ y. one k Open 40 y.0 y.1 (refl, tt)) (λ n3.
        ⊎_elim (λ y. one k Close 41 y.0 y.1 (refl, tt)) (λ n4.
        ⊎_elim (λ y. one k Plus 43 (and_parts w (eqb b 43) y.0).1 y.1 ((refl, (and_parts w (eqb b 43) y.0).0), tt)) (λ n5.
        ⊎_elim (λ y. one k Minus 45 (and_parts w (eqb b 45) y.0).1 y.1 ((refl, (and_parts w (eqb b 45) y.0).0), tt)) (λ n6.
        absurd (let no : ⊥ = cc (n6.1) in no))
        (chosen (w && eqb b 45) (Some Minus) None (Some k) n5.1))
        (chosen (w && eqb b 43) (Some Plus) _ (Some k) n4.1))
        (chosen (eqb b 41) (Some Close) _ (Some k) n3.1))
        (chosen (eqb b 40) (Some Open) _ (Some k) n2.1))
        (chosen (eqb b 58) (Some Colon) _ (Some k) n1.1))
        (chosen (eqb b 44) (Some Comma) _ (Some k) m)

-- what is found has its form
pub found : (after_word : Bool) (bytes : List ℕ) (kind : TokenKind) (len : ℕ) → token_at after_word bytes ≡ Some (kind, len) → IsFound after_word bytes kind len
found w [] kind len e = absurd (let no : ⊥ = cc in no)
found w (b ∷ bs) kind len e =
    ⊎_elim (λ word. word_found w b bs kind len word.0 word.1) (λ no_word.
    ⊎_elim (λ number. number_found w b bs kind len number.0 number.1) (λ no_number.
    ⊎_elim (λ string. subst (λ (c : ℕ). IsFound w (c ∷ bs) kind len) (sym (eqb-true b 34 string.0)) (string_found w bs kind len string.1)) (λ mark.
    mark_found w b bs kind len mark.1)
    (chosen (eqb b 34) (string_of (contents_from false bs)) _ (Some (kind, len)) no_number.1))
    (chosen (is_ascii_digit b || (eqb b 45 && not w)) (number_of (take (run_len (b ∷ bs)) (b ∷ bs))) _ (Some (kind, len)) no_word.1))
    (chosen (begins_word b) (word_of (word_len (b ∷ bs))) _ (Some (kind, len)) e)

-- a word is found where it stands whole: `fence.i`, and each other
fence_only : (w : Bool) (text rest : List ℕ) → text ≡ fence_i → IsRunEnd is_name_byte rest → token_at w (text ++ rest) ≡ Some (Word, length text)
fence_only w text rest is ends =
    ap (λ (l : List ℕ). token_at w (l ++ rest)) is
    ∙ ap (λ (t : Bool). word_of (cond t 7 (run_len (fence_i ++ rest)))) (is_whole (fence_i ++ rest) rest refl ends)
    ∙ ap (λ (n : ℕ). Some (Word, n)) (sym (ap length is))

run_only : (w : Bool) (c : ℕ) (cs rest : List ℕ) → IsRun (c ∷ cs) → IsRunEnd is_name_byte rest → begins_fence_i ((c ∷ cs) ++ rest) ≡ false → token_at w ((c ∷ cs) ++ rest) ≡ Some (Word, length (c ∷ cs))
run_only w c cs rest form ends no_fence =
    let run = run_is is_name_byte cs rest form.1 ends in
    cond-true (begins_word c) _ _ form.0
    ∙ ap (λ (t : Bool). word_of (cond t 7 (run_len (c ∷ (cs ++ rest))))) no_fence
    ∙ ap (λ (n : ℕ). word_of (suc n)) run
    ∙ cond-true (leb (suc (length cs)) 64) (Some (Word, suc (length cs))) None (le-leb (suc (length cs)) 64 form.2)

word_only : (w : Bool) (text rest : List ℕ) → IsRun text → IsRunEnd is_name_byte rest → IsNoPart text rest → token_at w (text ++ rest) ≡ Some (Word, length text)
word_only w [] rest form ends part = absurd form
word_only w (c ∷ cs) rest form ends part =
    elim (begins_fence_i ((c ∷ cs) ++ rest)) as (λ (t : Bool). begins_fence_i ((c ∷ cs) ++ rest) ≡ t → token_at w ((c ∷ cs) ++ rest) ≡ Some (Word, length (c ∷ cs))) [
      | true ↦ λ here. let whole = whole_here ((c ∷ cs) ++ rest) here in fence_only w (c ∷ cs) rest (part (drop 7 ((c ∷ cs) ++ rest)) whole.3 whole.2) ends
      | false ↦ λ here. run_only w c cs rest form ends here
    ] refl

-- what has its form is found
pub only : (after_word : Bool) (kind : TokenKind) (text rest : List ℕ) → IsToken after_word kind text rest → token_at after_word (text ++ rest) ≡ Some (kind, length text)
only w Word text rest t = ⊎_elim (λ run. word_only w text rest run t.1.0 t.1.1) (λ is. fence_only w text rest is t.1.0) t.0
only w (Number n) [] rest t = absurd (let value = t.0.0 in let no : ⊥ = cc in no)
only w (Number n) (c ∷ cs) rest t =
    let names = number_names w c cs n t.0.0 t.0.1 in
    let run = run_is is_name_byte cs rest names.0 t.1 in
    let text : take (suc (prefix_len is_name_byte (cs ++ rest))) (c ∷ (cs ++ rest)) ≡ c ∷ cs = ap (λ (m : ℕ). c ∷ take m (cs ++ rest)) run ∙ ap (λ (l : List ℕ). c ∷ l) (take-append_seam cs rest) in
    cond-false (begins_word c) _ _ names.1.0 ∙ cond-true (is_ascii_digit c || (eqb c 45 && not w)) _ _ names.1.1 ∙ ap number_of text ∙ ap (option_map (λ (v : ℤ). (Number v, suc (length cs)))) t.0.0
only w (Text contents) text rest t =
    let s = t.0 in
    let inner : List ℕ = flat_map spelling contents in
    let read = contents_only contents rest s.spelled in
    let regrouped : text ++ rest ≡ 34 ∷ (inner ++ 34 ∷ rest) = ap (λ (l : List ℕ). l ++ rest) s.quoted ∙ ap (λ (l : List ℕ). 34 ∷ l) (append_assoc inner (34 ∷ []) rest) in
    let count : 1 + (length inner + 1) ≡ length text = omega (arith, ap length s.quoted, length-append inner (34 ∷ [])) in
    ap (token_at w) regrouped ∙ ap string_of read ∙ ap (λ (m : ℕ). Some (Text contents, m)) count
only w Comma text rest t = ap (λ (l : List ℕ). token_at w (l ++ rest)) t.0 ∙ ap (λ (m : ℕ). Some (Comma, m)) (sym (ap length t.0))
only w Colon text rest t = ap (λ (l : List ℕ). token_at w (l ++ rest)) t.0 ∙ ap (λ (m : ℕ). Some (Colon, m)) (sym (ap length t.0))
only w Open text rest t = ap (λ (l : List ℕ). token_at w (l ++ rest)) t.0 ∙ ap (λ (m : ℕ). Some (Open, m)) (sym (ap length t.0))
only w Close text rest t = ap (λ (l : List ℕ). token_at w (l ++ rest)) t.0 ∙ ap (λ (m : ℕ). Some (Close, m)) (sym (ap length t.0))
only w Plus text rest t = ap (λ (l : List ℕ). token_at w (l ++ rest)) t.0.0 ∙ ap (λ (v : Bool). token_at v (43 ∷ rest)) t.0.1 ∙ ap (λ (m : ℕ). Some (Plus, m)) (sym (ap length t.0.0))
only w Minus text rest t = ap (λ (l : List ℕ). token_at w (l ++ rest)) t.0.0 ∙ ap (λ (v : Bool). token_at v (45 ∷ rest)) t.0.1 ∙ ap (λ (m : ℕ). Some (Minus, m)) (sym (ap length t.0.0))

-- where none is found, none stands
pub none : (after_word : Bool) (bytes : List ℕ) → token_at after_word bytes ≡ None → (kind : TokenKind) (text rest : List ℕ) → bytes ≡ text ++ rest → IsToken after_word kind text rest → ⊥
none w bytes e kind text rest parted t =
    let one : token_at w bytes ≡ Some (kind, length text) = ap (token_at w) parted ∙ only w kind text rest t in
    let no : ⊥ = cc in
    no
