-- The walk back from event n over the footprints of all events: what is wanted, and the numbers found so far.
use Rattle.std.proofs.Common.{◌≡◌, ℕ, ◌+◌, ◌-◌, ◌<◌, ◌≤◌, ◌||◌, Bool, true, false, List, [], ◌∷◌, ◌++◌, length, take, drop, get_or, reverse, refl, sym, ap, subst, ◌∙◌, arith}
use Rattle.std.specs.Prelude.{if◌then◌else◌}
use Rattle.std.proofs.lemmas.List.{length-take-le, reverse-append, reverse-reverse, drop_all, drop_more, get_or-take}
use Rattle.std.proofs.lemmas.List.Folds.{list_any-append}
use Rattle.kernel_model.specs.Entries.{Entry, is_same, is_among, meets}
use Rattle.kernel_model.specs.Paths.{wanted}
use Rattle.kernel_model.specs.declared.carrier.Carrier.{Carrier}
use Rattle.kernel_laws.specs.Cones.{path_flags, numbers_selected}
use Rattle.footprints.specs.Kept.{no_footprint}

-- the same carriers are among both
abbrev pub SameMembers : List Carrier → List Carrier → Type 0
SameMembers xs ys = (c : Carrier) → is_among c xs ≡ is_among c ys

meets_same : (ws xs ys : List Carrier) → SameMembers xs ys → meets ws xs ≡ meets ws ys
meets_same [] xs ys same = refl
meets_same (w ∷ ws) xs ys same = ap (λ b. b || meets ws xs) (same w) ∙ ap (λ b. is_among w ys || b) (meets_same ws xs ys same)

-- the footprints before event n, and what it reads
abbrev pub past : List Entry → ℕ → List Entry
past all n = take (n - 1) all

abbrev pub read_last : List Entry → ℕ → List Carrier
read_last all n = (get_or all (n - 1) no_footprint).reads

-- the numbers of the events in its cone
abbrev pub cone_by : List Entry → ℕ → List ℕ
cone_by all n = numbers_selected 1 (path_flags (past all n) (read_last all n) ++ true ∷ [])

-- what is so when the events from place i on are walked
pub record IsWalked (all : List Entry) (n i : ℕ) (want : List Carrier) (found : List ℕ) : Type 0 where
  pub wanted : SameMembers want (wanted (drop i (past all n)) (read_last all n))
  pub numbers : found ≡ reverse (numbers_selected (i + 1) (path_flags (drop i (past all n)) (read_last all n) ++ true ∷ []))

-- event n alone is walked
pub walked_first : (all : List Entry) (n : ℕ) (none want : List Carrier) (found : List ℕ) → 1 ≤ n → n ≤ length all → none ≡ []
    → ((c : Carrier) → is_among c want ≡ (is_among c none || is_among c (read_last all n))) → found ≡ n ∷ [] → IsWalked all n (n - 1) want found
walked_first all n none want found some there is_none adds is =
    let rest : drop (n - 1) (past all n) ≡ [] = drop_all (n - 1) (past all n) (omega (arith, length-take-le (n - 1) all (omega (arith, there)))) in
    let back : n ≡ n - 1 + 1 = omega (arith, some) in
    record {
      wanted = λ c. adds c ∙ ap (λ (xs : List Carrier). is_among c xs || is_among c (read_last all n)) is_none
          ∙ sym (ap (λ (es : List Entry). is_among c (wanted es (read_last all n))) rest);
      numbers = is ∙ ap (λ (k : ℕ). k ∷ []) back
          ∙ sym (ap (λ (es : List Entry). reverse (numbers_selected (n - 1 + 1) (path_flags es (read_last all n) ++ true ∷ []))) rest);
    }

-- one more event, at place i
module _ (all : List Entry) (n i : ℕ) (less : i < n - 1) (there : n ≤ length all) where
  abbrev here : Entry
  here = get_or all i no_footprint

  abbrev rest : List Entry
  rest = drop (i + 1) (past all n)

  abbrev last : List Carrier
  last = read_last all n

  is_next : drop i (past all n) ≡ here ∷ rest
  is_next =
      drop_more (past all n) i no_footprint (omega (arith, less, there, length-take-le (n - 1) all (omega (arith, there))))
      ∙ ap (λ (e : Entry). e ∷ rest) (get_or-take (n - 1) all i no_footprint less)

  by_flag : (want : List Carrier) (found : List ℕ) (b : Bool) → meets here.writes (wanted rest last) ≡ b
      → SameMembers want (if b then wanted rest last ++ here.reads else wanted rest last)
      → found ≡ reverse (if b then (i + 1) ∷ numbers_selected (i + 1 + 1) (path_flags rest last ++ true ∷ []) else numbers_selected (i + 1 + 1) (path_flags rest last ++ true ∷ []))
      → IsWalked all n i want found
  by_flag want found b is same are = record {
    wanted = λ c. same c
        ∙ sym (ap (λ (t : Bool). is_among c (if t then wanted rest last ++ here.reads else wanted rest last)) is)
        ∙ sym (ap (λ (es : List Entry). is_among c (wanted es last)) is_next);
    numbers = are
        ∙ sym (ap (λ (t : Bool). reverse (if t then (i + 1) ∷ numbers_selected (i + 1 + 1) (path_flags rest last ++ true ∷ []) else numbers_selected (i + 1 + 1) (path_flags rest last ++ true ∷ []))) is)
        ∙ sym (ap (λ (es : List Entry). reverse (numbers_selected (i + 1) (path_flags es last ++ true ∷ []))) is_next);
  }

  -- it writes what is wanted
  pub walked_found : (want more : List Carrier) (found longer : List ℕ) → IsWalked all n (i + 1) want found → meets here.writes want ≡ true
      → ((c : Carrier) → is_among c more ≡ (is_among c want || is_among c here.reads)) → longer ≡ found ++ (i + 1) ∷ [] → IsWalked all n i more longer
  walked_found want more found longer w met adds is =
      by_flag more longer true (sym (meets_same here.writes want (wanted rest last) w.wanted) ∙ met)
      (λ c. adds c ∙ ap (λ (b : Bool). b || is_among c here.reads) (w.wanted c) ∙ sym (list_any-append (is_same c) (wanted rest last) here.reads))
      (is ∙ ap (λ (xs : List ℕ). xs ++ (i + 1) ∷ []) w.numbers ∙ sym (reverse-append ((i + 1) ∷ []) (numbers_selected (i + 1 + 1) (path_flags rest last ++ true ∷ []))))

  -- it does not
  pub walked_past : (want : List Carrier) (found : List ℕ) → IsWalked all n (i + 1) want found → meets here.writes want ≡ false → IsWalked all n i want found
  walked_past want found w met = by_flag want found false (sym (meets_same here.writes want (wanted rest last) w.wanted) ∙ met) w.wanted w.numbers

-- all events are walked
pub walked_all : (all : List Entry) (n place : ℕ) (want : List Carrier) (found : List ℕ) → place ≤ 0 → IsWalked all n place want found → reverse found ≡ cone_by all n
walked_all all n place want found least w =
    let none : place ≡ 0 = omega (arith, least) in
    let start : IsWalked all n 0 want found = subst (λ (k : ℕ). IsWalked all n k want found) none w in
    ap reverse start.numbers ∙ reverse-reverse _
