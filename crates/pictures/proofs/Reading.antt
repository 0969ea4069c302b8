-- A reader of XML reads back what was escaped, and nothing in that begins or ends a tag.
use Rattle.std.proofs.Common.{sym, ◌∙◌, ap, subst, refl, ⊎_elim}
use Rattle.std.specs.Prelude.{◌≡◌, ℕ, ◌==◌, ◌&&◌, Bool, true, false, nat_le, List, [], ◌∷◌, ◌++◌, None, map, if◌then◌else◌}
use Rattle.std.specs.List.{flat_map, list_all}
use Rattle.std.proofs.lemmas.Bool.{cases_Bool, eqb-true}
use Rattle.pictures.specs.Escapes.{drawn, entity, read_on, is_plain}

-- what holds at a byte where it equals a sign, and where it does not, holds
split : (b n : ℕ) (P : ℕ → Type 0) → P n → ((b == n) ≡ false → P b) → P b
split b n P same other = ⊎_elim (λ (e : (b == n) ≡ true). subst P (sym (eqb-true b n e)) same) other (cases_Bool (b == n))

-- a byte that is none of the four signs
record IsOther (b : ℕ) : Type 0 where
  ampersand : (b == 38) ≡ false
  less : (b == 60) ≡ false
  greater : (b == 62) ≡ false
  quote : (b == 34) ≡ false

-- what holds at the four signs, and at each other byte, holds
by_signs : (P : ℕ → Type 0) → P 38 → P 60 → P 62 → P 34 → ((b : ℕ) → IsOther b → P b) → (b : ℕ) → P b
by_signs P ampersand less greater quote other b =
    split b 38 P ampersand (λ e1. split b 60 P less (λ e2. split b 62 P greater (λ e3. split b 34 P quote (λ e4.
    other b (record { ampersand = e1; less = e2; greater = e3; quote = e4 })))))

-- a byte that is drawn as itself or as a dot is no sign, where it is none itself
drawn_other : (n b : ℕ) (t : Bool) → (b == n) ≡ false → (46 == n) ≡ false → ((if t then b else 46) == n) ≡ false
drawn_other n b true e _ = e
drawn_other n b false _ dot = dot

entity_other : (b : ℕ) → IsOther b → entity b ≡ drawn b ∷ []
entity_other b o = rw (o.ampersand, o.less, o.greater, o.quote)

-- what stands for a byte is read as what is drawn of it
read_entity : (rest : List ℕ) (b : ℕ) → read_on None (entity b ++ rest) ≡ drawn b ∷ read_on None rest
read_entity rest = by_signs (λ b. read_on None (entity b ++ rest) ≡ drawn b ∷ read_on None rest) refl refl refl refl (λ b o.
    ap (λ (l : List ℕ). read_on None (l ++ rest)) (entity_other b o)
    ∙ rw (drawn_other 38 b (nat_le 32 b && nat_le b 126) o.ampersand refl))

pub read_back : (text : List ℕ) → read_on None (flat_map entity text) ≡ map drawn text
read_back [] = refl
read_back (b ∷ text) = read_entity (flat_map entity text) b ∙ ap (λ (l : List ℕ). drawn b ∷ l) (read_back text)

-- what stands for a byte is plain
plain_entity : (rest : List ℕ) → list_all is_plain rest ≡ true → (b : ℕ) → list_all is_plain (entity b ++ rest) ≡ true
plain_entity rest h = by_signs (λ b. list_all is_plain (entity b ++ rest) ≡ true) h h h h (λ b o.
    let t : Bool = nat_le 32 b && nat_le b 126 in
    ap (λ (l : List ℕ). list_all is_plain (l ++ rest)) (entity_other b o)
    ∙ rw (drawn_other 60 b t o.less refl, drawn_other 62 b t o.greater refl, drawn_other 34 b t o.quote refl) h)

pub all_plain : (text : List ℕ) → list_all is_plain (flat_map entity text) ≡ true
all_plain [] = refl
all_plain (b ∷ text) = plain_entity (flat_map entity text) (all_plain text) b
