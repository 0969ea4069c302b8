-- What is escaped is read back, has no byte that ends or begins a packet, and ends within no escape.
use Rattle.std.proofs.Common.{◌≡◌, ℕ, Bool, true, false, List, [], ◌∷◌, ◌++◌, refl, sym, ◌∙◌, ap, subst, ⊎_elim}
use Rattle.std.specs.Prelude.{◌==◌, ◌&&◌, not}
use Rattle.std.specs.List.{flat_map, list_all}
use Rattle.std.proofs.lemmas.Bool.{cases_Bool, eqb-true}
use Rattle.gdb_packets.specs.Framing.{escape_of}
use Rattle.gdb_packets.specs.Reading.{ends_escaped, unescaped}

-- neither # nor $
abbrev pub is_inner : ℕ → Bool
is_inner c = not (c == 35) && not (c == 36)

-- what holds at a byte where it equals a sign, and where it does not, holds
split : (b n : ℕ) (P : ℕ → Type 0) → P n → ((b == n) ≡ false → P b) → P b
split b n P same other = ⊎_elim (λ (e : (b == n) ≡ true). subst P (sym (eqb-true b n e)) same) other (cases_Bool (b == n))

-- a byte that is none of the four signs
record IsOther (b : ℕ) : Type 0 where
  hash : (b == 35) ≡ false
  dollar : (b == 36) ≡ false
  star : (b == 42) ≡ false
  brace : (b == 125) ≡ false

-- what holds at the four signs, and at each other byte, holds
by_signs : (P : ℕ → Type 0) → P 35 → P 36 → P 42 → P 125 → ((b : ℕ) → IsOther b → P b) → (b : ℕ) → P b
by_signs P hash dollar star brace other b =
    split b 35 P hash (λ e1. split b 36 P dollar (λ e2. split b 42 P star (λ e3. split b 125 P brace (λ e4.
    other b (record { hash = e1; dollar = e2; star = e3; brace = e4 })))))

escape_other : (b : ℕ) → IsOther b → escape_of b ≡ b ∷ []
escape_other b o = rw (o.hash, o.dollar, o.star, o.brace)

read_one : (rest : List ℕ) (b : ℕ) → unescaped false (escape_of b ++ rest) ≡ b ∷ unescaped false rest
read_one rest = by_signs (λ b. unescaped false (escape_of b ++ rest) ≡ b ∷ unescaped false rest) refl refl refl refl (λ b o.
    ap (λ (l : List ℕ). unescaped false (l ++ rest)) (escape_other b o) ∙ rw o.brace refl)

pub read_back : (payload : List ℕ) → unescaped false (flat_map escape_of payload) ≡ payload
read_back [] = refl
read_back (b ∷ payload) = read_one (flat_map escape_of payload) b ∙ ap (λ (l : List ℕ). b ∷ l) (read_back payload)

whole_one : (rest : List ℕ) (b : ℕ) → ends_escaped false (escape_of b ++ rest) ≡ ends_escaped false rest
whole_one rest = by_signs (λ b. ends_escaped false (escape_of b ++ rest) ≡ ends_escaped false rest) refl refl refl refl (λ b o.
    ap (λ (l : List ℕ). ends_escaped false (l ++ rest)) (escape_other b o) ∙ ap (λ (t : Bool). ends_escaped t rest) o.brace)

pub whole : (payload : List ℕ) → ends_escaped false (flat_map escape_of payload) ≡ false
whole [] = refl
whole (b ∷ payload) = whole_one (flat_map escape_of payload) b ∙ whole payload

inner_one : (rest : List ℕ) → list_all is_inner rest ≡ true → (b : ℕ) → list_all is_inner (escape_of b ++ rest) ≡ true
inner_one rest h = by_signs (λ b. list_all is_inner (escape_of b ++ rest) ≡ true) h h h h (λ b o.
    ap (λ (l : List ℕ). list_all is_inner (l ++ rest)) (escape_other b o) ∙ rw (o.hash, o.dollar) h)

pub all_inner : (payload : List ℕ) → list_all is_inner (flat_map escape_of payload) ≡ true
all_inner [] = refl
all_inner (b ∷ payload) = inner_one (flat_map escape_of payload) (all_inner payload) b
