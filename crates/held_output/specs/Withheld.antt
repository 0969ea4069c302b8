-- Items that are held back until they may be seen.
use Rattle.std.specs.Prelude.{◌≡◌, ℕ, zero, suc, nat_le, nat_lt, Bool, List, [], ◌∷◌, map, length, refl}
use Rattle.std.specs.List.{prefix_len}
use Rattle.std.specs.Coded.{Coded, code_by, coded×, coded_ℕ, coded_list}
use Rattle.kernel_model.specs.Shown.{prefix}

-- an item, and its mark: how many changes have to be committed before it may be seen
pub record Held (A : Type 0) : Type 0 where
  pub what : A
  pub mark : ℕ

-- items in order, how many changes are committed, and for how many items more there is room
pub record Withheld (A : Type 0) : Type 0 where
  pub items : List (Held A)
  pub committed : ℕ
  pub room : ℕ

-- the code of an item, as the pair of its fields
abbrev pub held_code : {A : Type 0} → Coded A → Coded (Held A)
held_code {A} code = code_by (A × ℕ) (coded× code coded_ℕ) (λ h. (h.what, h.mark)) (λ p. record { what = p.0; mark = p.1 }) (λ _. refl)

-- the code of these, as the tuple of their fields
abbrev pub withheld_code : {A : Type 0} → Coded A → Coded (Withheld A)
withheld_code {A} code =
    code_by (List (Held A) × (ℕ × ℕ)) (coded× (coded_list (held_code code)) (coded× coded_ℕ coded_ℕ))
    (λ w. (w.items, (w.committed, w.room)))
    (λ p. record { items = p.0; committed = p.1.0; room = p.1.1 }) (λ _. refl)

-- these items with these marks
abbrev pub held_with : {A : Type 0} → List A → List ℕ → List (Held A)
held_with [] marks = []
held_with (x ∷ xs) [] = []
held_with (x ∷ xs) (m ∷ ms) = record { what = x; mark = m } ∷ held_with xs ms

-- for how many items there is room, where so many more could stand there, and so many runs of equal marks
abbrev pub room_for : ℕ → ℕ → ℕ
room_for items zero = 0
room_for items (suc runs) = items

-- these items, all with this mark
abbrev pub all_held : {A : Type 0} → ℕ → List A → List (Held A)
all_held mark xs = map (λ x. record { what = x; mark = mark }) xs

-- the items without their marks
abbrev pub whats : {A : Type 0} → List (Held A) → List A
whats hs = map (λ h. h.what) hs

-- how many of the first marks are at most c
abbrev pub prefix_of : ℕ → List ℕ → ℕ
prefix_of c marks = prefix_len (λ m. nat_le m c) marks

-- what is released: the longest prefix of the items whose marks are at most what is committed
abbrev pub released : {A : Type 0} → Withheld A → List A
released w = whats (prefix (λ h. nat_le h.mark w.committed) w.items)

-- some item is held back
abbrev pub holds_back : {A : Type 0} → Withheld A → Bool
holds_back w = nat_lt (length (released w)) (length w.items)

-- no items, where no change is committed
abbrev pub nothing : {A : Type 0} → Withheld A
nothing = record { items = []; committed = 0; room = 0 }

-- the same, though there may be room for more
pub record IsSame {A : Type 0} (old new : Withheld A) : Type 0 where
  pub items : new.items ≡ old.items
  pub committed : new.committed ≡ old.committed
