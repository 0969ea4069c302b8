-- Where marks stand, and what stands there.
use Rattle.std.proofs.Common.{◌≡◌, ℕ, zero, suc, ◌<◌, Bool, true, false, if◌then◌else◌, List, [], ◌∷◌, ◌++◌, length, Option, Some, None, max, refl, sym, ap, subst, ◌∙◌, arith, get_or}
use Rattle.std.specs.Prelude.{slice_set, slice_get}
use Rattle.std.specs.Option.{option_map}
use Rattle.std.specs.Map.{lookup}
use Rattle.std.proofs.lemmas.Bool.{false≢true}
use Rattle.kernel_model.specs.declared.carrier.Carrier.{Carrier}
use Rattle.kernel_model.specs.Entries.{is_same}
use Rattle.commit_deps.specs.Kept.{Marked}
use Rattle.commit_deps.specs.Keeps.{mark_at, noted}
use Rattle.commit_deps.specs.Places.{place_at, SaysPlaces, AreDistinct}
use Rattle.kernel_model.proofs.Meets.{same_is, same_self}
use Rattle.commit_deps.proofs.Keeping.{cons-at}

-- ---- the first mark is the carrier's, or a later one, or none
first-at : (x : Carrier) (k : Marked) (ks : List Marked) (b : Bool) → is_same k.0 x ≡ b
    → place_at x (k ∷ ks) ≡ (if b then Some 0 else option_map (λ n. suc n) (place_at x ks))
first-at x k ks b h = ap (λ (v : Bool). if v then Some 0 else option_map (λ n. suc n) (place_at x ks)) h

noted-by : (x : Carrier) (m : ℕ) (k : Marked) (ks : List Marked) (b : Bool) → is_same k.0 x ≡ b
    → noted x m (k ∷ ks) ≡ (if b then (k.0, max k.1 m) ∷ ks else k ∷ noted x m ks)
noted-by x m k ks b h = ap (λ (v : Bool). if v then (k.0, max k.1 m) ∷ ks else k ∷ noted x m ks) h

found : (P : Type 0) (x : Carrier) (k : Marked) (ks : List Marked) (i : ℕ) → place_at x (k ∷ ks) ≡ Some i
    → (is_same k.0 x ≡ true → 0 ≡ i → P) → ((j : ℕ) → is_same k.0 x ≡ false → place_at x ks ≡ Some j → suc j ≡ i → P) → P
found P x k ks i h first later = cases (is_same k.0 x) refl (place_at x ks) refl
  where
    cases : (b : Bool) → is_same k.0 x ≡ b → (o : Option ℕ) → place_at x ks ≡ o → P
    cases true e o p = let is : Some 0 ≡ Some i = sym (first-at x k ks true e) ∙ h in first e (let here : 0 ≡ i = cc in here)
    cases false e None p =
        let is : ◌≡◌ {A = Option ℕ} None (Some i) = sym (first-at x k ks false e ∙ ap (λ (q : Option ℕ). option_map (λ n. suc n) q) p) ∙ h in absurd (let no : ⊥ = cc in no)
    cases false e (Some j) p =
        let is : Some (suc j) ≡ Some i = sym (first-at x k ks false e ∙ ap (λ (q : Option ℕ). option_map (λ n. suc n) q) p) ∙ h in
        later j e p (let here : suc j ≡ i = cc in here)

none : (P : Type 0) (x : Carrier) (k : Marked) (ks : List Marked) → place_at x (k ∷ ks) ≡ None
    → (is_same k.0 x ≡ false → place_at x ks ≡ None → P) → P
none P x k ks h nowhere = cases (is_same k.0 x) refl (place_at x ks) refl
  where
    cases : (b : Bool) → is_same k.0 x ≡ b → (o : Option ℕ) → place_at x ks ≡ o → P
    cases true e o p = let is : ◌≡◌ {A = Option ℕ} (Some 0) None = sym (first-at x k ks true e) ∙ h in absurd (let no : ⊥ = cc in no)
    cases false e None p = nowhere e p
    cases false e (Some j) p =
        let is : ◌≡◌ {A = Option ℕ} (Some (suc j)) None = sym (first-at x k ks false e ∙ ap (λ (q : Option ℕ). option_map (λ n. suc n) q) p) ∙ h in absurd (let no : ⊥ = cc in no)

-- ---- a carrier that has a place
-- the place is in the list
pub place-within : (x : Carrier) (ks : List Marked) (i : ℕ) → place_at x ks ≡ Some i → i < length ks
place-within x [] i h = absurd (let no : ⊥ = cc in no)
place-within x (k ∷ ks) i h = found (i < length (k ∷ ks)) x k ks i h
    (λ e is. omega (arith, is))
    (λ j e p is. let rest = place-within x ks j p in omega (arith, is, rest))

-- its mark stands there
pub mark-there : (x : Carrier) (ks : List Marked) (i : ℕ) (v : Marked) → place_at x ks ≡ Some i → v ≡ get_or ks i v → mark_at x ks ≡ Some v.1
mark-there x [] i v h there = absurd (let no : ⊥ = cc in no)
mark-there x (k ∷ ks) i v h there = found (mark_at x (k ∷ ks) ≡ Some v.1) x k ks i h
    (λ e is. cons-at x k ks true e ∙ ap (λ (j : Marked). Some j.1) (sym (subst (λ (n : ℕ). v ≡ get_or (k ∷ ks) n v) (sym is) there)))
    (λ j e p is. cons-at x k ks false e ∙ mark-there x ks j v p (subst (λ (n : ℕ). v ≡ get_or (k ∷ ks) n v) (sym is) there))

-- the mark that is noted is joined there
pub noted-there : (x : Carrier) (m : ℕ) (ks : List Marked) (i : ℕ) (v : Marked) (n : ℕ) → place_at x ks ≡ Some i → v ≡ get_or ks i v → n ≡ max v.1 m
    → slice_set ks i (v.0, n) ≡ noted x m ks
noted-there x m [] i v n h there joined = absurd (let no : ⊥ = cc in no)
noted-there x m (k ∷ ks) i v n h there joined = found (slice_set (k ∷ ks) i (v.0, n) ≡ noted x m (k ∷ ks)) x k ks i h
    (λ e is.
    let here : v ≡ k = subst (λ (j : ℕ). v ≡ get_or (k ∷ ks) j v) (sym is) there in
    ap (λ (j : ℕ). slice_set (k ∷ ks) j (v.0, n)) (sym is)
    ∙ ap (λ (l : ℕ). (v.0, l) ∷ ks) joined
    ∙ ap (λ (w : Marked). (w.0, max w.1 m) ∷ ks) here
    ∙ sym (noted-by x m k ks true e))
    (λ j e p is.
    ap (λ (l : ℕ). slice_set (k ∷ ks) l (v.0, n)) (sym is)
    ∙ ap (λ (ls : List Marked). k ∷ ls) (noted-there x m ks j v n p (subst (λ (l : ℕ). v ≡ get_or (k ∷ ks) l v) (sym is) there) joined)
    ∙ sym (noted-by x m k ks false e))

-- no place changes
pub places-stay : (x y : Carrier) (m : ℕ) (ks : List Marked) (i : ℕ) → place_at x ks ≡ Some i → place_at y (noted x m ks) ≡ place_at y ks
places-stay x y m [] i h = absurd (let no : ⊥ = cc in no)
places-stay x y m (k ∷ ks) i h = found (place_at y (noted x m (k ∷ ks)) ≡ place_at y (k ∷ ks)) x k ks i h
    (λ e is. ap (place_at y) (noted-by x m k ks true e))
    (λ j e p is.
    ap (place_at y) (noted-by x m k ks false e)
    ∙ ap (λ (o : Option ℕ). if is_same k.0 y then Some 0 else option_map (λ n. suc n) o) (places-stay x y m ks j p))

-- ---- a carrier that has none
pub mark-nowhere : (x : Carrier) (ks : List Marked) → place_at x ks ≡ None → mark_at x ks ≡ None
mark-nowhere x [] h = refl
mark-nowhere x (k ∷ ks) h = none (mark_at x (k ∷ ks) ≡ None) x k ks h (λ e p. cons-at x k ks false e ∙ mark-nowhere x ks p)

-- it comes last
pub noted-last : (x : Carrier) (m : ℕ) (ks : List Marked) → place_at x ks ≡ None → ks ++ (x, m) ∷ [] ≡ noted x m ks
noted-last x m [] h = refl
noted-last x m (k ∷ ks) h = none ((k ∷ ks) ++ (x, m) ∷ [] ≡ noted x m (k ∷ ks)) x k ks h
    (λ e p. ap (λ (ls : List Marked). k ∷ ls) (noted-last x m ks p) ∙ sym (noted-by x m k ks false e))

map-if : (b : Bool) (o p : Option ℕ) → option_map (λ n. suc n) (if b then o else p) ≡ (if b then option_map (λ n. suc n) o else option_map (λ n. suc n) p)
map-if true o p = refl
map-if false o p = refl

place-last : (x y : Carrier) (m : ℕ) (ks : List Marked) → place_at x ks ≡ None
    → place_at y (ks ++ (x, m) ∷ []) ≡ (if is_same x y then Some (length ks) else place_at y ks)
place-last x y m [] h = refl
place-last x y m (k ∷ ks) h = none (place_at y ((k ∷ ks) ++ (x, m) ∷ []) ≡ (if is_same x y then Some (length (k ∷ ks)) else place_at y (k ∷ ks))) x k ks h
    (λ e p. cases e (place-last x y m ks p) (is_same k.0 y) refl (is_same x y) refl)
  where
    cases : is_same k.0 x ≡ false → place_at y (ks ++ (x, m) ∷ []) ≡ (if is_same x y then Some (length ks) else place_at y ks) → (b : Bool) → is_same k.0 y ≡ b → (d : Bool) → is_same x y ≡ d
        → place_at y ((k ∷ ks) ++ (x, m) ∷ []) ≡ (if is_same x y then Some (length (k ∷ ks)) else place_at y (k ∷ ks))
    cases e rest true f true g = absurd (false≢true (sym e ∙ ap (λ (z : Carrier). is_same k.0 z) (same_is x y g) ∙ f))
    cases e rest true f false g =
        first-at y k (ks ++ (x, m) ∷ []) true f
        ∙ sym (ap (λ (b : Bool). if b then Some (length (k ∷ ks)) else place_at y (k ∷ ks)) g ∙ first-at y k ks true f)
    cases e rest false f d g =
        first-at y k (ks ++ (x, m) ∷ []) false f
        ∙ ap (λ (o : Option ℕ). option_map (λ n. suc n) o) rest
        ∙ map-if (is_same x y) (Some (length ks)) (place_at y ks)
        ∙ ap (λ (o : Option ℕ). if is_same x y then Some (length (k ∷ ks)) else o) (sym (first-at y k ks false f))

-- ---- the index
-- it says the same where nothing else is found in it
pub says-same : (eq : Carrier → Carrier → Bool) (old new : List (Carrier × ℕ)) (marks : List Marked) → ((a b : Carrier) → eq a b ≡ is_same a b)
    → SaysPlaces old marks → ((x : Carrier) → lookup (eq x) new ≡ lookup (eq x) old) → SaysPlaces new marks
says-same eq old new marks same says stays x =
    let test : eq x ≡ is_same x = λ i y. same x y i in
    ap (λ (t : Carrier → Bool). lookup t new) (sym test) ∙ stays x ∙ ap (λ (t : Carrier → Bool). lookup t old) test ∙ says x

-- one more carrier
pub says-more : (eq : Carrier → Carrier → Bool) (old new : List (Carrier × ℕ)) (marks : List Marked) (x : Carrier) (m place : ℕ) → ((a b : Carrier) → eq a b ≡ is_same a b)
    → SaysPlaces old marks → place_at x marks ≡ None → place ≡ length marks
    → ((y : Carrier) → lookup (eq y) new ≡ (if eq x y then Some place else lookup (eq y) old)) → SaysPlaces new (marks ++ (x, m) ∷ [])
says-more eq old new marks x m place same says nowhere last more y =
    let test : eq y ≡ is_same y = λ i z. same y z i in
    ap (λ (t : Carrier → Bool). lookup t new) (sym test)
    ∙ more y
    ∙ ap (λ (b : Bool). if b then Some place else lookup (eq y) old) (same x y)
    ∙ ap (λ (n : ℕ). if is_same x y then Some n else lookup (eq y) old) last
    ∙ ap (λ (o : Option ℕ). if is_same x y then Some (length marks) else o) (ap (λ (t : Carrier → Bool). lookup t old) test ∙ says y)
    ∙ sym (place-last x y m marks nowhere)

-- ---- no carrier has two marks
-- what stands at a place once a mark is changed stood there with a mark
set-kept : (P : Type 0) (ks : List Marked) (i : ℕ) (v : Marked) (n place : ℕ) (k : Marked) → v ≡ get_or ks i v → slice_get (slice_set ks i (v.0, n)) place ≡ Some k
    → ((m : Marked) → slice_get ks place ≡ Some m → m.0 ≡ k.0 → P) → P
set-kept P [] i v n place k there is had = absurd (let no : ⊥ = cc in no)
set-kept P (m ∷ ks) zero v n zero k there is had =
    let now : (v.0, n) ≡ k = cc in had m refl (ap (λ (w : Marked). w.0) (sym there) ∙ ap (λ (w : Marked). w.0) now)
set-kept P (m ∷ ks) zero v n (suc place) k there is had = had k is refl
set-kept P (m ∷ ks) (suc i) v n zero k there is had = had k is refl
set-kept P (m ∷ ks) (suc i) v n (suc place) k there is had = set-kept P ks i v n place k there is had

-- also where one mark is another
pub distinct-set : (x : Carrier) (m : ℕ) (ks : List Marked) (i : ℕ) (v : Marked) (n : ℕ) → AreDistinct ks → place_at x ks ≡ Some i → v ≡ get_or ks i v → n ≡ max v.1 m
    → AreDistinct (slice_set ks i (v.0, n))
distinct-set x m ks i v n distinct at there joined place k is =
    let same : slice_set ks i (v.0, n) ≡ noted x m ks = noted-there x m ks i v n at there joined in
    ap (place_at k.0) same ∙ places-stay x k.0 m ks i at
    ∙ set-kept (place_at k.0 ks ≡ Some place) ks i v n place k there is (λ w had named. ap (λ (c : Carrier). place_at c ks) (sym named) ∙ distinct place w had)

-- what stands at a place stood there, or is the last
last-or : (P : Type 0) (ks : List Marked) (l : Marked) (place : ℕ) (k : Marked) → slice_get (ks ++ l ∷ []) place ≡ Some k
    → (slice_get ks place ≡ Some k → P) → (place ≡ length ks → l ≡ k → P) → P
last-or P [] l zero k is had last = let same : l ≡ k = cc in last refl same
last-or P [] l (suc place) k is had last = absurd (let no : ⊥ = cc in no)
last-or P (m ∷ ks) l zero k is had last = had is
last-or P (m ∷ ks) l (suc place) k is had last = last-or P ks l place k is had (λ at same. last (ap suc at) same)

-- also where one comes last
pub distinct-more : (x : Carrier) (m : ℕ) (ks : List Marked) → AreDistinct ks → place_at x ks ≡ None → AreDistinct (ks ++ (x, m) ∷ [])
distinct-more x m ks distinct nowhere place k is =
    place-last x k.0 m ks nowhere
    ∙ last-or ((if is_same x k.0 then Some (length ks) else place_at k.0 ks) ≡ Some place) ks (x, m) place k is
    (λ had. before (is_same x k.0) refl had)
    (λ at same.
    ap (λ (b : Bool). if b then Some (length ks) else place_at k.0 ks) (ap (is_same x) (ap (λ (w : Marked). w.0) (sym same)) ∙ same_self x) ∙ ap Some (sym at))
  where
    before : (b : Bool) → is_same x k.0 ≡ b → slice_get ks place ≡ Some k → (if is_same x k.0 then Some (length ks) else place_at k.0 ks) ≡ Some place
    before true e had =
        let none : ◌≡◌ {A = Option ℕ} (Some place) None = sym (distinct place k had) ∙ ap (λ (c : Carrier). place_at c ks) (sym (same_is x k.0 e)) ∙ nowhere in
        absurd (let no : ⊥ = cc in no)
    before false e had = ap (λ (b : Bool). if b then Some (length ks) else place_at k.0 ks) e ∙ distinct place k had
