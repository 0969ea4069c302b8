-- Two carriers are one where `==` says so, and so are two footprints.
use Rattle.std.proofs.lemmas.List.{take_more}
use Rattle.std.proofs.Common.{◌≡◌, ℕ, ◌+◌, ◌<◌, length, take, get_or, ◌||◌, ◌&&◌, Bool, true, false, cond, List, [], ◌∷◌, ◌++◌, refl, sym, ap, subst, ◌∙◌}
use Rattle.std.specs.Bool.{Decides}
use Rattle.std.specs.List.{list_any}
use Rattle.std.proofs.lemmas.Bool.{and_parts, and_from, false≢true}
use Rattle.std.proofs.lemmas.List.Folds.{list_any-append}
use Rattle.std.proofs.Math.Bool.{or-false, or_assoc, or_comm}
use Rattle.kernel_model.specs.declared.carrier.Carrier.{Carrier}
use Rattle.kernel_model.specs.contracts.carrier.CarrierPartialEq.TheImpl as carrier
use Rattle.kernel_model.specs.Entries.{Entry, is_same, is_among}
use Rattle.kernel_model.proofs.Meets.{same-eq, same_is, same_self, same_sym}
use Rattle.footprints.specs.Kept.{footprint}

pub same-Decides : (x y : Carrier) → Decides (carrier.ghosts.eq x y) (x ≡ y)
same-Decides x y = ((λ h. same_is x y (sym (same-eq x y) ∙ h)), (λ h. same-eq x y ∙ subst (λ (z : Carrier). is_same x z ≡ true) h (same_self x)))

-- a footprint is one where its reads and its writes are
pub footprint-Decides : (rs ws xs ys : List Carrier) (r w b : Bool) → Decides r (rs ≡ xs) → Decides w (ws ≡ ys) → b ≡ (r && w) → Decides b (footprint rs ws ≡ footprint xs ys)
footprint-Decides rs ws xs ys r w b dr dw is = (
  (λ h. let both = and_parts r w (sym is ∙ h) in ap (λ (zs : List Carrier). footprint zs ws) (dr.0 both.0) ∙ ap (λ (zs : List Carrier). footprint xs zs) (dw.0 both.1)),
  (λ h. is ∙ and_from r w (dr.1 (ap (λ (e : Entry). e.reads) h)) (dw.1 (ap (λ (e : Entry). e.writes) h))),
)

pub footprint-differs : (rs ws xs ys : List Carrier) (r : Bool) → r ≡ false → Decides r (rs ≡ xs) → Decides r (footprint rs ws ≡ footprint xs ys)
footprint-differs rs ws xs ys r is dr = ((λ h. absurd (false≢true (sym is ∙ h))), (λ h. dr.1 (ap (λ (e : Entry). e.reads) h)))

-- a set has what is among its keys, and what is put into it
pub has-among : (x : Carrier) (keys : List Carrier) → list_any (carrier.ghosts.eq x) keys ≡ is_among x keys
has-among x [] = refl
has-among x (k ∷ ks) = ap (λ b. b || list_any (carrier.ghosts.eq x) ks) (same-eq x k) ∙ ap (λ b. is_same x k || b) (has-among x ks)

as_or : (b c : Bool) → cond b true c ≡ (b || c)
as_or true c = refl
as_or false c = refl

-- one key more
pub has-more : (old new : List Carrier) (k : Carrier) → ((q : Carrier) → list_any (carrier.ghosts.eq q) new ≡ cond (carrier.ghosts.eq k q) true (list_any (carrier.ghosts.eq q) old))
    → (x : Carrier) → is_among x new ≡ (is_among x old || is_among x (k ∷ []))
has-more old new k h x =
    sym (has-among x new) ∙ h x ∙ as_or (carrier.ghosts.eq k x) (list_any (carrier.ghosts.eq x) old)
    ∙ ap (λ b. b || list_any (carrier.ghosts.eq x) old) (same-eq k x ∙ same_sym k x) ∙ ap (λ b. is_same x k || b) (has-among x old)
    ∙ or_comm (is_same x k) (is_among x old) ∙ ap (λ b. is_among x old || b) (sym (or-false (is_same x k)))

-- some, and then others
pub added-both : (start between after xs ys : List Carrier) → ((x : Carrier) → is_among x between ≡ (is_among x start || is_among x xs))
    → ((x : Carrier) → is_among x after ≡ (is_among x between || is_among x ys)) → (x : Carrier) → is_among x after ≡ (is_among x start || is_among x (xs ++ ys))
added-both start between after xs ys first then x =
    then x ∙ ap (λ b. b || is_among x ys) (first x) ∙ or_assoc (is_among x start) (is_among x xs) (is_among x ys)
    ∙ ap (λ b. is_among x start || b) (sym (list_any-append (is_same x) xs ys))

-- those so far, and the next
pub adding-next : (xs : List Carrier) (i : ℕ) (d : Carrier) (start before after : List Carrier) → i < length xs
    → ((x : Carrier) → is_among x before ≡ (is_among x start || is_among x (take i xs)))
    → ((x : Carrier) → is_among x after ≡ (is_among x before || is_among x (get_or xs i d ∷ [])))
    → (x : Carrier) → is_among x after ≡ (is_among x start || is_among x (take (i + 1) xs))
adding-next xs i d start before after less so_far added x =
    added-both start before after (take i xs) (get_or xs i d ∷ []) so_far added x
    ∙ sym (ap (λ (ys : List Carrier). is_among x start || is_among x ys) (take_more xs i d less))
