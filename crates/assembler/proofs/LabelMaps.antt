-- The finite map of labels, and the tree that holds them.
use Rattle.std.proofs.Common.{ℕ, ◌≡◌, List, [], ◌∷◌, Some, refl, sym, ap, ◌∙◌, cond}
use Rattle.std.specs.{Cmp.Lexicographic.slice_cmp, Cmp.eq_by_cmp_equiv, Ordering.nat_cmp, BTreeMap.is_at, Map.lookup}
use Rattle.std.specs.FinMap.{get, insert, find, from_entries, get-from_entries, get-insert, same_map, slice_cmp-IsAntisymmetric, nat_cmp-IsAntisymmetric}
use Rattle.std.proofs.lemmas.Cmp.{nat_list_cmp_total}
use denote.Ref.{Bor}
use Rattle.assembler.specs.{Labels.spots_by_name, declared.labels.Spot.Spot}

-- a look-up by bytes
find_named : (es : List (Bor (List ℕ) × Spot)) (q : List ℕ) → find (slice_cmp nat_cmp) q (spots_by_name es) ≡ lookup (is_at (λ (k : Bor (List ℕ)). slice_cmp nat_cmp q k.now)) es
find_named [] q = refl
find_named (e ∷ es) q = ap (cond (is_at (slice_cmp nat_cmp q) e.0.now) (Some e.1)) (find_named es q)

-- what the map has at a name
pub get_named : (es : List (Bor (List ℕ) × Spot)) (q : List ℕ) → get (from_entries {R = slice_cmp nat_cmp} (spots_by_name es)) q ≡ lookup (is_at (λ (k : Bor (List ℕ)). slice_cmp nat_cmp q k.now)) es
get_named es q = get-from_entries nat_list_cmp_total (spots_by_name es) q ∙ find_named es q

-- entries that differ at one name make maps that differ there
pub one_named : (es fs : List (Bor (List ℕ) × Spot)) (name : List ℕ) (spot : Spot) → ((q : Bor (List ℕ)) → lookup (is_at (λ (k : Bor (List ℕ)). slice_cmp nat_cmp q.now k.now)) fs ≡ cond (is_at (slice_cmp nat_cmp name) q.now) (Some spot) (lookup (is_at (λ (k : Bor (List ℕ)). slice_cmp nat_cmp q.now k.now)) es)) → from_entries {R = slice_cmp nat_cmp} (spots_by_name fs) ≡ insert (from_entries (spots_by_name es)) name spot
one_named es fs name spot h = same_map nat_list_cmp_total (slice_cmp-IsAntisymmetric nat_cmp-IsAntisymmetric) _ _ (λ q.
    let found = lookup (is_at (λ (k : Bor (List ℕ)). slice_cmp nat_cmp q k.now)) es in
    get_named fs q ∙ h (record { ref_ptr = (0, 0); now = q }) ∙ ap (λ b. cond b (Some spot) found) ((eq_by_cmp_equiv nat_list_cmp_total).symm name q)
    ∙ sym (get-insert nat_list_cmp_total (from_entries (spots_by_name es)) name spot q ∙ ap (cond (is_at (slice_cmp nat_cmp q) name) (Some spot)) (get_named es q)))
