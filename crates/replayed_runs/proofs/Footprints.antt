-- What the last event of a core read, by the footprints that are kept.
use Rattle.std.proofs.Common.{arith, ◌≡◌, ◌∙◌, ◌++◌, ◌∷◌, [], ◌+◌, ◌-◌, ℕ, List, map, length, take, get_or, refl, sym, ap}
use Rattle.std.proofs.lemmas.List.{length-append}
use Rattle.kernel_model.specs.Entries.{Entry}
use Rattle.kernel_model.specs.declared.carrier.Carrier.TheVariants.{Proc}
use Rattle.kernel_model.specs.declared.event.Event.{Event}
use Rattle.kernel_model.specs.declared.event.Event.TheVariants.{Enter}
use Rattle.footprints.specs.Footprints.{AreFootprints, enters_among, footprint_by, footprint_of, footprints_after}
use Rattle.footprints.specs.Kept.{no_footprint}
use Rattle.footprints.proofs.Logs.{enters_grown, footprint_at}

-- the element after a list
at_end : {X : Type 0} (xs : List X) (x d : X) → get_or (xs ++ x ∷ []) (length xs) d ≡ x
at_end [] x d = refl
at_end (y ∷ ys) x d = at_end ys x d

front : {X : Type 0} (xs ys : List X) → take (length xs) (xs ++ ys) ≡ xs
front [] ys = refl
front {X = X} (x ∷ xs) ys = ap (λ (zs : List X). x ∷ zs) (front xs ys)

mapped_end : (log : List Entry) (e d : Entry) → get_or (map footprint_of (log ++ e ∷ [])) (length log) d ≡ footprint_of e
mapped_end [] e d = refl
mapped_end (x ∷ xs) e d = mapped_end xs e d

module _ (es : List Event) (p : ℕ) (log : List Entry) (e : Entry) (kept : List Entry) (as_long : length log ≡ length es)
    (are : AreFootprints (es ++ Enter p ∷ []) (log ++ e ∷ []) kept) where
  -- one is kept of the Enter
  pub one_kept : length kept ≡ enters_among es + 1
  one_kept = are.0 ∙ enters_grown es (Enter p)

  -- the last Enter read its process, and what is kept of it last
  pub last_read : e.reads ≡ Proc p ∷ (get_or kept (length kept - 1) no_footprint).reads
  last_read =
      let many = length-append es (Enter p ∷ []) in
      let at = footprint_at (es ++ Enter p ∷ []) 0 kept (length es) (Enter p) (omega (arith, many)) in
      let last : length kept - 1 ≡ 0 + enters_among (take (length es) (es ++ Enter p ∷ [])) =
      omega (arith, one_kept, ap enters_among (front es (Enter p ∷ []))) in
      let noted : get_or (footprints_after 0 (es ++ Enter p ∷ []) kept) (length es) no_footprint ≡ footprint_of e =
      ap (λ (fs : List Entry). get_or fs (length es) no_footprint) are.1
      ∙ ap (λ (k : ℕ). get_or (map footprint_of (log ++ e ∷ [])) k no_footprint) (sym as_long)
      ∙ mapped_end log e no_footprint in
      ap (λ (x : Entry). x.reads) (sym noted ∙ at)
      ∙ ap (λ (x : Event). (footprint_by x (get_or kept (0 + enters_among (take (length es) (es ++ Enter p ∷ []))) no_footprint)).reads) (at_end es (Enter p) (Enter p))
      ∙ ap (λ (k : ℕ). Proc p ∷ (get_or kept k no_footprint).reads) (sym last)
