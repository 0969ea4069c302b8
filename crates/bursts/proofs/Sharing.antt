-- What shares add up to, taken from the end of their list.
use Rattle.std.proofs.Common.{◌≡◌, ◌+◌, ◌∙◌, refl, sym, ap, List, [], ◌∷◌, ◌++◌, arith}
use Rattle.bursts.specs.declared.totals.Totals.{Totals}
use Rattle.bursts.specs.Totals.{plus}
use Rattle.bursts.specs.Holdings.{Holding, Sum, with_share, with_shares, parts_in, sum_of}

parts-push : (hs : List Holding) (h : Holding) → parts_in (hs ++ h ∷ []) ≡ parts_in hs + h.parts
parts-push [] h = omega arith
parts-push (x ∷ hs) h = let step = parts-push hs h in omega arith

same_totals : (a b : Totals) → a.events ≡ b.events → a.ran ≡ b.ran → a.turns ≡ b.turns → a.enters ≡ b.enters → a ≡ b
same_totals a b p q r s = λ i. record { events = p i; ran = q i; turns = r i; enters = s i }

sum-push : (hs : List Holding) (h : Holding) → sum_of (hs ++ h ∷ []) ≡ plus h.totals (sum_of hs)
sum-push [] h = refl
sum-push (x ∷ hs) h =
    let step = sum-push hs h in
    let a = ap (λ (t : Totals). t.events) step in
    let b = ap (λ (t : Totals). t.ran) step in
    let c = ap (λ (t : Totals). t.turns) step in
    let d = ap (λ (t : Totals). t.enters) step in
    same_totals _ _ (omega arith) (omega arith) (omega arith) (omega arith)

pub one_more : (all : Sum) (hs rest : List Holding) (h : Holding) → hs ≡ rest ++ h ∷ [] → with_shares (with_share all h) rest ≡ with_shares all hs
one_more all hs rest h is =
    let step = sum-push rest h in
    let a = ap (λ (t : Totals). t.events) step in
    let b = ap (λ (t : Totals). t.ran) step in
    let c = ap (λ (t : Totals). t.turns) step in
    let d = ap (λ (t : Totals). t.enters) step in
    (λ i. record {
      parts = the_parts i;
      totals = same_totals (plus (plus all.totals h.totals) (sum_of rest)) (plus all.totals (sum_of (rest ++ h ∷ []))) (omega arith) (omega arith) (omega arith) (omega arith) i;
    }) ∙ ap (with_shares all) (sym is)
  where
    the_parts : (all.parts + h.parts) + parts_in rest ≡ all.parts + parts_in (rest ++ h ∷ [])
    the_parts = let parts = parts-push rest h in omega arith
