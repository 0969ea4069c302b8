-- The carriers of a footprint stand where its ends say, and it keeps its name, also after more were noted.
use Rattle.std.proofs.Common.{append-nil, append_assoc, ◌≡◌, ℕ, zero, suc, ◌+◌, ◌-◌, ◌<◌, ◌≤◌, List, [], ◌∷◌, ◌++◌, length, take, drop, get_or, refl, sym, ap, ◌∙◌, arith}
use Rattle.std.specs.List.{AllByRecursion}
use Rattle.std.proofs.lemmas.List.{length-append, length-drop, length-map, map-append, get_or_append_left, take-append-le, drop-append-le, take_all}
use Rattle.std.proofs.Math.Seq.{drop-append-add, drop-append_seam, take-append_seam, get_or-append_seam}
use Rattle.disk_model.proofs.Lists.{each_append, each_more}
use Rattle.kernel_model.specs.Entries.{Entry}
use Rattle.kernel_model.specs.declared.carrier.Carrier.{Carrier}
use Rattle.kernel_laws.specs.Cones.{IsBeginningOf}
use Rattle.footprints.specs.Kept.{footprint, no_footprint, part, footprint_in, footprints_in, footprints_named, no_ends, IsWithin, AreWithin, IsPlaced, IsNamed}
use Rattle.footprints.specs.declared.footprints.Ends.{Ends}

pub kept_length : (es : List Ends) (cs : List Carrier) → length (footprints_in cs es) ≡ length es
kept_length es cs = length-map es (footprint_in cs)

pub kept_at : (es : List Ends) (cs : List Carrier) (i : ℕ) → i < length es → get_or (footprints_in cs es) i no_footprint ≡ footprint_in cs (get_or es i no_ends)
kept_at [] cs i h = absurd (let no : ⊥ = omega arith in no)
kept_at (e ∷ es) cs zero h = refl
kept_at (e ∷ es) cs (suc i) h = kept_at es cs i (omega arith)

pub within_at : (es : List Ends) (many i : ℕ) → AreWithin many es → i < length es → IsWithin many (get_or es i no_ends)
within_at [] many i h less = absurd (let no : ⊥ = omega arith in no)
within_at (e ∷ es) many zero h less = h.0
within_at (e ∷ es) many (suc i) h less = within_at es many i h.1 (omega arith)

-- ---- more
part_kept : (from to : ℕ) (cs more : List Carrier) → from ≤ to → to ≤ length cs → part from to (cs ++ more) ≡ part from to cs
part_kept from to cs more le most =
    ap (take (to - from)) (drop-append-le from cs more (omega (arith, le, most)))
    ∙ take-append-le (to - from) (drop from cs) more (omega (arith, le, most, length-drop from cs))

one_stays : (e : Ends) (cs more : List Carrier) → IsWithin (length cs) e → footprint_in (cs ++ more) e ≡ footprint_in cs e
one_stays e cs more h =
    ap (λ (xs : List Carrier). footprint xs (part e.reads e.writes (cs ++ more))) (part_kept e.from e.reads cs more h.starts (omega (arith, h.reads, h.writes)))
    ∙ ap (λ (ys : List Carrier). footprint (part e.from e.reads cs) ys) (part_kept e.reads e.writes cs more h.reads h.writes)

kept_stay : (es : List Ends) (cs more : List Carrier) → AreWithin (length cs) es → footprints_in (cs ++ more) es ≡ footprints_in cs es
kept_stay [] cs more h = refl
kept_stay (e ∷ es) cs more h =
    ap (λ (x : Entry). x ∷ footprints_in (cs ++ more) es) (one_stays e cs more h.0) ∙ ap (λ (xs : List Entry). footprint_in cs e ∷ xs) (kept_stay es cs more h.1)

kept_last : (es : List Ends) (cs : List Carrier) (e : Ends) → footprints_in cs (es ++ e ∷ []) ≡ footprints_in cs es ++ footprint_in cs e ∷ []
kept_last [] cs e = refl
kept_last (x ∷ es) cs e = ap (λ (xs : List Entry). footprint_in cs x ∷ xs) (kept_last es cs e)

-- one more Enter
pub kept_more : (es : List Ends) (cs after : List Carrier) (e : Ends) (noted : Entry) → AreWithin (length cs) es → IsPlaced cs after e noted
    → footprints_in after (es ++ e ∷ []) ≡ footprints_in cs es ++ noted ∷ []
kept_more es cs after e noted h placed =
    kept_last es after e
    ∙ ap (λ (zs : List Carrier). footprints_in zs es ++ footprint_in after e ∷ []) placed.stay.is
    ∙ ap (λ (xs : List Entry). xs ++ footprint_in after e ∷ []) (kept_stay es cs placed.stay.rest h)
    ∙ ap (λ (x : Entry). footprints_in cs es ++ x ∷ []) placed.is

widen : (many more : ℕ) → many ≤ more → (e : Ends) → IsWithin many e → IsWithin more e
widen many more le e h = record { starts = h.starts; reads = h.reads; writes = omega (arith, le, h.writes) }

pub within_more : (es : List Ends) (cs after : List Carrier) (e : Ends) (noted : Entry) → AreWithin (length cs) es → IsPlaced cs after e noted
    → AreWithin (length after) (es ++ e ∷ [])
within_more es cs after e noted h placed =
    let longer : length cs ≤ length after = let all = ap (λ (zs : List Carrier). length zs) placed.stay.is in omega (arith, all, length-append cs placed.stay.rest) in
    each_append (IsWithin (length after)) es (e ∷ []) (each_more (IsWithin (length cs)) (IsWithin (length after)) (widen (length cs) (length after) longer) es h) (placed.within, tt)

-- ---- where a footprint is placed
part_first : (cs rs ws : List Carrier) (from to : ℕ) → from ≡ length cs → to ≡ length cs + length rs → part from to (cs ++ (rs ++ ws)) ≡ rs
part_first cs rs ws from to f t =
    let size : to - from ≡ length rs = omega (arith, f, t) in
    ap (λ (n : ℕ). take n (drop from (cs ++ (rs ++ ws)))) size
    ∙ ap (λ (n : ℕ). take (length rs) (drop n (cs ++ (rs ++ ws)))) f
    ∙ ap (take (length rs)) (drop-append_seam cs (rs ++ ws))
    ∙ take-append_seam rs ws

part_last : (cs rs ws : List Carrier) (from to : ℕ) → from ≡ length cs + length rs → to ≡ length cs + length rs + length ws → part from to (cs ++ (rs ++ ws)) ≡ ws
part_last cs rs ws from to f t =
    let size : to - from ≡ length ws = omega (arith, f, t) in
    ap (λ (n : ℕ). take n (drop from (cs ++ (rs ++ ws)))) size
    ∙ ap (λ (n : ℕ). take (length ws) (drop n (cs ++ (rs ++ ws)))) f
    ∙ ap (take (length ws)) (drop-append-add cs (rs ++ ws) (length rs) ∙ drop-append_seam rs ws)
    ∙ take_all (length ws) ws (omega arith)

-- last, where the reads end after themselves, and the writes after both
pub placed_last : (cs rs ws between after : List Carrier) (from reads writes : ℕ) → between ≡ cs ++ rs → after ≡ between ++ ws → from ≡ length cs → reads ≡ length between → writes ≡ length after
    → IsPlaced cs after (record { from = from; reads = reads; writes = writes }) (footprint rs ws)
placed_last cs rs ws between after from reads writes b a f r w =
    let all : after ≡ cs ++ (rs ++ ws) = a ∙ ap (λ (zs : List Carrier). zs ++ ws) b ∙ append_assoc cs rs ws in
    let read_to : reads ≡ length cs + length rs = r ∙ ap (λ (zs : List Carrier). length zs) b ∙ length-append cs rs in
    let written_to : writes ≡ length cs + length rs + length ws = let long = w ∙ ap (λ (zs : List Carrier). length zs) a in omega (arith, long, r, read_to, length-append between ws) in
    record {
      stay = record { rest = rs ++ ws; is = all };
      within = record { starts = omega (arith, f, read_to); reads = omega (arith, read_to, written_to); writes = omega (arith, w) };
      is = ap (λ (zs : List Carrier). footprint (part from reads zs) (part reads writes zs)) all
          ∙ ap (λ (xs : List Carrier). footprint xs (part reads writes (cs ++ (rs ++ ws)))) (part_first cs rs ws from reads f read_to)
          ∙ ap (λ (ys : List Carrier). footprint rs ys) (part_last cs rs ws reads writes read_to written_to);
    }

-- ---- names
-- one that stands already
pub named_there : (es : List Ends) (cs : List Carrier) (name : ℕ) (noted : Entry) → name < length es → footprint_in cs (get_or es name no_ends) ≡ noted
    → IsNamed (footprints_in cs es) (footprints_in cs es) name noted
named_there es cs name noted less is = record {
  stay = record { rest = []; is = sym (append-nil (footprints_in cs es)) };
  there = omega (arith, less, kept_length es cs);
  is = kept_at es cs name less ∙ is;
}

-- one that comes last
pub named_last : (es later : List Ends) (cs after : List Carrier) (e : Ends) (name : ℕ) (noted : Entry) → AreWithin (length cs) es → IsPlaced cs after e noted
    → later ≡ es ++ e ∷ [] → name ≡ length es → IsNamed (footprints_in cs es) (footprints_in after later) name noted
named_last es later cs after e name noted h placed last is_last =
    let all : footprints_in after later ≡ footprints_in cs es ++ noted ∷ [] = ap (footprints_in after) last ∙ kept_more es cs after e noted h placed in
    let at : name ≡ length (footprints_in cs es) = is_last ∙ sym (kept_length es cs) in
    record {
      stay = record { rest = noted ∷ []; is = all };
      there = let size = ap (λ (xs : List Entry). length xs) all in omega (arith, at, size, length-append (footprints_in cs es) (noted ∷ []));
      is = ap (λ (xs : List Entry). get_or xs name no_footprint) all ∙ ap (λ (i : ℕ). get_or (footprints_in cs es ++ noted ∷ []) i no_footprint) at
          ∙ get_or-append_seam (footprints_in cs es) noted [] no_footprint;
    }

-- what has a name keeps it
names_stay : (names : List ℕ) (before after : List Entry) → IsBeginningOf before after → AllByRecursion (λ name. name < length before) names
    → footprints_named after names ≡ footprints_named before names
names_stay [] before after h all = refl
names_stay (n ∷ ns) before after h all =
    ap (λ (x : Entry). x ∷ footprints_named after ns) (ap (λ (xs : List Entry). get_or xs n no_footprint) h.is ∙ get_or_append_left before h.rest no_footprint n all.0)
    ∙ ap (λ (xs : List Entry). get_or before n no_footprint ∷ xs) (names_stay ns before after h all.1)

-- one Enter more
module _ (names : List ℕ) (cs : List Carrier) (es : List Ends) (after : List Entry) (name : ℕ) (noted : Entry) (all : AllByRecursion (λ n. n < length es) names)
    (h : IsNamed (footprints_in cs es) after name noted) where
  all_before : AllByRecursion (λ n. n < length (footprints_in cs es)) names
  all_before = each_more (λ n. n < length es) (λ n. n < length (footprints_in cs es)) (λ n less. omega (arith, less, kept_length es cs)) names all

  pub named_more : footprints_named after (names ++ name ∷ []) ≡ footprints_named (footprints_in cs es) names ++ noted ∷ []
  named_more =
      map-append (λ n. get_or after n no_footprint) names (name ∷ [])
      ∙ ap (λ (xs : List Entry). xs ++ get_or after name no_footprint ∷ []) (names_stay names (footprints_in cs es) after h.stay all_before)
      ∙ ap (λ (x : Entry). footprints_named (footprints_in cs es) names ++ x ∷ []) h.is

  all_named : AllByRecursion (λ n. n < length after) (names ++ name ∷ [])
  all_named =
      let longer : length (footprints_in cs es) ≤ length after = let size = ap (λ (xs : List Entry). length xs) h.stay.is in omega (arith, size, length-append (footprints_in cs es) h.stay.rest) in
      each_append (λ n. n < length after) names (name ∷ []) (each_more (λ n. n < length (footprints_in cs es)) (λ n. n < length after) (λ n less. omega (arith, less, longer)) names all_before) (h.there, tt)

-- the names of before and the next one are those of the ends of after
pub names_within : (names : List ℕ) (cs cs_after : List Carrier) (es es_after : List Ends) (name : ℕ) (noted : Entry) → AllByRecursion (λ n. n < length es) names
    → IsNamed (footprints_in cs es) (footprints_in cs_after es_after) name noted → AllByRecursion (λ n. n < length es_after) (names ++ name ∷ [])
names_within names cs cs_after es es_after name noted all h =
    each_more (λ n. n < length (footprints_in cs_after es_after)) (λ n. n < length es_after) (λ n less. omega (arith, less, kept_length es_after cs_after)) (names ++ name ∷ [])
    (all_named names cs es (footprints_in cs_after es_after) name noted all h)
