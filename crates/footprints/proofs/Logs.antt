-- The footprints of events, by those that are kept of Enters, are those of their log; and a log's cone is that of its footprints.
use Rattle.std.proofs.Common.{◌≡◌, ℕ, zero, suc, ◌+◌, ◌-◌, ◌<◌, ◌≤◌, Bool, true, List, [], ◌∷◌, ◌++◌, length, map, take, get_or, slice_get, Some, refl, sym, ap, subst, ◌∙◌, arith, add-zero, append-nil, length-append}
use Rattle.std.specs.Prelude.{if◌then◌else◌}
use Rattle.std.proofs.lemmas.List.{length-map, get_or_append_left, map-append}
use Rattle.std.proofs.Math.Seq.{get_or-append_seam}
use Rattle.std.proofs.lemmas.List.Sums.{sum_by-cons}
use Rattle.kernel_model.specs.Entries.{Entry, meets}
use Rattle.kernel_model.specs.Paths.{wanted}
use Rattle.kernel_model.specs.declared.carrier.Carrier.{Carrier}
use Rattle.kernel_model.specs.declared.carrier.Carrier.TheVariants.{Proc}
use Rattle.kernel_model.specs.declared.event.Event.{Event}
use Rattle.kernel_model.specs.declared.event.Event.TheVariants.{Turn, Enter, Cut, Complete, Fail}
use Rattle.kernel_laws.specs.Cones.{path_flags, cone_numbers, numbers_selected}
use Rattle.footprints.specs.Footprints.{footprint_of, enter_count, enters_among, footprint_by, footprints_after, AreFootprints, AreTheCone, IsOfDisk}
use Rattle.footprints.specs.Kept.{footprint, no_footprint}
use Rattle.footprints.proofs.Walking.{cone_by}

-- ---- one event's footprint
pub enters_next : (e : Event) (es : List Event) → enters_among (e ∷ es) ≡ enter_count e + enters_among es
enters_next e es = sum_by-cons enter_count e es

pub after_length : (es : List Event) (k : ℕ) (kept : List Entry) → length (footprints_after k es kept) ≡ length es
after_length [] k kept = refl
after_length (e ∷ es) k kept = ap suc (after_length es (k + enter_count e) kept)

pub footprint_at : (es : List Event) (k : ℕ) (kept : List Entry) (i : ℕ) (d : Event) → i < length es
    → get_or (footprints_after k es kept) i no_footprint ≡ footprint_by (get_or es i d) (get_or kept (k + enters_among (take i es)) no_footprint)
footprint_at [] k kept i d h = absurd (let no : ⊥ = omega arith in no)
footprint_at (e ∷ es) k kept zero d h = ap (λ (j : ℕ). footprint_by e (get_or kept j no_footprint)) (sym (add-zero k))
footprint_at (e ∷ es) k kept (suc i) d h =
    let place : k + enter_count e + enters_among (take i es) ≡ k + enters_among (take (suc i) (e ∷ es)) = omega (arith, enters_next e (take i es)) in
    footprint_at es (k + enter_count e) kept i d (omega arith)
    ∙ ap (λ (j : ℕ). footprint_by (get_or es i d) (get_or kept j no_footprint)) place

-- ---- a log that grows
-- so many Enters are among the events and one more
pub enters_grown : (es : List Event) (e : Event) → enters_among (es ++ e ∷ []) ≡ enters_among es + enter_count e
enters_grown [] e = let none : enters_among [] ≡ 0 = refl in omega (arith, enters_next e [], none)
enters_grown (x ∷ xs) e = omega (arith, enters_next x (xs ++ e ∷ []), enters_next x xs, enters_grown xs e)

-- an Enter's footprint stands where it stood
same_kept : (x : Event) (kept more : List Entry) (k m : ℕ) → k + (enter_count x + m) ≤ length kept
    → footprint_by x (get_or (kept ++ more) k no_footprint) ≡ footprint_by x (get_or kept k no_footprint)
same_kept (Turn pid n) kept more k m h = refl
same_kept (Enter pid) kept more k m h = ap (footprint_by (Enter pid)) (get_or_append_left kept more no_footprint k (omega (arith, h)))
same_kept Cut kept more k m h = refl
same_kept (Complete at) kept more k m h = refl
same_kept (Fail at) kept more k m h = refl

-- the footprints of events and one more, where more may be kept
after_grown : (es : List Event) (k : ℕ) (kept more : List Entry) (e : Event) → k + enters_among es ≤ length kept
    → footprints_after k (es ++ e ∷ []) (kept ++ more) ≡ footprints_after k es kept ++ footprint_by e (get_or (kept ++ more) (k + enters_among es) no_footprint) ∷ []
after_grown [] k kept more e h = ap (λ (j : ℕ). footprint_by e (get_or (kept ++ more) j no_footprint) ∷ []) (sym (add-zero k))
after_grown (x ∷ xs) k kept more e h =
    let next = enters_next x xs in
    let place : k + enter_count x + enters_among xs ≡ k + enters_among (x ∷ xs) = omega (arith, next) in
    ap (λ (y : Entry). y ∷ footprints_after (k + enter_count x) (xs ++ e ∷ []) (kept ++ more)) (same_kept x kept more k (enters_among xs) (omega (arith, next, h)))
    ∙ ap (λ (ys : List Entry). footprint_by x (get_or kept k no_footprint) ∷ ys) (after_grown xs (k + enter_count x) kept more e (omega (arith, next, h)))
    ∙ ap (λ (j : ℕ). footprints_after k (x ∷ xs) kept ++ footprint_by e (get_or (kept ++ more) j no_footprint) ∷ []) place

grown : (events : List Event) (log kept more : List Entry) (e : Event) (x : Entry) → AreFootprints events log kept → length more ≡ enter_count e
    → footprint_by e (get_or (kept ++ more) (length kept) no_footprint) ≡ footprint_of x → AreFootprints (events ++ e ∷ []) (log ++ x ∷ []) (kept ++ more)
grown events log kept more e x h many is =
    let count : 0 + enters_among events ≡ length kept = omega (arith, h.0) in (
      omega (arith, length-append kept more, h.0, many, enters_grown events e),
      after_grown events 0 kept more e (omega (arith, h.0))
          ∙ ap (λ (j : ℕ). footprints_after 0 events kept ++ footprint_by e (get_or (kept ++ more) j no_footprint) ∷ []) count
          ∙ ap (λ (y : Entry). footprints_after 0 events kept ++ y ∷ []) is
          ∙ ap (λ (ys : List Entry). ys ++ footprint_of x ∷ []) h.1
          ∙ sym (map-append footprint_of log (x ∷ [])),
    )

footprint_is : (x : Entry) (reads writes : List Carrier) → x.reads ≡ reads → x.writes ≡ writes → footprint reads writes ≡ footprint_of x
footprint_is x reads writes r w = ap (λ (rs : List Carrier). footprint rs writes) (sym r) ∙ ap (λ (ws : List Carrier). footprint x.reads ws) (sym w)

nothing_more : (events : List Event) (log kept : List Entry) → AreFootprints events log (kept ++ []) → AreFootprints events log kept
nothing_more events log kept h = subst (λ (ks : List Entry). AreFootprints events log ks) (append-nil kept) h

pub none_kept : AreFootprints [] [] []
none_kept = (refl, refl)

pub turn_kept : (events : List Event) (log kept : List Entry) (pid n : ℕ) (x : Entry) → AreFootprints events log kept
    → x.reads ≡ Proc pid ∷ [] → x.writes ≡ Proc pid ∷ [] → AreFootprints (events ++ Turn pid n ∷ []) (log ++ x ∷ []) kept
turn_kept events log kept pid n x h r w =
    nothing_more (events ++ Turn pid n ∷ []) (log ++ x ∷ []) kept (grown events log kept [] (Turn pid n) x h refl (footprint_is x (Proc pid ∷ []) (Proc pid ∷ []) r w))

pub enter_kept : (events : List Event) (log kept : List Entry) (pid : ℕ) (reads : List Carrier) (x : Entry) → AreFootprints events log kept
    → x.reads ≡ Proc pid ∷ reads → AreFootprints (events ++ Enter pid ∷ []) (log ++ x ∷ []) (kept ++ footprint reads x.writes ∷ [])
enter_kept events log kept pid reads x h r =
    grown events log kept (footprint reads x.writes ∷ []) (Enter pid) x h refl
    (ap (footprint_by (Enter pid)) (get_or-append_seam kept (footprint reads x.writes) [] no_footprint) ∙ footprint_is x (Proc pid ∷ reads) x.writes r refl)

disk_is : (e : Event) (f x : Entry) → IsOfDisk e → x.reads ≡ [] → x.writes ≡ [] → footprint_by e f ≡ footprint_of x
disk_is (Turn pid n) f x of r w = absurd of
disk_is (Enter pid) f x of r w = absurd of
disk_is Cut f x of r w = footprint_is x [] [] r w
disk_is (Complete at) f x of r w = footprint_is x [] [] r w
disk_is (Fail at) f x of r w = footprint_is x [] [] r w

disk_count : (e : Event) → IsOfDisk e → 0 ≡ enter_count e
disk_count (Turn pid n) of = absurd of
disk_count (Enter pid) of = absurd of
disk_count Cut of = refl
disk_count (Complete at) of = refl
disk_count (Fail at) of = refl

pub disk_kept : (events : List Event) (log kept : List Entry) (e : Event) (x : Entry) → AreFootprints events log kept
    → IsOfDisk e → x.reads ≡ [] → x.writes ≡ [] → AreFootprints (events ++ e ∷ []) (log ++ x ∷ []) kept
disk_kept events log kept e x h of r w =
    nothing_more (events ++ e ∷ []) (log ++ x ∷ []) kept (grown events log kept [] e x h (disk_count e of) (disk_is e _ x of r w))

-- ---- a log's cone
wanted_same : (log : List Entry) (rs : List Carrier) → wanted (map footprint_of log) rs ≡ wanted log rs
wanted_same [] rs = refl
wanted_same (e ∷ es) rs = ap (λ (later : List Carrier). if meets e.writes later then later ++ e.reads else later) (wanted_same es rs)

flags_same : (log : List Entry) (rs : List Carrier) → path_flags (map footprint_of log) rs ≡ path_flags log rs
flags_same [] rs = refl
flags_same (e ∷ es) rs =
    ap (λ (later : List Carrier). meets e.writes later ∷ path_flags (map footprint_of es) rs) (wanted_same es rs)
    ∙ ap (λ (flags : List Bool). meets e.writes (wanted es rs) ∷ flags) (flags_same es rs)

take_same : (n : ℕ) (log : List Entry) → take n (map footprint_of log) ≡ map footprint_of (take n log)
take_same zero log = refl
take_same (suc n) [] = refl
take_same (suc n) (e ∷ es) = ap (λ xs. footprint_of e ∷ xs) (take_same n es)

reads_same : (log : List Entry) (i : ℕ) (e : Entry) → slice_get log i ≡ Some e → (get_or (map footprint_of log) i no_footprint).reads ≡ e.reads
reads_same [] i e h = absurd (let no : ⊥ = cc in no)
reads_same (x ∷ xs) zero e h = let same : x ≡ e = cc in ap (λ (y : Entry). y.reads) same
reads_same (x ∷ xs) (suc i) e h = reads_same xs i e h

there_is : (log : List Entry) (i : ℕ) → i < length log → (e : Entry) × (slice_get log i ≡ Some e)
there_is [] i h = absurd (let no : ⊥ = omega arith in no)
there_is (e ∷ es) zero h = (e, refl)
there_is (e ∷ es) (suc i) h = there_is es i (omega arith)

pub in_cone : (events : List Event) (kept : List Entry) (n : ℕ) (numbers : List ℕ) → 1 ≤ n → n ≤ length events
    → numbers ≡ cone_by (footprints_after 0 events kept) n → AreTheCone events kept n numbers
in_cone events kept n numbers some there is log are =
    let long : length events ≡ length log = sym (after_length events 0 kept) ∙ ap (λ (xs : List Entry). length xs) are.1 ∙ length-map log footprint_of in
    let e = there_is log (n - 1) (omega (arith, some, there, long)) in
    is ∙ ap (λ (all : List Entry). cone_by all n) are.1
    ∙ ap (λ (rs : List Carrier). numbers_selected 1 (path_flags (take (n - 1) (map footprint_of log)) rs ++ true ∷ [])) (reads_same log (n - 1) e.0 e.1)
    ∙ ap (λ (xs : List Entry). numbers_selected 1 (path_flags xs e.0.reads ++ true ∷ [])) (take_same (n - 1) log)
    ∙ ap (λ (flags : List Bool). numbers_selected 1 (flags ++ true ∷ [])) (flags_same (take (n - 1) log) e.0.reads)
    ∙ ap (cone_numbers log n) (sym e.1)
