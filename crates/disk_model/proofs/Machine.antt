-- Each event of the disk keeps: whatever a crash leaves holds the old files or the new ones.
use Rattle.std.proofs.Common.{◌≡◌, ℕ, ◌+◌, ◌-◌, ◌<◌, ◌≤◌, inl, inr, ◌⊎◌, Bool, true, false, List, [], ◌∷◌, ◌++◌, length, get_or, Option, Some, None, refl, sym, ap, subst, ◌∙◌, arith}
use Rattle.std.specs.Prelude.{if◌then◌else◌}
use Rattle.std.proofs.lemmas.Bool.{cases_lt, and_parts, and_left, and_right}
use Rattle.std.specs.List.{AllByRecursion}
use Rattle.std.proofs.lemmas.List.{ext_get_or}
use Rattle.disk_model.specs.declared.change.NamedFile.{NamedFile}
use Rattle.disk_model.specs.Held.{HasBytes, IsHeldTo}
use Rattle.disk_model.specs.declared.change.Piece.{Piece}
use Rattle.disk_model.specs.Storage.{Storage, overwritten, with_completion, sent, is_empty, is_quiet, without, piece_at, completed, completed_by, failed, failed_by, next_stage}
use Rattle.disk_model.specs.Crash.{InRange, IsSameBut, IsCrashOf}
use Rattle.disk_model.proofs.Places.{over_in, over_length, Carried, taken, taken_all, same_less, same_then, in_left, in_right, in_either, over_below, over_above}
use Rattle.disk_model.proofs.Stages.{AtRest, Either, Safe, Ready}

-- nothing is in flight
pub record Resting (st : Storage) (files : List NamedFile) : Type 0 where
  pub in_flight : st.device.in_flight ≡ []
  pub failed : st.device.failed ≡ []
  pub at_rest : AtRest st.device.disk st.half st.gate files

-- The disk is on the way to its goal: there it is already, outside the ranges in flight and failed.
pub record Writing (st : Storage) (goal : List ℕ) (old new : List NamedFile) : Type 0 where
  pub busy : is_quiet st.device ≡ false
  pub same : IsSameBut (st.device.in_flight ++ st.device.failed) goal st.device.disk
  pub carried : AllByRecursion (Carried goal) st.device.in_flight
  pub safe : Safe (st.device.in_flight ++ st.device.failed) goal old new
  pub ready : Ready st.stages goal st.next_half st.next_gate old new

abbrev pub Sound : Storage → List NamedFile → List NamedFile → Type 0
Sound st old new = Resting st old ⊎ ((goal : List ℕ) × Writing st goal old new)

pub all_same : (a b : List ℕ) → IsSameBut [] a b → b ≡ a
all_same a b s = ext_get_or 0 b a s.size (λ i lt. s.same i (λ h. h))

pub same_sym : (ps : List Piece) (a b : List ℕ) → IsSameBut ps a b → IsSameBut ps b a
same_sym ps a b s = record { size = sym s.size; same = λ i out. sym (s.same i out) }

-- whatever a crash leaves
pub sound_crash : (st : Storage) (old new : List NamedFile) → Sound st old new → (left : List ℕ) → IsCrashOf st.device left → Either old new left
sound_crash st old new (inl rest) left crash =
    let same : IsSameBut [] st.device.disk left = subst (λ (ps : List Piece). IsSameBut ps st.device.disk left) (ap (λ (ps : List Piece). ps ++ st.device.failed) rest.in_flight ∙ rest.failed) crash in
    inl (st.gate, subst (λ (d : List ℕ). IsHeldTo d st.gate old) (sym (all_same st.device.disk left same)) rest.at_rest.held)
sound_crash st old new (inr (goal, w)) left crash = w.safe left (same_then (st.device.in_flight ++ st.device.failed) goal st.device.disk left w.same crash)

-- ---- a failure
pub failed_sound : (st : Storage) (old new : List NamedFile) (at : ℕ) → Sound st old new → Sound (failed st at) old new
failed_sound st old new at s = go (piece_at st.device.in_flight at) refl s
  where
    go : (o : Option Piece) → piece_at st.device.in_flight at ≡ o → Sound st old new → Sound (failed_by st at o) old new
    go None e h = h
    go (Some p) e (inl rest) = let none : piece_at [] at ≡ Some p = subst (λ (ps : List Piece). piece_at ps at ≡ Some p) rest.in_flight e in absurd cc
    go (Some p) e (inr (goal, w)) =
        let t = taken st.device.in_flight at p e in
        let all = taken_all (Carried goal) st.device.in_flight at p e w.carried in
        let fewer : (i : ℕ) → InRange (st.device.in_flight ++ st.device.failed) i → InRange (without st.device.in_flight at ++ (st.device.failed ++ p ∷ [])) i = λ i h. elim (in_either st.device.in_flight st.device.failed i h) as (λ _. InRange (without st.device.in_flight at ++ (st.device.failed ++ p ∷ [])) i) [
          | inl a ↦ elim (t.parts i a) as (λ _. InRange (without st.device.in_flight at ++ (st.device.failed ++ p ∷ [])) i) [
            | inl b ↦ in_right (without st.device.in_flight at) (st.device.failed ++ p ∷ []) i (in_right st.device.failed (p ∷ []) i (inl b))
            | inr c ↦ in_left (without st.device.in_flight at) (st.device.failed ++ p ∷ []) i c
          ]
          | inr b ↦ in_right (without st.device.in_flight at) (st.device.failed ++ p ∷ []) i (in_left st.device.failed (p ∷ []) i b)
        ] in
        let more : (i : ℕ) → InRange (without st.device.in_flight at ++ (st.device.failed ++ p ∷ [])) i → InRange (st.device.in_flight ++ st.device.failed) i = λ i h. elim (in_either (without st.device.in_flight at) (st.device.failed ++ p ∷ []) i h) as (λ _. InRange (st.device.in_flight ++ st.device.failed) i) [
          | inl a ↦ in_left st.device.in_flight st.device.failed i (t.back i a)
          | inr b ↦ elim (in_either st.device.failed (p ∷ []) i b) as (λ _. InRange (st.device.in_flight ++ st.device.failed) i) [
            | inl c ↦ in_right st.device.in_flight st.device.failed i c
            | inr d ↦ elim d as (λ _. InRange (st.device.in_flight ++ st.device.failed) i) [ inl w ↦ in_left st.device.in_flight st.device.failed i (t.here i w) | inr n ↦ absurd n ]
          ]
        ] in
        inr (
          goal,
          record {
            busy = and_right (is_empty (without st.device.in_flight at)) (is_empty (st.device.failed ++ p ∷ [])) (some st.device.failed);
            same = same_less (st.device.in_flight ++ st.device.failed) (without st.device.in_flight at ++ (st.device.failed ++ p ∷ [])) goal st.device.disk w.same fewer;
            carried = all.1;
            safe = λ d s. w.safe d (same_less (without st.device.in_flight at ++ (st.device.failed ++ p ∷ [])) (st.device.in_flight ++ st.device.failed) goal d s more);
            ready = w.ready;
          },
        )
      where
        some : (ps : List Piece) → is_empty (ps ++ p ∷ []) ≡ false
        some [] = refl
        some (q ∷ ps) = refl

-- ---- a completion

-- nothing new is committed, or the group in flight is
abbrev pub Goes : Storage → Storage → List NamedFile → List NamedFile → Type 0
Goes st to old new =
    (Sound to old new × (to.committed ≡ st.committed) × (to.next_committed ≡ st.next_committed))
    ⊎ (Resting to new × (to.committed ≡ st.next_committed) × (to.next_committed ≡ st.next_committed))

pub is_nil : {A : Type 0} (xs : List A) → is_empty xs ≡ true → xs ≡ []
is_nil [] e = refl
is_nil (x ∷ xs) e = absurd cc

-- a stage is submitted
pub submitted_sound : (st1 : Storage) (old new : List NamedFile) → st1.device.failed ≡ []
    → (stage : List Piece) (stages : List (List Piece)) → Ready (stage ∷ stages) st1.device.disk st1.next_half st1.next_gate old new → Sound (record st1 { device = sent st1.device stage; stages = stages }) old new
submitted_sound st1 old new failed stage stages r =
    let nothing : (i : ℕ) → InRange st1.device.failed i → ⊥ = λ i. subst (λ (ps : List Piece). InRange ps i → ⊥) (sym failed) (λ h. h) in
    let fewer : (i : ℕ) → InRange (stage ++ st1.device.failed) i → InRange stage i = λ i h. elim (in_either stage st1.device.failed i h) as (λ _. InRange stage i) [ inl a ↦ a | inr b ↦ absurd (nothing i b) ] in
    inr (
      r.0,
      record {
        busy = and_left (is_empty stage) (is_empty st1.device.failed) r.1.some;
        same = same_less stage (stage ++ st1.device.failed) r.0 st1.device.disk (same_sym stage st1.device.disk r.0 r.1.same) (in_left stage st1.device.failed);
        carried = r.1.carried;
        safe = λ d s. r.1.safe d (same_less (stage ++ st1.device.failed) stage r.0 d s fewer);
        ready = r.2;
      },
    )

-- the next stage is submitted, or the group is committed
next_goes : (st st1 : Storage) (old new : List NamedFile) → st1.device.in_flight ≡ [] → st1.device.failed ≡ []
    → st1.committed ≡ st.committed → st1.next_committed ≡ st.next_committed
    → (stages : List (List Piece)) → Ready stages st1.device.disk st1.next_half st1.next_gate old new → Goes st (next_stage st1 stages) old new
next_goes st st1 old new in_flight failed c n [] r = inr (record { in_flight = in_flight; failed = failed; at_rest = r }, n, n)
next_goes st st1 old new in_flight failed c n (stage ∷ stages) r = inl (submitted_sound st1 old new failed stage stages r, c, n)

pub completed_goes : (st : Storage) (old new : List NamedFile) (at : ℕ) → Sound st old new → Goes st (completed st at) old new
completed_goes st old new at s = go (piece_at st.device.in_flight at) refl s
  where
    go : (o : Option Piece) → piece_at st.device.in_flight at ≡ o → Sound st old new → Goes st (completed_by st at o) old new
    go None e h = inl (h, refl, refl)
    go (Some p) e (inl rest) = let none : piece_at [] at ≡ Some p = subst (λ (ps : List Piece). piece_at ps at ≡ Some p) rest.in_flight e in absurd cc
    go (Some p) e (inr (goal, w)) =
        let t = taken st.device.in_flight at p e in
        let all = taken_all (Carried goal) st.device.in_flight at p e w.carried in
        let st1 : Storage = record st { device = with_completion st.device at p } in
        let fit : p.at + length p.bytes ≤ length st.device.disk = (let l = w.same.size in let k = all.0.1 in omega arith) in
        let more : (i : ℕ) → InRange (without st.device.in_flight at ++ st.device.failed) i → InRange (st.device.in_flight ++ st.device.failed) i = λ i h. elim (in_either (without st.device.in_flight at) st.device.failed i h) as (λ _. InRange (st.device.in_flight ++ st.device.failed) i) [
          | inl a ↦ in_left st.device.in_flight st.device.failed i (t.back i a)
          | inr b ↦ in_right st.device.in_flight st.device.failed i b
        ] in
        let outside : (i : ℕ) → (((p.at ≤ i) × (i < p.at + length p.bytes)) → ⊥) → (InRange (without st.device.in_flight at ++ st.device.failed) i → ⊥) → get_or st.device.disk i 0 ≡ get_or goal i 0 = λ i far out. w.same.same i (λ h. elim (in_either st.device.in_flight st.device.failed i h) as (λ _. ⊥) [
          | inl a ↦ elim (t.parts i a) as (λ _. ⊥) [ inl b ↦ far b | inr b ↦ out (in_left (without st.device.in_flight at) st.device.failed i b) ]
          | inr b ↦ out (in_right (without st.device.in_flight at) st.device.failed i b)
        ]) in
        let same1 : IsSameBut (without st.device.in_flight at ++ st.device.failed) goal (overwritten st.device.disk p.at p.bytes) = record {
          size = over_length st.device.disk p.at p.bytes fit ∙ w.same.size;
          same = λ i out. elim (cases_lt i p.at) as (λ _. get_or (overwritten st.device.disk p.at p.bytes) i 0 ≡ get_or goal i 0) [
            | inl below ↦ over_below st.device.disk p.at p.bytes i (omega arith) below ∙ outside i (λ h. let a = h.0 in omega arith) out
            | inr ge ↦ elim (cases_lt i (p.at + length p.bytes)) as (λ _. get_or (overwritten st.device.disk p.at p.bytes) i 0 ≡ get_or goal i 0) [
              | inl lt ↦ inside p goal (overwritten st.device.disk p.at p.bytes) (over_in st.device.disk p.at p.bytes (omega arith)) all.0.0 i ge lt
              | inr above ↦ over_above st.device.disk p.at p.bytes i (omega arith) above ∙ outside i (λ h. let a = h.1 in omega arith) out
            ]
          ];
        } in
        on st1 goal same1 all.1 (λ d s. w.safe d (same_less (without st.device.in_flight at ++ st.device.failed) (st.device.in_flight ++ st.device.failed) goal d s more)) w.ready refl refl (is_quiet st1.device) refl
      where
        on : (st1 : Storage) (goal : List ℕ) → IsSameBut (st1.device.in_flight ++ st1.device.failed) goal st1.device.disk → AllByRecursion (Carried goal) st1.device.in_flight → Safe (st1.device.in_flight ++ st1.device.failed) goal old new
            → Ready st1.stages goal st1.next_half st1.next_gate old new → st1.committed ≡ st.committed → st1.next_committed ≡ st.next_committed
            → (b : Bool) → is_quiet st1.device ≡ b → Goes st (if b then next_stage st1 st1.stages else st1) old new
        on st1 goal same carried safe ready c n false q = inl (inr (goal, record { busy = q; same = same; carried = carried; safe = safe; ready = ready }), c, n)
        on st1 goal same carried safe ready c n true q =
            let both = and_parts (is_empty st1.device.in_flight) (is_empty st1.device.failed) q in
            let in_flight = is_nil st1.device.in_flight both.0 in let failed = is_nil st1.device.failed both.1 in
            let clear : IsSameBut [] goal st1.device.disk = subst (λ (ps : List Piece). IsSameBut ps goal st1.device.disk) (ap (λ (ps : List Piece). ps ++ st1.device.failed) in_flight ∙ failed) same in
            next_goes st st1 old new in_flight failed c n st1.stages (subst (λ (d : List ℕ). Ready st1.stages d st1.next_half st1.next_gate old new) (sym (all_same goal st1.device.disk clear)) ready)

        inside : (p : Piece) (goal d : List ℕ) → HasBytes d p.at p.bytes → HasBytes goal p.at p.bytes → (i : ℕ) → p.at ≤ i → i < p.at + length p.bytes → get_or d i 0 ≡ get_or goal i 0
        inside p goal d h g i ge lt =
            let k : p.at + (i - p.at) ≡ i = omega arith in
            ap (λ (j : ℕ). get_or d j 0) (sym k) ∙ h (i - p.at) (omega arith) ∙ sym (g (i - p.at) (omega arith)) ∙ ap (λ (j : ℕ). get_or goal j 0) k
