-- Marks as runs of equal ones.
use Rattle.std.proofs.Common.{◌≡◌, ℕ, zero, suc, ◌+◌, ◌-◌, ◌<◌, ◌≤◌, ◌==◌, Bool, true, false, if◌then◌else◌, List, [], ◌∷◌, ◌++◌, length, drop, replicate, Some, slice_get, nat_le, refl, sym, ap, subst, ◌∙◌, arith, append_assoc, append-nil, length-append}
use Rattle.std.proofs.lemmas.List.{length-replicate, replicate-append-replicate}
use Rattle.std.proofs.lemmas.Bool.{eqb-true, false≢true}
use Rattle.held_output.specs.declared.marks.Run.{Run}
use Rattle.held_output.specs.Marks.{next, marks_of, Rises, ends_with, with_run, runs_passed}
use Rattle.held_output.specs.Withheld.{prefix_of}

-- ---- the last run

pub ends-last : (rs : List Run) (r : Run) (mark : ℕ) → slice_get rs (length rs - 1) ≡ Some r → ends_with mark rs ≡ (r.mark == mark)
ends-last [] r mark is = cc
ends-last (s ∷ []) r mark is = cc
ends-last (s ∷ t ∷ rs) r mark is =
    let next : suc (length (t ∷ rs) - 1) ≡ length (s ∷ t ∷ rs) - 1 = omega arith in
    ends-last (t ∷ rs) r mark (ap (λ k. slice_get (s ∷ t ∷ rs) k) next ∙ is)

-- ---- counting

-- a run begins where those after it end, or before
next-within : (end : ℕ) (rs : List Run) → Rises end rs → next end rs ≤ end
next-within end [] rises = omega arith
next-within end (r ∷ rs) rises = omega (arith, rises.0, next-within end rs rises.1)

-- so many marks as there are places
length-marks : (end : ℕ) (rs : List Run) → Rises end rs → length (marks_of end rs) + next end rs ≡ end
length-marks end [] rises = omega arith
length-marks end (r ∷ rs) rises =
    let whole = length-append (replicate (next end rs - r.start) r.mark) (marks_of end rs) in
    omega (arith, rises.0, whole, length-replicate (next end rs - r.start) r.mark, length-marks end rs rises.1)

pub length-whole : (end : ℕ) (rs : List Run) → next end rs ≡ 0 → Rises end rs → length (marks_of end rs) ≡ end
length-whole end rs first rises = omega (arith, first, length-marks end rs rises)

-- marks that all pass, before others
prefix-all : (c n mark : ℕ) (ms : List ℕ) → nat_le mark c ≡ true → prefix_of c (replicate n mark ++ ms) ≡ n + prefix_of c ms
prefix-all c zero mark ms passes = omega arith
prefix-all c (suc n) mark ms passes =
    let rest : prefix_of c (replicate n mark ++ ms) ≡ n + prefix_of c ms = prefix-all c n mark ms passes in
    ap (λ (b : Bool). if b then 1 + prefix_of c (replicate n mark ++ ms) else 0) passes ∙ omega (arith, rest)

-- marks of which none passes
prefix-none : (c n mark : ℕ) (ms : List ℕ) → 0 < n → nat_le mark c ≡ false → prefix_of c (replicate n mark ++ ms) ≡ 0
prefix-none c zero mark ms some passes = absurd (omega (arith, some))
prefix-none c (suc n) mark ms some passes = ap (λ (b : Bool). if b then 1 + prefix_of c (replicate n mark ++ ms) else 0) passes

-- the first run that does not pass begins after the marks that pass
pub counted : (c end : ℕ) (rs : List Run) → Rises end rs → next end (drop (runs_passed c rs) rs) ≡ next end rs + prefix_of c (marks_of end rs)
counted c end [] rises = omega arith
counted c end (r ∷ rs) rises = by (nat_le r.mark c) refl (counted c end rs rises.1)
  where
    by : (b : Bool) → nat_le r.mark c ≡ b → next end (drop (runs_passed c rs) rs) ≡ next end rs + prefix_of c (marks_of end rs)
        → next end (drop (if b then 1 + runs_passed c rs else 0) (r ∷ rs)) ≡ r.start + prefix_of c (replicate (next end rs - r.start) r.mark ++ marks_of end rs)
    by true passes rest =
        let one-more : suc (runs_passed c rs) ≡ 1 + runs_passed c rs = omega arith in
        let all : prefix_of c (replicate (next end rs - r.start) r.mark ++ marks_of end rs) ≡ (next end rs - r.start) + prefix_of c (marks_of end rs) = prefix-all c (next end rs - r.start) r.mark (marks_of end rs) passes in
        let sum : next end (drop (runs_passed c rs) rs) ≡ r.start + prefix_of c (replicate (next end rs - r.start) r.mark ++ marks_of end rs) = omega (arith, all, rest, rises.0) in
        subst (λ (k : ℕ). next end (drop k (r ∷ rs)) ≡ r.start + prefix_of c (replicate (next end rs - r.start) r.mark ++ marks_of end rs)) one-more sum
    by false passes rest =
        let none : prefix_of c (replicate (next end rs - r.start) r.mark ++ marks_of end rs) ≡ 0 = prefix-none c (next end rs - r.start) r.mark (marks_of end rs) (omega (arith, rises.0)) passes in
        omega (arith, none)

-- ---- one mark more, so many times

abbrev one : ℕ → ℕ → List Run
one start mark = record { start = start; mark = mark } ∷ []

pub next-with : (start end mark : ℕ) (rs : List Run) → next start rs ≡ 0 → next end (with_run start mark rs) ≡ 0
next-with start end mark [] first = first
next-with start end mark (r ∷ rs) first = by (ends_with mark (r ∷ rs))
  where
    by : (b : Bool) → next end (if b then r ∷ rs else r ∷ (rs ++ one start mark)) ≡ 0
    by true = first
    by false = first

-- a longer last run
grown-rises : (start end : ℕ) (rs : List Run) → start < end → Rises start rs → Rises end rs
grown-rises start end [] more rises = tt
grown-rises start end (r ∷ []) more rises = (omega (arith, more, rises.0), tt)
grown-rises start end (r ∷ s ∷ rs) more rises = (rises.0, grown-rises start end (s ∷ rs) more rises.1)

grown-marks : (start end mark : ℕ) (rs : List Run) → start < end → Rises start rs → ends_with mark rs ≡ true
    → marks_of end rs ≡ marks_of start rs ++ replicate (end - start) mark
grown-marks start end mark [] more rises ends = absurd (false≢true ends)
grown-marks start end mark (r ∷ []) more rises ends =
    let same : r.mark ≡ mark = eqb-true r.mark mark ends in
    let size : end - r.start ≡ (start - r.start) + (end - start) = omega (arith, more, rises.0) in
    append-nil (replicate (end - r.start) r.mark)
    ∙ ap (λ k. replicate k r.mark) size
    ∙ sym (replicate-append-replicate (start - r.start) (end - start) r.mark)
    ∙ ap (λ m. replicate (start - r.start) r.mark ++ replicate (end - start) m) same
    ∙ ap (λ ms. ms ++ replicate (end - start) mark) (sym (append-nil (replicate (start - r.start) r.mark)))
grown-marks start end mark (r ∷ s ∷ rs) more rises ends =
    ap (λ ms. replicate (s.start - r.start) r.mark ++ ms) (grown-marks start end mark (s ∷ rs) more rises.1 ends)
    ∙ sym (append_assoc (replicate (s.start - r.start) r.mark) (marks_of start (s ∷ rs)) (replicate (end - start) mark))

-- a run more
new-rises : (start end mark : ℕ) (rs : List Run) → start < end → Rises start rs → Rises end (rs ++ one start mark)
new-rises start end mark [] more rises = (more, tt)
new-rises start end mark (r ∷ []) more rises = (rises.0, (more, tt))
new-rises start end mark (r ∷ s ∷ rs) more rises = (rises.0, new-rises start end mark (s ∷ rs) more rises.1)

new-marks : (start end mark : ℕ) (rs : List Run) → marks_of end (rs ++ one start mark) ≡ marks_of start rs ++ replicate (end - start) mark
new-marks start end mark [] = append-nil (replicate (end - start) mark)
new-marks start end mark (r ∷ []) =
    ap (λ ms. replicate (start - r.start) r.mark ++ ms) (append-nil (replicate (end - start) mark))
    ∙ ap (λ ms. ms ++ replicate (end - start) mark) (sym (append-nil (replicate (start - r.start) r.mark)))
new-marks start end mark (r ∷ s ∷ rs) =
    ap (λ ms. replicate (s.start - r.start) r.mark ++ ms) (new-marks start end mark (s ∷ rs))
    ∙ sym (append_assoc (replicate (s.start - r.start) r.mark) (marks_of start (s ∷ rs)) (replicate (end - start) mark))

-- either
pub with-rises : (start end mark : ℕ) (rs : List Run) → start < end → Rises start rs → Rises end (with_run start mark rs)
with-rises start end mark rs more rises = by (ends_with mark rs)
  where
    by : (b : Bool) → Rises end (if b then rs else rs ++ one start mark)
    by true = grown-rises start end rs more rises
    by false = new-rises start end mark rs more rises

pub with-marks : (start end mark : ℕ) (rs : List Run) → start < end → Rises start rs
    → marks_of end (with_run start mark rs) ≡ marks_of start rs ++ replicate (end - start) mark
with-marks start end mark rs more rises = by (ends_with mark rs) refl
  where
    by : (b : Bool) → ends_with mark rs ≡ b → marks_of end (if b then rs else rs ++ one start mark) ≡ marks_of start rs ++ replicate (end - start) mark
    by true ends = grown-marks start end mark rs more rises ends
    by false ends = new-marks start end mark rs
