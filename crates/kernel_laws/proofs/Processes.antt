-- Processes by their numbers, where one of them is another.
use Rattle.std.proofs.Common.{◌≡◌, ℕ, zero, suc, ◌+◌, List, [], ◌∷◌, ◌++◌, length, slice_get, slice_set, Some, None, refl, sym, ap, arith}
use Rattle.std.proofs.lemmas.List.{set-set, set_comm, set-append_left}
use Rattle.std.proofs.lemmas.Option.{slice_get_within}
use Rattle.disk_model.proofs.Lists.{get_same, get_other}
use Rattle.kernel_model.specs.State.{Process, process_at, put_process}

-- two processes may be put in either order
pub put_put : (ps : List Process) (p q : ℕ) (x y : Process) → (p ≡ q → ⊥) → put_process (put_process ps p x) q y ≡ put_process (put_process ps q y) p x
put_put ps zero q x y n = refl
put_put ps (suc i) zero x y n = refl
put_put ps (suc i) (suc j) x y n = set_comm ps i j x y (λ e. n (ap suc e))

pub at_put : (ps : List Process) (p q : ℕ) (x : Process) → (p ≡ q → ⊥) → process_at (put_process ps p x) q ≡ process_at ps q
at_put ps zero q x n = refl
at_put ps (suc i) zero x n = refl
at_put ps (suc i) (suc j) x n = get_other ps i j x (λ e. n (ap suc (sym e)))

pub at_same : (ps : List Process) (p : ℕ) (x y : Process) → process_at ps p ≡ Some y → process_at (put_process ps p x) p ≡ Some x
at_same ps zero x y e = cc
at_same ps (suc i) x y e = get_same ps i x y e

pub put_twice : (ps : List Process) (p : ℕ) (x y : Process) → put_process (put_process ps p x) p y ≡ put_process ps p y
put_twice ps zero x y = refl
put_twice ps (suc i) x y = set-set ps i x y

-- ---- processes that are appended

get_append : {A : Type 0} (xs ys : List A) (i : ℕ) (y : A) → slice_get xs i ≡ Some y → slice_get (xs ++ ys) i ≡ Some y
get_append [] ys i y e = cc
get_append (z ∷ zs) ys zero y e = e
get_append (z ∷ zs) ys (suc i) y e = get_append zs ys i y e

get_last : {A : Type 0} (xs : List A) (i : ℕ) (x y : A) → slice_get xs i ≡ None → slice_get (xs ++ x ∷ []) i ≡ Some y → (i ≡ length xs) × (x ≡ y)
get_last [] zero x y none e = (refl, cc)
get_last [] (suc i) x y none e = absurd (let no : ⊥ = cc in no)
get_last (z ∷ zs) zero x y none e = absurd (let no : ⊥ = cc in no)
get_last (z ∷ zs) (suc i) x y none e = let last = get_last zs i x y none e in (ap suc last.0, last.1)

set_none : {A : Type 0} (xs : List A) (i j : ℕ) (x : A) → slice_get xs j ≡ None → slice_get (slice_set xs i x) j ≡ None
set_none [] i j x none = none
set_none (z ∷ zs) zero zero x none = absurd (let no : ⊥ = cc in no)
set_none (z ∷ zs) zero (suc j) x none = none
set_none (z ∷ zs) (suc i) zero x none = none
set_none (z ∷ zs) (suc i) (suc j) x none = set_none zs i j x none

-- a process that is there is so where others are appended, and may be put before they are or after
pub at_append : (ps qs : List Process) (p : ℕ) (y : Process) → process_at ps p ≡ Some y → process_at (ps ++ qs) p ≡ Some y
at_append ps qs zero y e = cc
at_append ps qs (suc i) y e = get_append ps qs i y e

pub put_append : (ps qs : List Process) (p : ℕ) (x y : Process) → process_at ps p ≡ Some y → put_process (ps ++ qs) p x ≡ put_process ps p x ++ qs
put_append ps qs zero x y e = cc
put_append ps qs (suc i) x y e = set-append_left ps qs i x (slice_get_within ps i y e)

-- a process that is there only once one is appended is that one
pub at_last : (ps : List Process) (p : ℕ) (x y : Process) → process_at ps p ≡ None → process_at (ps ++ x ∷ []) p ≡ Some y → (p ≡ length ps + 1) × (x ≡ y)
at_last ps zero x y none e = absurd (let no : ⊥ = cc in no)
at_last ps (suc i) x y none e = let last = get_last ps i x y none e in (omega (arith, last.0), last.1)

-- no process comes where another one is put
pub put_none : (ps : List Process) (p q : ℕ) (x : Process) → process_at ps p ≡ None → process_at (put_process ps q x) p ≡ None
put_none ps zero q x none = refl
put_none ps (suc i) zero x none = none
put_none ps (suc i) (suc j) x none = set_none ps j i x none
