-- What steps of pipes, a read of a tape and a reply leave of each pipe, tape and process. It depends on what stood there.
use Rattle.std.proofs.Common.{◌≡◌, ℕ, zero, suc, ◌+◌, ◌==◌, Bool, true, false, List, [], ◌∷◌, ◌++◌, length, map, slice_get, slice_set, Option, Some, None, IfSome, refl, sym, ap, subst, ◌∙◌, arith, append-nil}
use Rattle.std.specs.Prelude.{if◌then◌else◌, option_map}
use Rattle.std.specs.List.{AllByRecursion}
use Rattle.std.proofs.lemmas.Bool.{eqb-true, eqb-false, eq-eqb, ne_eqb, or_parts}
use Rattle.std.proofs.lemmas.List.{length-append, length-set}
use Rattle.disk_model.proofs.Lists.{get_same, get_other}
use Rattle.kernel_model.proofs.Limits.{put_length}
use Rattle.kernel_model.specs.Entries.{is_among}
use Rattle.kernel_model.specs.Rows.{carrier_of}
use Rattle.kernel_model.specs.State.{Process, PipeState, TapeState, process_at, put_process, new_pipe, with_pipe, with_place, read_by, stepped, all_stepped}
use Rattle.kernel_model.specs.Steps.{forked}
use Rattle.kernel_model.specs.declared.carrier.Carrier.TheVariants as carrier
use Rattle.kernel_model.specs.declared.descriptor.PipeEnd.{PipeEnd}
use Rattle.kernel_model.specs.declared.descriptor.PipeEnd.TheVariants.{Read, Write}
use Rattle.kernel_model.specs.declared.effect.PipeStep.{PipeStep}
use Rattle.kernel_model.specs.declared.effect.PipeStep.TheVariants.{Open, Put, Take, Add, Drop}
use Rattle.kernel_model.specs.declared.effect.TapeRead.{TapeRead}

-- ---- lists
pub get_set : {A : Type 0} (xs : List A) (j k : ℕ) (x y : A) → slice_get xs j ≡ Some y → slice_get (slice_set xs j x) k ≡ (if j == k then Some x else slice_get xs k)
get_set xs j k x y at = elim (j == k) as (λ b. (j == k) ≡ b → slice_get (slice_set xs j x) k ≡ (if b then Some x else slice_get xs k)) [
  | true ↦ λ is. subst (λ (i : ℕ). slice_get (slice_set xs j x) i ≡ Some x) (eqb-true j k is) (get_same xs j x y at)
  | false ↦ λ is. get_other xs j k x (λ (e : k ≡ j). eqb-false j k is (sym e))
] refl

-- one of a list is changed by f
pub get_changed : {A : Type 0} (xs : List A) (j k : ℕ) (f : A → A) (y : A) → slice_get xs j ≡ Some y
    → slice_get (slice_set xs j (f y)) k ≡ (if j == k then option_map f (slice_get xs k) else slice_get xs k)
get_changed xs j k f y at = elim (j == k) as (λ b. (j == k) ≡ b → slice_get (slice_set xs j (f y)) k ≡ (if b then option_map f (slice_get xs k) else slice_get xs k)) [
  | true ↦ λ is. subst (λ (i : ℕ). slice_get (slice_set xs j (f y)) i ≡ option_map f (slice_get xs i)) (eqb-true j k is) (get_same xs j (f y) y at ∙ sym (ap (λ o. option_map f o) at))
  | false ↦ λ is. get_other xs j k (f y) (λ (e : k ≡ j). eqb-false j k is (sym e))
] refl

suc_eq : (a b : ℕ) → (a == b) ≡ (suc a == suc b)
suc_eq a b = elim (a == b) as (λ t. (a == b) ≡ t → t ≡ (suc a == suc b)) [
  | true ↦ λ is. sym (eq-eqb (suc a) (suc b) (omega (arith, eqb-true a b is)))
  | false ↦ λ is. sym (ne_eqb (suc a) (suc b) (λ (e : suc a ≡ suc b). eqb-false a b is (omega (arith, e))))
] refl

zero_suc : (k : ℕ) → false ≡ (0 == suc k)
zero_suc k = sym (ne_eqb 0 (suc k) (λ (e : 0 ≡ suc k). omega (arith, e)))

suc_zero : (k : ℕ) → false ≡ (suc k == 0)
suc_zero k = sym (ne_eqb (suc k) 0 (λ (e : suc k ≡ 0). omega (arith, e)))

pub get_last : {A : Type 0} (xs : List A) (x : A) (k : ℕ) → slice_get (xs ++ x ∷ []) k ≡ (if length xs == k then Some x else slice_get xs k)
get_last [] x zero = refl
get_last [] x (suc k) = ap (λ (b : Bool). if b then Some x else None) (zero_suc k)
get_last (y ∷ ys) x zero = ap (λ (b : Bool). if b then Some x else Some y) (suc_zero (length ys))
get_last (y ∷ ys) x (suc k) = get_last ys x k ∙ ap (λ (b : Bool). if b then Some x else slice_get ys k) (suc_eq (length ys) k)

pub flip : (a b : ℕ) → (a == b) ≡ false → (b == a) ≡ false
flip a b h = ne_eqb b a (λ (e : b ≡ a). eqb-false a b h (sym e))

-- ---- pipes
abbrev after_one : ℕ → ℕ → (PipeState → PipeState) → Option PipeState → Option PipeState
after_one j k f o = if j == k then option_map f o else o

nothing : (b : Bool) (f : PipeState → PipeState) (o : Option PipeState) → o ≡ None → o ≡ (if b then option_map f o else o)
nothing true f o e = e ∙ sym (ap (λ p. option_map f p) e)
nothing false f o e = refl

with_at : (pipes : List PipeState) (j k : ℕ) (f : PipeState → PipeState) (o : Option PipeState) → slice_get pipes j ≡ o
    → slice_get (with_pipe pipes j o f) k ≡ after_one j k f (slice_get pipes k)
with_at pipes j k f None at = elim (j == k) as (λ b. (j == k) ≡ b → slice_get pipes k ≡ (if b then option_map f (slice_get pipes k) else slice_get pipes k)) [
  | true ↦ λ is. nothing true f (slice_get pipes k) (ap (slice_get pipes) (sym (eqb-true j k is)) ∙ at)
  | false ↦ λ is. refl
] refl
with_at pipes j k f (Some p) at = get_changed pipes j k f p at

with_length : (pipes : List PipeState) (j : ℕ) (f : PipeState → PipeState) (o : Option PipeState) → length (with_pipe pipes j o f) ≡ length pipes
with_length pipes j f None = refl
with_length pipes j f (Some p) = length-set pipes j (f p)

-- the step is of a pipe that is there, and not of this one
abbrev pub IsOff : ℕ → PipeStep → Type 0
IsOff k Open = ⊥
IsOff k (Put j bytes) = (k == j) ≡ false
IsOff k (Take j count) = (k == j) ≡ false
IsOff k (Add (Read j)) = (k == j) ≡ false
IsOff k (Add (Write j)) = (k == j) ≡ false
IsOff k (Drop (Read j)) = (k == j) ≡ false
IsOff k (Drop (Write j)) = (k == j) ≡ false

-- it makes no pipe
abbrev pub IsOld : PipeStep → Type 0
IsOld Open = ⊥
IsOld (Put j bytes) = Unit {0}
IsOld (Take j count) = Unit {0}
IsOld (Add end) = Unit {0}
IsOld (Drop end) = Unit {0}

off_by : (pipes : List PipeState) (j k : ℕ) (f : PipeState → PipeState) → (k == j) ≡ false → slice_get (with_pipe pipes j (slice_get pipes j) f) k ≡ slice_get pipes k
off_by pipes j k f h = with_at pipes j k f (slice_get pipes j) refl ∙ ap (λ (b : Bool). if b then option_map f (slice_get pipes k) else slice_get pipes k) (flip k j h)

step_off : (pipes : List PipeState) (k : ℕ) (step : PipeStep) → IsOff k step → slice_get (stepped pipes step) k ≡ slice_get pipes k
step_off pipes k Open h = absurd h
step_off pipes k (Put j bytes) h = off_by pipes j k _ h
step_off pipes k (Take j count) h = off_by pipes j k _ h
step_off pipes k (Add (Read j)) h = off_by pipes j k _ h
step_off pipes k (Add (Write j)) h = off_by pipes j k _ h
step_off pipes k (Drop (Read j)) h = off_by pipes j k _ h
step_off pipes k (Drop (Write j)) h = off_by pipes j k _ h

pub steps_off : (steps : List PipeStep) (pipes : List PipeState) (k : ℕ) → AllByRecursion (IsOff k) steps → slice_get (all_stepped pipes steps) k ≡ slice_get pipes k
steps_off [] pipes k h = refl
steps_off (step ∷ steps) pipes k h = steps_off steps (stepped pipes step) k h.1 ∙ step_off pipes k step h.0

step_length : (pipes : List PipeState) (step : PipeStep) → IsOld step → length (stepped pipes step) ≡ length pipes
step_length pipes Open h = absurd h
step_length pipes (Put j bytes) h = with_length pipes j _ (slice_get pipes j)
step_length pipes (Take j count) h = with_length pipes j _ (slice_get pipes j)
step_length pipes (Add (Read j)) h = with_length pipes j _ (slice_get pipes j)
step_length pipes (Add (Write j)) h = with_length pipes j _ (slice_get pipes j)
step_length pipes (Drop (Read j)) h = with_length pipes j _ (slice_get pipes j)
step_length pipes (Drop (Write j)) h = with_length pipes j _ (slice_get pipes j)

pub steps_length : (steps : List PipeStep) (pipes : List PipeState) → AllByRecursion IsOld steps → length (all_stepped pipes steps) ≡ length pipes
steps_length [] pipes h = refl
steps_length (step ∷ steps) pipes h = steps_length steps (stepped pipes step) h.1 ∙ step_length pipes step h.0

same_by : (ps qs : List PipeState) (j k : ℕ) (f : PipeState → PipeState) → slice_get ps k ≡ slice_get qs k
    → slice_get (with_pipe ps j (slice_get ps j) f) k ≡ slice_get (with_pipe qs j (slice_get qs j) f) k
same_by ps qs j k f h = with_at ps j k f (slice_get ps j) refl ∙ ap (after_one j k f) h ∙ sym (with_at qs j k f (slice_get qs j) refl)

step_same : (ps qs : List PipeState) (k : ℕ) (step : PipeStep) → IsOld step → slice_get ps k ≡ slice_get qs k → slice_get (stepped ps step) k ≡ slice_get (stepped qs step) k
step_same ps qs k Open old h = absurd old
step_same ps qs k (Put j bytes) old h = same_by ps qs j k _ h
step_same ps qs k (Take j count) old h = same_by ps qs j k _ h
step_same ps qs k (Add (Read j)) old h = same_by ps qs j k _ h
step_same ps qs k (Add (Write j)) old h = same_by ps qs j k _ h
step_same ps qs k (Drop (Read j)) old h = same_by ps qs j k _ h
step_same ps qs k (Drop (Write j)) old h = same_by ps qs j k _ h

pub steps_same : (steps : List PipeStep) (ps qs : List PipeState) (k : ℕ) → AllByRecursion IsOld steps → slice_get ps k ≡ slice_get qs k
    → slice_get (all_stepped ps steps) k ≡ slice_get (all_stepped qs steps) k
steps_same [] ps qs k old h = h
steps_same (step ∷ steps) ps qs k old h = steps_same steps (stepped ps step) (stepped qs step) k old.1 (step_same ps qs k step old.0 h)

-- a new pipe
pub open_same : (ps qs : List PipeState) (k : ℕ) → length ps ≡ length qs → slice_get ps k ≡ slice_get qs k
    → slice_get (all_stepped ps (Open ∷ [])) k ≡ slice_get (all_stepped qs (Open ∷ [])) k
open_same ps qs k long h =
    get_last ps new_pipe k
    ∙ ap (λ (n : ℕ). if n == k then Some new_pipe else slice_get ps k) long
    ∙ ap (λ (o : Option PipeState). if length qs == k then Some new_pipe else o) h
    ∙ sym (get_last qs new_pipe k)

pub open_off : (ps : List PipeState) (k : ℕ) → (k == length ps) ≡ false → slice_get (all_stepped ps (Open ∷ [])) k ≡ slice_get ps k
open_off ps k h = get_last ps new_pipe k ∙ ap (λ (b : Bool). if b then Some new_pipe else slice_get ps k) (flip k (length ps) h)

pub open_length : (ps : List PipeState) → length (all_stepped ps (Open ∷ [])) ≡ length ps + 1
open_length ps = length-append ps (new_pipe ∷ [])

-- ends of pipes
pub drops_off : (ends : List PipeEnd) (k : ℕ) → is_among (carrier.Pipe k) (map carrier_of ends) ≡ false → AllByRecursion (IsOff k) (map Drop ends)
drops_off [] k h = tt
drops_off (Read j ∷ ends) k h = let both = or_parts (k == j) (is_among (carrier.Pipe k) (map carrier_of ends)) h in (both.0, drops_off ends k both.1)
drops_off (Write j ∷ ends) k h = let both = or_parts (k == j) (is_among (carrier.Pipe k) (map carrier_of ends)) h in (both.0, drops_off ends k both.1)

pub adds_off : (ends : List PipeEnd) (k : ℕ) → is_among (carrier.Pipe k) (map carrier_of ends) ≡ false → AllByRecursion (IsOff k) (map Add ends)
adds_off [] k h = tt
adds_off (Read j ∷ ends) k h = let both = or_parts (k == j) (is_among (carrier.Pipe k) (map carrier_of ends)) h in (both.0, adds_off ends k both.1)
adds_off (Write j ∷ ends) k h = let both = or_parts (k == j) (is_among (carrier.Pipe k) (map carrier_of ends)) h in (both.0, adds_off ends k both.1)

pub drops_old : (ends : List PipeEnd) → AllByRecursion IsOld (map Drop ends)
drops_old [] = tt
drops_old (end ∷ ends) = (tt, drops_old ends)

pub adds_old : (ends : List PipeEnd) → AllByRecursion IsOld (map Add ends)
adds_old [] = tt
adds_old (end ∷ ends) = (tt, adds_old ends)

-- ---- tapes
place_at : (tapes : List TapeState) (j k count : ℕ) (o : Option TapeState) → slice_get tapes j ≡ o
    → slice_get (with_place tapes j count o) k ≡ (if j == k then option_map (λ (tape : TapeState). record tape { place = tape.place + count }) (slice_get tapes k) else slice_get tapes k)
place_at tapes j k count None at =
    elim (j == k) as (λ b. (j == k) ≡ b → slice_get tapes k ≡ (if b then option_map (λ (tape : TapeState). record tape { place = tape.place + count }) (slice_get tapes k) else slice_get tapes k)) [
      | true ↦ λ is. (
          let none : slice_get tapes k ≡ None = ap (slice_get tapes) (sym (eqb-true j k is)) ∙ at in
          none ∙ sym (ap (λ o. option_map (λ (tape : TapeState). record tape { place = tape.place + count }) o) none))
      | false ↦ λ is. refl
    ] refl
place_at tapes j k count (Some tape) at = get_changed tapes j k (λ (tape : TapeState). record tape { place = tape.place + count }) tape at

pub tape_off : (tapes : List TapeState) (r : TapeRead) (k : ℕ) → (k == r.tape) ≡ false → slice_get (read_by tapes (Some r)) k ≡ slice_get tapes k
tape_off tapes r k h =
    place_at tapes r.tape k r.count (slice_get tapes r.tape) refl
    ∙ ap (λ (b : Bool). if b then option_map (λ (tape : TapeState). record tape { place = tape.place + r.count }) (slice_get tapes k) else slice_get tapes k) (flip k r.tape h)

pub tape_same : (us vs : List TapeState) (r : TapeRead) (k : ℕ) → slice_get us k ≡ slice_get vs k → slice_get (read_by us (Some r)) k ≡ slice_get (read_by vs (Some r)) k
tape_same us vs r k h =
    place_at us r.tape k r.count (slice_get us r.tape) refl
    ∙ ap (λ (o : Option TapeState). if r.tape == k then option_map (λ (tape : TapeState). record tape { place = tape.place + r.count }) o else o) h
    ∙ sym (place_at vs r.tape k r.count (slice_get vs r.tape) refl)

-- ---- processes
pub put_at : (ps : List Process) (pid q : ℕ) (x p : Process) → process_at ps pid ≡ Some p
    → process_at (put_process ps pid x) q ≡ (if pid == q then Some x else process_at ps q)
put_at ps zero q x p at = absurd (let no : ⊥ = cc in no)
put_at ps (suc i) zero x p at = ap (λ (b : Bool). if b then Some x else None) (suc_zero i)
put_at ps (suc i) (suc j) x p at = get_set ps i j x p at ∙ ap (λ (b : Bool). if b then Some x else slice_get ps j) (suc_eq i j)

at_more : (ps : List Process) (x : Process) (q : ℕ) → process_at (ps ++ x ∷ []) q ≡ (if length ps + 1 == q then Some x else process_at ps q)
at_more ps x zero = sym (ap (λ (b : Bool). if b then Some x else None) (ne_eqb (length ps + 1) 0 (λ (e : length ps + 1 ≡ 0). omega (arith, e))))
at_more ps x (suc j) = get_last ps x j ∙ ap (λ (b : Bool). if b then Some x else slice_get ps j) (by (length ps) j)
  where
    by : (n j : ℕ) → (n == j) ≡ (n + 1 == suc j)
    by n j = let one : suc n ≡ n + 1 = omega arith in suc_eq n j ∙ ap (λ (m : ℕ). m == suc j) one

-- a process that is made is the next one
abbrev pub IsNext : List Process → Option ℕ → Type 0
IsNext ps child = IfSome child (λ c. c ≡ length ps + 1)

-- each process after a reply
abbrev pub replied_at : ℕ → ℕ → Process → Process → Option ℕ → ℕ → Option Process → Option Process
replied_at long pid x y None q o = if pid == q then Some x else o
replied_at long pid x y (Some child) q o = if long + 1 == q then Some y else if pid == q then Some x else o

-- the process that is made
abbrev pub child_of : Process → Process
child_of p = elim (forked p (Some 0)) as (λ _. Process) [ [] ↦ p | c ∷ cs ↦ c ]

pub reply_at : (ps : List Process) (pid q : ℕ) (x p : Process) (child : Option ℕ) → process_at ps pid ≡ Some p
    → process_at (put_process ps pid x ++ forked p child) q ≡ replied_at (length ps) pid x (child_of p) child q (process_at ps q)
reply_at ps pid q x p None at = ap (λ (qs : List Process). process_at qs q) (append-nil (put_process ps pid x)) ∙ put_at ps pid q x p at
reply_at ps pid q x p (Some child) at =
    at_more (put_process ps pid x) (child_of p) q
    ∙ ap (λ (n : ℕ). if n + 1 == q then Some (child_of p) else process_at (put_process ps pid x) q) (put_length ps pid x)
    ∙ ap (λ (o : Option Process). if length ps + 1 == q then Some (child_of p) else o) (put_at ps pid q x p at)

-- how many are made
abbrev pub made_by : Option ℕ → ℕ
made_by None = 0
made_by (Some child) = 1

pub reply_long : (ps : List Process) (pid : ℕ) (x p : Process) (child : Option ℕ) → length (put_process ps pid x ++ forked p child) ≡ length ps + made_by child
reply_long ps pid x p None = omega (arith, length-append (put_process ps pid x) [], put_length ps pid x)
reply_long ps pid x p (Some child) = omega (arith, length-append (put_process ps pid x) (child_of p ∷ []), put_length ps pid x)
