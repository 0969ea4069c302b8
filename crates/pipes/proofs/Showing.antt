-- What is seen of pipes, through a step of them.
use Rattle.std.proofs.Common.{◌≡◌, ℕ, zero, suc, ◌+◌, ◌-◌, ◌≤◌, List, [], ◌∷◌, ◌++◌, length, map, drop, Option, Some, None, refl, sym, ap, ◌∙◌, subst, arith}
use Rattle.std.specs.Prelude.{slice_get, option_map}
use Rattle.std.specs.List.{AllByRecursion}
use Rattle.std.specs.Option.{ForSome}
use Rattle.std.proofs.lemmas.List.{map-append, length-append, length-drop, drop-append-le, drop-drop}
use Rattle.std.proofs.lemmas.Option.{slice_get-map}
use Rattle.kernel_model.specs.State.{PipeState, new_pipe, with_pipe, stepped}
use Rattle.kernel_model.specs.declared.descriptor.PipeEnd.TheVariants.{Read, Write}
use Rattle.kernel_model.specs.declared.effect.PipeStep.{PipeStep}
use Rattle.kernel_model.specs.declared.effect.PipeStep.TheVariants.{Open, Put, Take, Add, Drop}
use Rattle.kernel_model.proofs.Limits.{each_get, each_more, each_append, with_each}
use Rattle.pipes.specs.Seen.{Seen, seen_of, IsWithin, Shows}
use Rattle.pipes.specs.Stepping.{seen_with, seen_after, MayStep, HasAtMost}

-- one after the first is another
pipe-further : (p : PipeState) (ps : List PipeState) (k : ℕ) (f : PipeState → PipeState) (o : Option PipeState) → with_pipe (p ∷ ps) (suc k) o f ≡ p ∷ with_pipe ps k o f
pipe-further p ps k f None = refl
pipe-further p ps k f (Some q) = refl

seen-further : (s : Seen) (ss : List Seen) (k : ℕ) (g : Seen → Seen) (o : Option Seen) → seen_with (s ∷ ss) (suc k) o g ≡ s ∷ seen_with ss k o g
seen-further s ss k g None = refl
seen-further s ss k g (Some t) = refl

-- what is seen of the pipes where one is another, if what is seen of that one is
shown-with : (pipes : List PipeState) (k : ℕ) (f : PipeState → PipeState) (g : Seen → Seen)
    → ForSome (slice_get pipes k) (λ p. seen_of (f p) ≡ g (seen_of p))
    → seen_with (map seen_of pipes) k (slice_get (map seen_of pipes) k) g ≡ map seen_of (with_pipe pipes k (slice_get pipes k) f)
shown-with [] k f g same = refl
shown-with (p ∷ ps) zero f g same = ap (λ (s : Seen). s ∷ map seen_of ps) (sym (same p refl))
shown-with (p ∷ ps) (suc k) f g same =
    seen-further (seen_of p) (map seen_of ps) k g (slice_get (map seen_of ps) k)
    ∙ ap (λ (ss : List Seen). seen_of p ∷ ss) (shown-with ps k f g same)
    ∙ ap (map seen_of) (sym (pipe-further p ps k f (slice_get ps k)))

-- what holds of what is seen of a pipe
seen-at : (pipes : List PipeState) (k : ℕ) (P : Seen → Type 0) → ForSome (slice_get (map seen_of pipes) k) P → ForSome (slice_get pipes k) (λ p. P (seen_of p))
seen-at pipes k P holds p is = holds (seen_of p) (slice_get-map seen_of pipes k ∙ ap (option_map seen_of) is)

-- one pipe is another
with-shown : (pipes : List PipeState) (k : ℕ) (f : PipeState → PipeState) (g : Seen → Seen) → AllByRecursion IsWithin pipes
    → ForSome (slice_get pipes k) (λ p. IsWithin p → (seen_of (f p) ≡ g (seen_of p)) × IsWithin (f p))
    → Shows (with_pipe pipes k (slice_get pipes k) f) (seen_with (map seen_of pipes) k (slice_get (map seen_of pipes) k) g)
with-shown pipes k f g all at = record {
  shown = shown-with pipes k f g (λ p is. (at p is (each_get IsWithin pipes k p all is)).0);
  within = with_each IsWithin IsWithin pipes k (slice_get pipes k) f (λ p h. h) (λ p is within. (at p is within).1) refl all;
}

next : (pipes : List PipeState) (step : PipeStep) → AllByRecursion IsWithin pipes → MayStep (map seen_of pipes) step → Shows (stepped pipes step) (seen_after (map seen_of pipes) step)
next pipes Open all may = record {
  shown = sym (map-append seen_of pipes (new_pipe ∷ []));
  within = each_append IsWithin pipes (new_pipe ∷ []) all (omega arith, tt);
}
next pipes (Put k bytes) all may = with-shown pipes k (λ p. record p { written = p.written ++ bytes }) _ all (λ p is within. (
  ap (λ (bs : List ℕ). record { held = bs; readers = p.readers; writers = p.writers }) (drop-append-le p.taken p.written bytes within),
  simp length-append (omega arith),
))
next pipes (Take k count) all may = with-shown pipes k (λ p. record p { taken = p.taken + count }) _ all (λ p is within. (
  ap (λ (bs : List ℕ). record { held = bs; readers = p.readers; writers = p.writers }) (sym (drop-drop count p.taken p.written)),
  (let held : count ≤ length (drop p.taken p.written) = seen-at pipes k (λ s. count ≤ length s.held) may p is in omega (arith, length-drop p.taken p.written)),
))
next pipes (Add (Read k)) all may = with-shown pipes k (λ p. record p { readers = p.readers + 1 }) _ all (λ p is within. (refl, within))
next pipes (Add (Write k)) all may = with-shown pipes k (λ p. record p { writers = p.writers + 1 }) _ all (λ p is within. (refl, within))
next pipes (Drop (Read k)) all may = with-shown pipes k (λ p. record p { readers = p.readers - 1 }) _ all (λ p is within. (refl, within))
next pipes (Drop (Write k)) all may = with-shown pipes k (λ p. record p { writers = p.writers - 1 }) _ all (λ p is within. (refl, within))

pub shows-next : (pipes : List PipeState) (seen : List Seen) (step : PipeStep) → Shows pipes seen → MayStep seen step → Shows (stepped pipes step) (seen_after seen step)
shows-next pipes seen step shows may =
    subst (λ (s : List Seen). Shows (stepped pipes step) (seen_after s step)) (sym shows.shown)
    (next pipes step shows.within (subst (λ (s : List Seen). MayStep s step) shows.shown may))

-- ---- how many descriptors stand for an end
-- at most one more
has-more : (n : ℕ) (p : PipeState) → HasAtMost n p → HasAtMost (n + 1) p
has-more n p has = (omega arith, omega arith)

-- the ends of one pipe are counted anew
more-with : (n : ℕ) (pipes : List PipeState) (k : ℕ) (f : PipeState → PipeState) → AllByRecursion (HasAtMost n) pipes
    → ((p : PipeState) → HasAtMost n p → HasAtMost (n + 1) (f p)) → AllByRecursion (HasAtMost (n + 1)) (with_pipe pipes k (slice_get pipes k) f)
more-with n pipes k f all one = with_each (HasAtMost n) (HasAtMost (n + 1)) pipes k (slice_get pipes k) f (has-more n) (λ p is has. one p has) refl all

pub grow-by-one : (n : ℕ) (pipes : List PipeState) (step : PipeStep) → AllByRecursion (HasAtMost n) pipes → AllByRecursion (HasAtMost (n + 1)) (stepped pipes step)
grow-by-one n pipes Open all = each_append (HasAtMost (n + 1)) pipes (new_pipe ∷ []) (each_more (HasAtMost n) (HasAtMost (n + 1)) (has-more n) pipes all) ((omega arith, omega arith), tt)
grow-by-one n pipes (Put k bytes) all = more-with n pipes k _ all (has-more n)
grow-by-one n pipes (Take k count) all = more-with n pipes k _ all (has-more n)
grow-by-one n pipes (Add (Read k)) all = more-with n pipes k _ all (λ p has. (omega arith, omega arith))
grow-by-one n pipes (Add (Write k)) all = more-with n pipes k _ all (λ p has. (omega arith, omega arith))
grow-by-one n pipes (Drop (Read k)) all = more-with n pipes k _ all (λ p has. (omega arith, omega arith))
grow-by-one n pipes (Drop (Write k)) all = more-with n pipes k _ all (λ p has. (omega arith, omega arith))
