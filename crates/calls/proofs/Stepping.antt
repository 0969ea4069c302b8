-- Steps of pipes that come one after the other.
use Rattle.std.proofs.Common.{◌≡◌, ℕ, suc, ◌+◌, ◌^◌, ◌<◌, ◌≤◌, List, [], ◌∷◌, length, map, slice_get, Option, Some, None, refl, sym, subst, arith}
use Rattle.std.specs.List.{AllByRecursion, cons_option}
use Rattle.disk_model.proofs.Lists.{each_get, each_set, each_more}
use Rattle.kernel_model.specs.Rows.{end_of, ends_of}
use Rattle.kernel_model.specs.State.{PipeState}
use Rattle.kernel_model.specs.declared.descriptor.Descriptor.{Descriptor}
use Rattle.kernel_model.specs.declared.descriptor.PipeEnd.{PipeEnd}
use Rattle.kernel_model.specs.declared.descriptor.PipeEnd.TheVariants.{Read, Write}
use Rattle.kernel_model.specs.declared.effect.PipeStep.TheVariants.{Add, Drop}
use Rattle.pipes.specs.Seen.{Seen, seen_of, Shows}
use Rattle.pipes.specs.Stepping.{seen_with, seen_after, HasAtMost}
use Rattle.calls.specs.Plans.{MayAllStep, OpensNone}

-- ---- how many descriptors stand for an end

-- at most n descriptors stand for each end of a pipe
abbrev pub HasFew : ℕ → Seen → Type 0
HasFew n x = (x.readers ≤ n) × (x.writers ≤ n)

few-more : (n : ℕ) (xs : List Seen) → AllByRecursion (HasFew n) xs → AllByRecursion (HasFew (n + 1)) xs
few-more n xs all = each_more (HasFew n) (HasFew (n + 1)) (λ x h. (omega (arith, h.0), omega (arith, h.1))) xs all

few-with : (n : ℕ) (xs : List Seen) (k : ℕ) (o : Option Seen) (f : Seen → Seen) → ((x : Seen) → HasFew n x → HasFew (n + 1) (f x)) → slice_get xs k ≡ o
    → AllByRecursion (HasFew n) xs → AllByRecursion (HasFew (n + 1)) (seen_with xs k o f)
few-with n xs k None f one e all = few-more n xs all
few-with n xs k (Some x) f one e all = each_set (HasFew (n + 1)) xs k (f x) (one x (each_get (HasFew n) xs k x all e)) (few-more n xs all)

-- ends of which there are few can be counted, once more for each of these
pub adds-may : (n : ℕ) (ends : List PipeEnd) (seen : List Seen) → n + length ends < 2 ^ 64 → AllByRecursion (HasFew n) seen
    → MayAllStep seen (map Add ends)
adds-may n [] seen lt all = tt
adds-may n (Read k ∷ ends) seen lt all = (
  λ x is. omega (arith, (each_get (HasFew n) seen k x all is).0),
  adds-may (n + 1) ends (seen_after seen (Add (Read k))) (omega arith)
      (few-with n seen k (slice_get seen k) (λ p. record p { readers = p.readers + 1 }) (λ x h. (omega (arith, h.0), omega (arith, h.1))) refl all),
)
adds-may n (Write k ∷ ends) seen lt all = (
  λ x is. omega (arith, (each_get (HasFew n) seen k x all is).1),
  adds-may (n + 1) ends (seen_after seen (Add (Write k))) (omega arith)
      (few-with n seen k (slice_get seen k) (λ p. record p { writers = p.writers + 1 }) (λ x h. (omega (arith, h.0), omega (arith, h.1))) refl all),
)

-- an end may be given up wherever that comes
pub drops-may : (ends : List PipeEnd) (seen : List Seen) → MayAllStep seen (map Drop ends)
drops-may [] seen = tt
drops-may (end ∷ ends) seen = (tt, drops-may ends (seen_after seen (Drop end)))

few-map : (n : ℕ) (pipes : List PipeState) → AllByRecursion (HasAtMost n) pipes → AllByRecursion (HasFew n) (map seen_of pipes)
few-map n [] all = tt
few-map n (p ∷ ps) all = (all.0, few-map n ps all.1)

-- what is seen of pipes has as few ends
pub few-shown : (n : ℕ) (pipes : List PipeState) (seen : List Seen) → Shows pipes seen → AllByRecursion (HasAtMost n) pipes → AllByRecursion (HasFew n) seen
few-shown n pipes seen shows all = subst (AllByRecursion (HasFew n)) (sym shows.shown) (few-map n pipes all)

length-cons : (e : Option PipeEnd) (es : List PipeEnd) → length (cons_option e es) ≤ suc (length es)
length-cons None es = omega arith
length-cons (Some e) es = omega arith

-- there are no more ends than descriptors
pub length-ends_of : (ds : List (Option Descriptor)) → length (ends_of ds) ≤ length ds
length-ends_of [] = omega arith
length-ends_of (d ∷ ds) = omega (arith, length-cons (end_of d) (ends_of ds), length-ends_of ds)

-- ends that are counted, or given up, open no pipe
pub adds-open-none : (ends : List PipeEnd) → AllByRecursion OpensNone (map Add ends)
adds-open-none [] = tt
adds-open-none (end ∷ ends) = (tt, adds-open-none ends)

pub drops-open-none : (ends : List PipeEnd) → AllByRecursion OpensNone (map Drop ends)
drops-open-none [] = tt
drops-open-none (end ∷ ends) = (tt, drops-open-none ends)
