-- What the search takes as a private call is one.
use Rattle.std.proofs.Common.{arith, ◌≡◌, ◌∙◌, ◌∷◌, [], ◌==◌, ◌≤◌, ◌&&◌, ℕ, zero, suc, List, map, length, slice_get, Bool, true, false, not, Option, Some, None, IfSome, is_some, refl, sym, ap, subst}
use Rattle.std.specs.Prelude.{option_map}
use Rattle.std.specs.List.{AllByRecursion, list_all, list_any}
use Rattle.std.proofs.lemmas.Bool.{eq-eqb, false≢true, ltb-true, or_left, or_right, or_parts, and_parts}
use Rattle.std.proofs.lemmas.Option.{slice_get-map, slice_get_within}
use Rattle.disk_model.proofs.Lists.{each_more}
use Rattle.kernel_model.specs.Entries.{is_among, is_same}
use Rattle.kernel_model.specs.Limits.{AreNumbered}
use Rattle.kernel_model.specs.State.{SyncState, Process, process_at}
use Rattle.kernel_model.specs.Steps.{after_enter, step}
use Rattle.kernel_model.specs.declared.carrier.Carrier.{Carrier}
use Rattle.kernel_model.specs.declared.carrier.Carrier.TheVariants.{Proc, File, Names, Pipe, Pipes, Tasks, Tape}
use Rattle.kernel_model.specs.declared.effect.Output.{Output}
use Rattle.kernel_model.specs.declared.event.Event.TheVariants.{Enter}
use Rattle.kernel_model.proofs.Meets.{same_self}
use Rattle.kernel_laws.proofs.Frames.{step_keeps_but}
use Rattle.kernel_laws.proofs.Written.{step_reads}
use Rattle.order_laws.specs.Moves.{Seen, label_in, label_of, writes_some}
use Rattle.order_laws.specs.Privacy.{Claim, IsPrivate, LeavesAlone, is_claimed, stands_for_claimed}
use Rattle.order_laws.proofs.Swapping.{at_one, not_written}
use Rattle.processes.specs.Parts.{part_of}
use Rattle.replayed_runs.specs.Owning.{IsTaken, claim_of, has_claimed, is_terminal, may_be_own, meets_claim}

-- each of these carriers is among them
among_each : (rs : List Carrier) → AllByRecursion (λ (x : Carrier). is_among x rs ≡ true) rs
among_each [] = tt
among_each (r ∷ rs) = (
  or_left (is_same r r) (is_among r rs) (same_self r),
  each_more (λ (x : Carrier). is_among x rs ≡ true) (λ (x : Carrier). is_among x (r ∷ rs) ≡ true) (λ x m. or_right (is_same x r) (is_among x rs) m) rs (among_each rs),
)

-- none of these passes the test
none_passes : {X : Type 0} (f : X → Bool) (xs : List X) → list_any f xs ≡ false → AllByRecursion (λ (x : X). f x ≡ false) xs
none_passes f [] none = tt
none_passes f (x ∷ xs) none = let both = or_parts (f x) (list_any f xs) none in (both.0, none_passes f xs both.1)

-- each of these passes it
each_passes : {X : Type 0} (f : X → Bool) (xs : List X) → list_all f xs ≡ true → AllByRecursion (λ (x : X). f x ≡ true) xs
each_passes f [] all = tt
each_passes f (x ∷ xs) all = let both = and_parts (f x) (list_all f xs) all in (both.0, each_passes f xs both.1)

-- a process that is not there makes no call
pub works_there : (s : SyncState) (p : ℕ) → writes_some (label_of (step s (Enter p)).entry) ≡ true → p ≤ length s.processes
works_there s p works = by p (process_at s.processes p) refl works
  where
    by : (q : ℕ) (o : Option Process) → process_at s.processes q ≡ o → writes_some (label_of (after_enter s q o).entry) ≡ true → q ≤ length s.processes
    by zero o at made = omega arith
    by (suc k) None at made = absurd (false≢true made)
    by (suc k) (Some z) at made = let within = slice_get_within s.processes k z at in omega (arith, within)

module _ (s : Seen) (p : ℕ) (are : AreNumbered s.sync.files) (reads : List Carrier) (terminal : Option ℕ)
    (works : writes_some (label_in s (Enter p)) ≡ true) (reads_are : (label_in s (Enter p)).reads ≡ Proc p ∷ reads)
    (output_is : IfSome (label_in s (Enter p)).output (λ (o : Output). is_terminal terminal o.terminal ≡ true))
    (taken : IsTaken p reads terminal (map part_of (step s.sync (Enter p)).state.processes) (length (step s.sync (Enter p)).state.pipes)) where
  abbrev c : Claim
  c = claim_of p reads terminal

  abbrev after : SyncState
  after = (step s.sync (Enter p)).state

  own : AllByRecursion (λ (x : Carrier). may_be_own p (length after.pipes) x ≡ true) reads
  own = each_passes (λ x. may_be_own p (length after.pipes) x) reads taken.own

  one_claimed : (x : Carrier) → is_among x reads ≡ true → may_be_own p (length after.pipes) x ≡ true → is_claimed c x ≡ true
  one_claimed (Proc q) among mine = mine
  one_claimed (File n) among mine = absurd (false≢true mine)
  one_claimed Names among mine = absurd (false≢true mine)
  one_claimed (Pipe k) among mine = among
  one_claimed Pipes among mine = absurd (false≢true mine)
  one_claimed Tasks among mine = absurd (false≢true mine)
  one_claimed (Tape t) among mine = among

  each_claimed : (rs : List Carrier) → AllByRecursion (λ (x : Carrier). is_among x reads ≡ true) rs → AllByRecursion (λ (x : Carrier). may_be_own p (length after.pipes) x ≡ true) rs
      → AllByRecursion (λ (x : Carrier). is_claimed c x ≡ true) rs
  each_claimed [] among mine = tt
  each_claimed (r ∷ rs) among mine = (one_claimed r among.0 mine.0, each_claimed rs among.1 mine.1)

  reads_claimed : AllByRecursion (λ (x : Carrier). is_claimed c x ≡ true) (label_in s (Enter p)).reads
  reads_claimed =
      subst (λ (rs : List Carrier). AllByRecursion (λ (x : Carrier). is_claimed c x ≡ true) rs) (sym reads_are) (eq-eqb p p refl, each_claimed reads (among_each reads) own)

  -- what is not claimed stays
  unread : (x : Carrier) → is_claimed c x ≡ false → is_among x (label_in s (Enter p)).reads ≡ false
  unread x free = by (is_among x (label_in s (Enter p)).reads) refl
    where
      by : (b : Bool) → is_among x (label_in s (Enter p)).reads ≡ b → b ≡ false
      by true is = absurd (false≢true (sym free ∙ at_one (λ (y : Carrier). is_claimed c y ≡ true) x (label_in s (Enter p)).reads reads_claimed is))
      by false is = refl

  unwritten : (x : Carrier) → is_claimed c x ≡ false → is_among x (step s.sync (Enter p)).entry.writes ≡ false
  unwritten x free = not_written (step s.sync (Enter p)).entry.writes (step s.sync (Enter p)).entry.reads x (step_reads s.sync (Enter p)) (unread x free)

  stays : (q : ℕ) → (q == p) ≡ false → process_at after.processes q ≡ process_at s.sync.processes q
  stays q off = step_keeps_but s.sync (Enter p) are (Proc q) (unwritten (Proc q) off)

  as_many_pipes : length after.pipes ≡ length s.sync.pipes
  as_many_pipes = step_keeps_but s.sync (Enter p) are Pipes (unwritten Pipes refl)

  leaves : (z : Process) → has_claimed c z.descriptors z.children ≡ false → LeavesAlone c z
  leaves z none =
      let both = or_parts (list_any (λ d. stands_for_claimed c d) z.descriptors) (list_any (λ q. q == p) z.children) none in
      record { descriptors = none_passes (λ d. stands_for_claimed c d) z.descriptors both.0; children = none_passes (λ q. q == p) z.children both.1 }

  other : (q : ℕ) (z : Process) → (q == p) ≡ false → process_at after.processes q ≡ Some z → is_some z.status ≡ false → LeavesAlone c z
  other zero z off at lives = absurd (let no : ⊥ = cc in no)
  other (suc k) z off at lives =
      let there : slice_get (map part_of after.processes) k ≡ Some (part_of z) = slice_get-map part_of after.processes k ∙ ap (option_map part_of) at in
      let met : (not (suc k == p) && not (is_some z.status) && has_claimed c z.descriptors z.children) ≡ false = sym (ap (meets_claim c (suc k)) there) ∙ taken.others k in
      leaves z (by (suc k == p) (is_some z.status) off lives met)
    where
      by : (a b : Bool) {h : Bool} → a ≡ false → b ≡ false → (not a && not b && h) ≡ false → h ≡ false
      by false false is was none = none
      by true b is was none = absurd (false≢true (sym is))
      by false true is was none = absurd (false≢true (sym was))

  no_pipe : (k : ℕ) → length s.sync.pipes ≤ k → is_among (Pipe k) reads ≡ false
  no_pipe k past = by (is_among (Pipe k) reads) refl
    where
      by : (b : Bool) → is_among (Pipe k) reads ≡ b → b ≡ false
      by false is = refl
      by true is =
          let below = ltb-true k (length after.pipes) (at_one (λ (x : Carrier). may_be_own p (length after.pipes) x ≡ true) (Pipe k) reads own is) in
          let many = as_many_pipes in
          absurd (let no : ⊥ = omega (arith, below, many, past) in no)

  is_there : p ≤ length s.sync.processes
  is_there = works_there s.sync p works

  pub taken_is_private : IsPrivate s p
  taken_is_private = record {
    claim = c;
    owner = refl;
    claimed = record {
      others = λ q z off at lives. other q z off (stays q off ∙ at) lives;
      owner = is_there;
      pipes = no_pipe;
    };
    reads = reads_claimed;
    output = output_is;
    works = works;
  }
