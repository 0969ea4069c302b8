-- Checkpoints that are kept, and that are taken.
use Rattle.std.proofs.Common.{arith, ◌≡◌, ◌∙◌, ◌++◌, ◌∷◌, [], ◌+◌, ◌<◌, ◌≤◌, ℕ, suc, List, length, take, get_or, refl, ap, subst, sym}
use Rattle.std.specs.List.{AllByRecursion}
use Rattle.std.proofs.Math.Seq.{take-suc}
use Rattle.std.proofs.lemmas.List.{length-append, take_all}
use Rattle.order_laws.specs.Moves.{calls as moves}
use Rattle.explored_runs.specs.Answering.{IsRunOf}
use Rattle.explored_runs.specs.Checkpoints.{BeginsWith}
use Rattle.explored_runs.specs.declared.runs.Runs.{Runs}
use Rattle.replayed_runs.specs.Replays.{seen_of}
use Rattle.replayed_runs.specs.declared.replay.Replay.{Replay}
use Rattle.explored_runs.proofs.Keying.{call_more}

-- the last one, and those before it
pub last_apart : {X : Type 0} (P : X → Type 0) (xs : List X) (x : X) → AllByRecursion P (xs ++ x ∷ []) → AllByRecursion P xs × P x
last_apart P [] x all = (tt, all.0)
last_apart P (y ∷ xs) x all = let others = last_apart P xs x all.1 in ((all.0, others.0), others.1)

pub one_more : {X : Type 0} (P : X → Type 0) (xs : List X) (x : X) → AllByRecursion P xs → P x → AllByRecursion P (xs ++ x ∷ [])
one_more P [] x all one = (one, tt)
one_more P (y ∷ xs) x all one = (all.0, one_more P xs x all.1 one)

-- of calls that begin with some, as many are these
take_first : (first others : List ℕ) → take (length first) (first ++ others) ≡ first
take_first [] others = refl
take_first (p ∷ first) others = ap (λ (ps : List ℕ). p ∷ ps) (take_first first others)

pub first_taken : (ps first : List ℕ) → BeginsWith ps first → take (length first) ps ≡ first
first_taken ps first begins = ap (λ (qs : List ℕ). take (length first) qs) begins.1 ∙ take_first first begins.0

pub first_fewer : (ps first : List ℕ) → BeginsWith ps first → length first ≤ length ps
first_fewer ps first begins =
    let all = ap (λ (qs : List ℕ). length qs) begins.1 ∙ length-append first begins.0 in
    omega (arith, all)

-- the run of the calls before a place, after the call there
pub next_made : (r : Runs) (ps : List ℕ) (place : ℕ) (x y : Replay) → place < length ps → IsRunOf r (take place ps) x
    → seen_of y.core ≡ (moves x.limit).go (seen_of x.core) (get_or ps place 0) → y.limit ≡ x.limit → IsRunOf r (take (place + 1) ps) y
next_made r ps place x y below run moved limit =
    let next : take (place + 1) ps ≡ take place ps ++ get_or ps place 0 ∷ [] =
    ap (λ j. take j ps) (let is : place + 1 ≡ suc place = omega arith in is) ∙ take-suc ps place 0 below in
    subst (λ (qs : List ℕ). IsRunOf r qs y) (sym next) (call_more r (take place ps) (get_or ps place 0) x y run moved limit)

-- in the end all of them were made
pub all_made : (r : Runs) (ps : List ℕ) (place : ℕ) (x : Replay) → length ps ≤ place → IsRunOf r (take place ps) x → IsRunOf r ps x
all_made r ps place x past run = subst (λ (qs : List ℕ). IsRunOf r qs x) (take_all place ps past) run
