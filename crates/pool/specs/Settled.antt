-- What a settling says.
use Rattle.std.specs.Prelude.{◌≡◌, ◌⊎◌, ℕ, ◌+◌, ◌≤◌, List, [], ◌∷◌, ◌++◌, length, map, Bool, if◌then◌else◌, Option, Some, None, Err, IfSome, MatchOption}
use Rattle.kernel_model.specs.Answers.{Kernel}
use Rattle.kernel_step.specs.Loaned.{Settles}
use Rattle.kernel_step.specs.declared.loan.Done.{Done}
use Rattle.kernel_step.specs.declared.loan.Rejected.{Rejected}
use Rattle.bursts.specs.Holdings.{Holding, grown}
use Rattle.bursts.specs.LoanIds.{id_of_result}
use Rattle.bursts.specs.declared.loan_id.LoanId.{LoanId}
use Rattle.bursts.specs.declared.totals.Totals.{Totals}
use Rattle.pool.specs.declared.hand.Hand.{Hand}
use Rattle.pool.specs.declared.settling.Settling.{Settling}
use Rattle.pool.specs.declared.settling.Sums.{Sums}
use Rattle.pool.specs.Hands.{hand}
use Rattle.pool.specs.Queues.{AtQueue}

-- what a settling adds to a share
abbrev pub totals_in : Settling → Totals
totals_in s = record { events = s.events; ran = s.ran; turns = s.turns; enters = s.enters }

-- the one result that was not taken back, if there was one
abbrev pub rejected_in : Option Rejected → List LoanId
rejected_in None = []
rejected_in (Some r) = id_of_result r.done ∷ []

-- some core does not take a result back, and gives it back with this reason
pub record SomeCoreRejects (r : Rejected) : Type 0 where
  pub old : Kernel
  pub new : Kernel
  pub done : Done
  pub rejects : Settles old done new (Err r)

-- the process numbers, added up
abbrev pub sum_of_processes : List LoanId → ℕ
sum_of_processes [] = 0
sum_of_processes (x ∷ xs) = x.pid + sum_of_processes xs

-- a result that was settled: of which loan, and whether an Enter came after its Turn
abbrev pub Settlement : Type 0
Settlement = LoanId × Bool

-- of which loans they are
abbrev pub loans_in : List Settlement → List LoanId
loans_in ds = map (λ (d : Settlement). d.0) ds

-- how many came to an Enter
abbrev pub count_entered : List Settlement → ℕ
count_entered [] = 0
count_entered (d ∷ ds) = (if d.1 then 1 else 0) + count_entered ds

-- the process numbers of those, added up
abbrev pub sum_of_entered : List Settlement → ℕ
sum_of_entered [] = 0
sum_of_entered (d ∷ ds) = (if d.1 then d.0.pid else 0) + sum_of_entered ds

-- what one result adds: its Turn alone, or an Enter of the same process too
abbrev pub IsOfOne : Totals → Type 0
IsOfOne c = ((c.events ≡ 1) × (c.enters ≡ 0)) ⊎ ((c.events ≡ 2) × (c.enters ≡ c.turns))

-- The pass took as many results as were settled, of these process numbers, and beside them the one rejected, if there was one. The
-- events are a Turn of each and the Enters that came after them, and no others. The share grew by what the settling says. Some core
-- rejects the one rejected so.
pub record Settled (v : Hand) (h : Holding) (s : Settling) (w : Hand) (k : Holding) : Type 0 where
  pub done : List Settlement
  pub taken : w ≡ hand v.put (v.taken ++ (loans_in done ++ rejected_in s.rejected))
  pub settled : length done ≡ s.settled
  pub turns : sum_of_processes (loans_in done) ≡ s.turns
  pub events : s.settled ≤ s.events
  pub entered : s.settled + count_entered done ≡ s.events
  pub enters : sum_of_entered done ≡ s.enters
  pub share : k ≡ grown h (totals_in s)
  pub refused : IfSome s.rejected SomeCoreRejects

-- a settling ended with a result that was rejected, or with the queue, which was found empty, or with the 1,024th result
abbrev pub Ends : AtQueue → Settling → AtQueue → Type 0
Ends v s w =
    (w.full ≡ v.full)
    × MatchOption s.rejected ((w.empty ≡ v.empty + 1) ⊎ ((w.empty ≡ v.empty) × (s.settled ≡ 1024))) (λ r. w.empty ≡ v.empty)

-- the settling that comes to these sums, and ended with this result, if there was one that was rejected
abbrev pub ended_with : Sums → Option Rejected → Settling
ended_with s rejected = record { settled = s.settled; events = s.totals.events; ran = s.totals.ran; turns = s.totals.turns; enters = s.totals.enters; rejected = rejected }

-- of which none was rejected
abbrev pub settling_of : Sums → Settling
settling_of s = ended_with s None

-- nothing was settled
abbrev pub no_settling : Settling
no_settling = record { settled = 0; events = 0; ran = 0; turns = 0; enters = 0; rejected = None }

-- one result more was settled, which added this
abbrev pub more : Settling → Totals → Settling
more s c = record {
  settled = s.settled + 1;
  events = s.events + c.events;
  ran = s.ran + c.ran;
  turns = s.turns + c.turns;
  enters = s.enters + c.enters;
  rejected = s.rejected;
}

-- two settlings, one after the other
abbrev pub after : Settling → Settling → Settling
after s t = record {
  settled = s.settled + t.settled;
  events = s.events + t.events;
  ran = s.ran + t.ran;
  turns = s.turns + t.turns;
  enters = s.enters + t.enters;
  rejected = t.rejected;
}
