-- A deque as one worker has it.
use Rattle.std.specs.Prelude.{◌≡◌, ℕ, ◌+◌, List, ◌++◌, ◌∷◌, map}
use Rattle.bursts.specs.declared.loan_id.LoanId.{LoanId}
use Rattle.pool.specs.declared.hand.Hand.{Hand}
use Rattle.pool.specs.Hands.{hand, no_hand, took}

-- which deque it is
abbrev pub DequeId : Type 0
DequeId = ℕ × ℕ

-- which deque it is, what the worker put in and took, and how often it looked there and found nothing
pub record AtDeque : Type 0 where
  pub deque : DequeId
  pub hand : Hand
  pub missed : ℕ

-- nothing was done there yet
abbrev pub new_at : DequeId → AtDeque
new_at d = record { deque = d; hand = no_hand; missed = 0 }

-- these loans more were put in
abbrev pub put_in : AtDeque → List LoanId → AtDeque
put_in d ids = record { deque = d.deque; hand = hand (d.hand.put ++ ids) d.hand.taken; missed = d.missed }

-- one loan more was taken
abbrev pub took_from : AtDeque → LoanId → AtDeque
took_from d x = record { deque = d.deque; hand = took d.hand x; missed = d.missed }

-- once more nothing was found
abbrev pub missed_at : AtDeque → AtDeque
missed_at d = record { deque = d.deque; hand = d.hand; missed = d.missed + 1 }

-- The first of these deques that had a loan gave this one: those before it had none.
pub record Stolen (old new : List AtDeque) (x : LoanId) : Type 0 where
  pub before : List AtDeque
  pub from : AtDeque
  pub after : List AtDeque
  pub old_is : old ≡ before ++ from ∷ after
  pub new_is : new ≡ map missed_at before ++ took_from from x ∷ after
