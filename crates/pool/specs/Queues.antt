-- The queue of results as one worker has it.
use Rattle.std.specs.Prelude.{ℕ, ◌+◌}
use Rattle.bursts.specs.declared.loan_id.LoanId.{LoanId}
use Rattle.pool.specs.declared.hand.Hand.{Hand}
use Rattle.pool.specs.Hands.{no_hand, gave, took}

-- what the worker put in and took, how often it found the queue full, and how often empty
pub record AtQueue : Type 0 where
  pub hand : Hand
  pub full : ℕ
  pub empty : ℕ

-- nothing was done there yet
abbrev pub new_at_queue : AtQueue
new_at_queue = record { hand = no_hand; full = 0; empty = 0 }

-- one result more was put in
abbrev pub with_put : AtQueue → LoanId → AtQueue
with_put q x = record { hand = gave q.hand x; full = q.full; empty = q.empty }

-- one result more was taken
abbrev pub with_taken : AtQueue → LoanId → AtQueue
with_taken q x = record { hand = took q.hand x; full = q.full; empty = q.empty }

-- once more it was found full
abbrev pub found_full : AtQueue → AtQueue
found_full q = record { hand = q.hand; full = q.full + 1; empty = q.empty }

-- once more it was found empty
abbrev pub found_empty : AtQueue → AtQueue
found_empty q = record { hand = q.hand; full = q.full; empty = q.empty + 1 }
