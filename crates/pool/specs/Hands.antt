-- What a pass of a queue or of a deque shows: the results or the loans that it put in, and those that it took.
use Rattle.std.specs.Prelude.{◌≡◌, ℕ, ◌+◌, List, [], ◌∷◌, ◌++◌, map}
use Rattle.bursts.specs.declared.loan_id.LoanId.{LoanId}
use Rattle.pool.specs.declared.hand.Hand.{Hand}

abbrev pub hand : List LoanId → List LoanId → Hand
hand put taken = record { put = put; taken = taken }

-- nothing was put in or taken
abbrev pub no_hand : Hand
no_hand = hand [] []

-- one thing more was put in
abbrev pub gave : Hand → LoanId → Hand
gave v x = hand (v.put ++ x ∷ []) v.taken

-- one thing more was taken
abbrev pub took : Hand → LoanId → Hand
took v x = hand v.put (v.taken ++ x ∷ [])

-- the weights of some things, added up
abbrev pub weigh : (LoanId → ℕ) → List LoanId → ℕ
weigh h [] = 0
weigh h (x ∷ xs) = h x + weigh h xs

-- a number of each pass, added up
abbrev pub total : (Hand → ℕ) → List Hand → ℕ
total f [] = 0
total f (v ∷ vs) = f v + total f vs

-- What went in has come out once or is still there: what all passes put in is what they took and what is there, however the things
-- are weighed. (Weigh one of them 1 and the others 0: then these count how often it was put in, was taken and stands there.)
abbrev pub Balanced : {T : Type 0} → (T → LoanId) → List T → List Hand → Type 0
Balanced id items views = (h : LoanId → ℕ) → total (λ v. weigh h v.put) views ≡ total (λ v. weigh h v.taken) views + weigh h (map id items)
