-- What a share stands for, and how it grows.
use Rattle.std.specs.Prelude.{◌≡◌, ℕ, ◌+◌, List, [], ◌∷◌, ◌++◌, Option, Result, MatchResult, MatchOption}
use Rattle.kernel_model.specs.declared.answer.Answer.{Answer}
use Rattle.kernel_model.specs.declared.answer.Refused.{Refused}
use Rattle.kernel_model.specs.declared.event.Event.{Event}
use Rattle.kernel_step.specs.declared.loan.Loan.{Loan}
use Rattle.bursts.specs.declared.loan_id.LoanId.{LoanId}
use Rattle.bursts.specs.declared.totals.Totals.{Totals}
use Rattle.bursts.specs.LoanIds.{id_of_loan}
use Rattle.bursts.specs.Totals.{none, plus, settled_totals, event_totals}

-- a share: how many of the 64 parts, its four numbers, and the loans that its holder was lent, in order
pub record Holding : Type 0 where
  pub parts : ℕ
  pub totals : Totals
  pub lent : List LoanId

-- a part that was split off: nothing was done with it yet
abbrev pub new_part : Holding
new_part = record { parts = 1; totals = none; lent = [] }

-- the share with this much more
abbrev pub grown : Holding → Totals → Holding
grown h by = record { parts = h.parts; totals = plus h.totals by; lent = h.lent }

-- the share with these loans more
abbrev pub lent_to : Holding → List LoanId → Holding
lent_to h ids = record { parts = h.parts; totals = h.totals; lent = h.lent ++ ids }

-- what some shares have: how many parts, and their four numbers, added up
pub record Sum : Type 0 where
  pub parts : ℕ
  pub totals : Totals

-- a sum with one share more
abbrev pub with_share : Sum → Holding → Sum
with_share a h = record { parts = a.parts + h.parts; totals = plus a.totals h.totals }

-- how many parts these shares have
abbrev pub parts_in : List Holding → ℕ
parts_in [] = 0
parts_in (h ∷ hs) = h.parts + parts_in hs

-- what their numbers add up to
abbrev pub sum_of : List Holding → Totals
sum_of [] = none
sum_of (h ∷ hs) = plus h.totals (sum_of hs)

-- a sum with these shares more
abbrev pub with_shares : Sum → List Holding → Sum
with_shares a hs = record { parts = a.parts + parts_in hs; totals = plus a.totals (sum_of hs) }

-- a share grows by the loan that was given, and by nothing where none was
abbrev pub GrowsByLoan : Holding → Holding → Option Loan → Type 0
GrowsByLoan old new given = MatchOption given (new ≡ old) (λ l. new ≡ lent_to old (id_of_loan l ∷ []))

-- the same of a lending that may be refused
abbrev pub GrowsByLend : Holding → Holding → Result (Option Loan) Refused → Type 0
GrowsByLend old new result = MatchResult result (GrowsByLoan old new) (λ _. new ≡ old)

-- a share grows by what a result of process pid adds, and by nothing where it was not taken back
abbrev pub GrowsBySettle : {E : Type 0} → ℕ → Holding → Holding → Result Answer E → Type 0
GrowsBySettle pid old new result = MatchResult result (λ a. new ≡ grown old (settled_totals pid a)) (λ _. new ≡ old)

-- a share grows by what an event adds, where it was accepted
abbrev pub GrowsByEvent : Event → Holding → Holding → Result Answer Refused → Type 0
GrowsByEvent event old new result = MatchResult result (λ a. new ≡ grown old (event_totals event a)) (λ _. new ≡ old)
