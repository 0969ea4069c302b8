-- The next task that fits.
use Rattle.std.proofs.Common.{◌≡◌, ℕ, List, slice_get, slice_index_or, Some}
use Rattle.kernel_step.specs.Lending.{is_fit, next_fit, IsFitAt}
use Rattle.kernel_step.specs.declared.task.Task.{Task}
use Rattle.kernel_step.proofs.LendPick.{round-passes}
use Rattle.std.proofs.lemmas.Option.{slice_get_within}
use Rattle.kernel_step.proofs.Lists.{get-there}

pub fit-at : (quantum served from : ℕ) (tasks : List Task) (place : ℕ) → next_fit quantum served from tasks ≡ Some place → IsFitAt quantum served tasks place
fit-at quantum served from tasks place e =
    let h = round-passes (is_fit quantum served) from tasks place e in
    record { task = h.item; there = h.there; fit = h.passes }

-- the task at this place is the one that fits
pub fit-there : (quantum served : ℕ) (tasks : List Task) (place : ℕ) (t : Task) (at : IsFitAt quantum served tasks place)
    → t ≡ slice_index_or tasks place t → t ≡ at.task
fit-there quantum served tasks place t at is =
    let there : slice_get tasks place ≡ Some t = get-there tasks place t (slice_get_within tasks place at.task at.there) is in
    let found : slice_get tasks place ≡ Some at.task = at.there in
    cc
