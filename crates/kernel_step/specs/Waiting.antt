-- Processes that wait.
use Rattle.std.specs.Prelude.{ℕ, ◌+◌, ◌==◌, Bool, false, Option, Some, None}
use Rattle.kernel_model.specs.declared.request.Verdict.{Verdict}
use Rattle.kernel_model.specs.declared.request.Verdict.TheVariants.{Waits, Replies, Ends}

-- a process whose last Enter had to wait when so many Enters were served still waits where no more have been
abbrev pub is_asleep : ℕ → Option ℕ → Bool
is_asleep served None = false
is_asleep served (Some before) = before == served

-- how many Enters are served after one more, which is not if it has to wait
abbrev pub served_after : Verdict → ℕ → ℕ
served_after Waits served = served
served_after (Replies r) served = served + 1
served_after (Ends status) served = served + 1

-- when its last Enter had to wait, if it had, after one more
abbrev pub waited_after : Verdict → ℕ → Option ℕ → Option ℕ
waited_after Waits served waited = Some served
waited_after (Replies r) served waited = waited
waited_after (Ends status) served waited = waited
