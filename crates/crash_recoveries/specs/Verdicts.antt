-- What a verdict says.
use Rattle.std.specs.Prelude.{Bool, true, false}
use Rattle.crash_recoveries.specs.declared.verdict.Verdict.{Verdict}
use Rattle.crash_recoveries.specs.declared.verdict.Verdict.TheVariants.{Kept, Failed, Cut, TooLong}

-- a recovery failed
abbrev pub is_failed : Verdict → Bool
is_failed Kept = false
is_failed (Failed failure lines) = true
is_failed Cut = false
is_failed TooLong = false

-- each recovery ended with status 0, and all was tried
abbrev pub is_kept : Verdict → Bool
is_kept Kept = true
is_kept (Failed failure lines) = false
is_kept Cut = false
is_kept TooLong = false
