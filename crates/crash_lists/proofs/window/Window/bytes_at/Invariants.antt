-- The file lives at none of the moments so far, from the last one back.
use Rattle.std.proofs.Common.{◌≡◌, ◌+◌, ◌-◌}
use Rattle.crash_lists.specs.Rules.{bytes_at, bytes_before}
use Rattle.crash_lists.proofs.window.Window.bytes_at.Given as goal

abbrev pub invariant-loop-back : goal.invariant-loop-back
invariant-loop-back l = bytes_at l.self.moments.items l.number l.moment ≡ bytes_before l.self.moments.items l.number (l.moment + 1 - l.back)
