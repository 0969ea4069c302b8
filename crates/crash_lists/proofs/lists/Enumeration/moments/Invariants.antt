-- Each file so far has its moments.
use Rattle.std.proofs.Common.{◌≡◌}
use Rattle.std.specs.Prelude.{vec_len}
use Rattle.crash_lists.specs.Rules.{AreMomentsOf}
use Rattle.crash_lists.proofs.lists.Enumeration.moments.Given as goal

abbrev pub invariant-loop-file : goal.invariant-loop-file
invariant-loop-file l = record {
  count : vec_len l.all ≡ l.file-index;
  each : AreMomentsOf l.self.model l.self.window.now.moments.items l.listed.cells.common l.listed.files l.listed.cells.files.items l.all.items;
}
