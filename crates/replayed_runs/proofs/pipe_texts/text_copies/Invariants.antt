-- The copies so far.
use Rattle.std.proofs.Common.{◌≡◌, map, take}
use Rattle.replayed_runs.specs.Copies.{text_in}
use Rattle.replayed_runs.proofs.pipe_texts.text_copies.Given as goal

abbrev pub invariant-loop-text : goal.invariant-loop-text
invariant-loop-text l = map text_in l.copies.items ≡ map text_in (take l.text-index l.texts)
