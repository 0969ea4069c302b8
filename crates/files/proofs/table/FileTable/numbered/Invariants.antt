-- The numbers so far.
use Rattle.std.proofs.Common.{◌≡◌, take}
use Rattle.disk_model.specs.Numbers.{numbers_from}
use Rattle.files.proofs.table.FileTable.numbered.Given as goal

abbrev pub invariant-loop-number : goal.invariant-loop-number
invariant-loop-number l = l.numbers.items ≡ take l.number (numbers_from 0 l.fn.list)
