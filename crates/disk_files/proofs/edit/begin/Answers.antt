-- The file of the name is at the place that is given.
use Rattle.std.proofs.Common.{rules, sym}
use Rattle.disk_files.proofs.Places.{added, added_empty, emptied}
use Rattle.disk_files.proofs.edit.begin.Goals as goal

pub returns-in-Some-clause-file : goal.returns-in-Some-clause-file
returns-in-Some-clause-file c = λ bytes.
    emptied c.args.files.now c.make.new.files c.args.name.now bytes c.in-Some.place c.two_bytes-file.result (sym c.in-Some.ensures.place) c.two_bytes-file.ensures c.in_ok-make.ensures.done

pub returns-clause-empty : goal.returns-clause-empty
returns-clause-empty c = added_empty c.args.files.now c.make-2.new.files c.args.name.now c.two_bytes-file-2.result (search rules) (search rules)

pub returns-clause-file : goal.returns-clause-file
returns-clause-file c = λ bytes.
    added c.args.files.now c.make-2.new.files c.args.name.now bytes c.two_bytes-file-2.result (search rules) (search rules) (search rules)
