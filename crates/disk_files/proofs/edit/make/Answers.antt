use Rattle.disk_files.proofs.Changes.{makes_more}
use Rattle.disk_files.proofs.edit.make.Goals as goal

pub returns-clause-makes : goal.returns-clause-makes
returns-clause-makes c = λ first h.
    let more = makes_more first c.args.files.now c.args.changes.now.items c.args.change h c.requires.formed c.requires.possible in
    rw (c.in_ok-change.ensures.ok, c.in_ok-push.ensures.items) more
