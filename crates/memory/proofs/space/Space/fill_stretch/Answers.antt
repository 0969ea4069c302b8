-- What stands in one run is copied, where it may be written.
use Rattle.memory.proofs.Rooms.{fixed-same, put-copied, put-kept, put-room}
use Rattle.memory.proofs.space.Space.fill_stretch.Goals as goal

pub returns-then-rights-clause-room : goal.returns-then-rights-clause-room
returns-then-rights-clause-room c =
    put-room c.args.self.now c.copy_out.new.self c.args.from.now c.args.at c.in-Some.bytes.now c.in-Some.rights c.requires.room c.in-Some.ensures.bytes c.copy_out.result c.if-rights.true c.copy_out.ensures.answer c.copy_out.ensures.ok

pub returns-then-rights-clause-kept : goal.returns-then-rights-clause-kept
returns-then-rights-clause-kept c =
    put-kept c.args.self.now c.copy_out.new.self c.args.from.now c.args.at c.in-Some.bytes.now c.in-Some.rights c.requires.room c.in-Some.ensures.bytes c.copy_out.result c.if-rights.true c.copy_out.ensures.answer c.copy_out.ensures.ok

pub returns-then-rights-clause-copied : goal.returns-then-rights-clause-copied
returns-then-rights-clause-copied c =
    put-copied c.args.self.now c.copy_out.new.self c.args.from.now c.args.at c.in-Some.bytes.now c.in-Some.rights c.requires.room c.in-Some.ensures.bytes c.copy_out.result c.if-rights.true c.copy_out.ensures.answer c.copy_out.ensures.ok

pub returns-else-rights-clause-copied : goal.returns-else-rights-clause-copied
returns-else-rights-clause-copied c =
    fixed-same c.args.self.now c.args.self.now c.args.from.now c.args.at c.in-Some.bytes.now c.in-Some.rights c.requires.room c.in-Some.ensures.bytes c.if-rights.false
