-- A part leaves states to others.
use Rattle.std.proofs.Common.{[], append-nil, refl, sym}
use Rattle.state_search.proofs.Parting.{all-own}
use Rattle.state_search.proofs.searching.leave_others.Goals as goal

pub returns-then-not-is_shared_out-clause-left : goal.returns-then-not-is_shared_out-clause-left
returns-then-not-is_shared_out-clause-left g c =
    record { known = refl; gone = refl; more = []; others_are = sym (append-nil c.args.going.others.items); parted = all-own c.args.going.searched.left.items }

pub returns-clause-left : goal.returns-clause-left
returns-clause-left g c =
    record { known = refl; gone = refl; more = c.in_ok-own.field-0.others.items; others_are = c.in_ok-append.ensures.items; parted = c.in_ok-own.ensures.parted }
