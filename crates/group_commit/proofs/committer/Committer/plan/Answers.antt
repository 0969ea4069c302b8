-- The changes that are spelled are formed, and a group has no more than there are.
use Rattle.std.proofs.Common.{subst, sym, ap, List, length, ◌∙◌, arith}
use Rattle.std.specs.List.{AllByRecursion}
use Rattle.disk_model.specs.declared.change.Change.{Change}
use Rattle.disk_model.specs.Files.{IsFormed}
use Rattle.disk_model.proofs.Once.{formed_all}
use Rattle.disk_model.proofs.Whole.{group_short}
use Rattle.group_commit.proofs.Formed.{formed_group}
use Rattle.group_commit.proofs.committer.Committer.plan.Goals as goal

pub body_of-requires : goal.body_of-requires
body_of-requires c = subst (λ (cs : List Change). AllByRecursion IsFormed cs) (sym c.first_changes-group.ensures) (formed_group c.args.changes.now c.requires.formed)

pub checkpoint_plan-requires-clause-formed : goal.checkpoint_plan-requires-clause-formed
checkpoint_plan-requires-clause-formed c =
    let whole = c.checkpoints_fit.ensures c.args.files.now.living c.requires.possible in
    subst (λ (cs : List Change). AllByRecursion IsFormed cs) (sym (c.deref-2.ensures.value ∙ c.in_ok-all.ensures)) (formed_all _ _ whole.possible)

pub group_plan-requires-clause-counted : goal.group_plan-requires-clause-counted
group_plan-requires-clause-counted c =
    omega (arith, c.requires.counted, ap (λ (cs : List Change). length cs) c.first_changes-group.ensures, group_short c.args.changes.now)
