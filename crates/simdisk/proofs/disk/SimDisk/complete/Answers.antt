-- The completed write lay on the disk, whose size stays.
use Rattle.std.proofs.Common.{arith, subst, sym, ap, length, ◌∙◌, List}
use Rattle.disk_model.specs.declared.change.Piece.{Piece}
use Rattle.disk_model.specs.Storage.{Device}
use Rattle.simdisk.specs.Room.{LieOn}
use Rattle.simdisk.proofs.Lists.{lie_without, lie_found, without_none}
use Rattle.simdisk.proofs.disk.SimDisk.complete.Goals as goal

pub invariant_of-self : goal.invariant_of-self
invariant_of-self c = (c.self.invariant.0, subst (LieOn 2097152) (sym c.take_out.ensures.rest) (lie_without 2097152 c.self.inside.in_flight.items c.args.at c.self.invariant.1), c.self.invariant.2)

pub overwrite-requires : goal.overwrite-requires
overwrite-requires c = omega (arith, lie_found 2097152 c.self.inside.in_flight.items c.args.at c.in-Some.piece c.self.invariant.1 (sym c.take_out.ensures.found ∙ c.in-Some.is), ap length c.as_slice.ensures, c.self.invariant.0)

pub invariant_of-self-in-Some : goal.invariant_of-self-in-Some
invariant_of-self-in-Some c = (
  c.overwrite.ensures.size ∙ c.self.invariant.0,
  subst (LieOn 2097152) (sym c.take_out.ensures.rest) (lie_without 2097152 c.self.inside.in_flight.items c.args.at c.self.invariant.1),
  c.self.invariant.2,
)

pub returns-in-None-clause-err : goal.returns-in-None-clause-err
returns-in-None-clause-err c =
    ap (λ (ps : List Piece). let v : Device = record { disk = c.self.inside.bytes; in_flight = ps; failed = c.self.inside.failed.items } in v)
    (c.take_out.ensures.rest ∙ without_none c.self.inside.in_flight.items c.args.at (sym c.take_out.ensures.found ∙ c.in-None.is))
    ∙ c.self.view_is
