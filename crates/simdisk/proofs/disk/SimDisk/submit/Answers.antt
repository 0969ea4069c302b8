-- The write submitted lies on the disk.
use Rattle.std.proofs.Common.{◌≡◌, true, rules, arith, subst, sym, ap, length, List}
use Rattle.std.proofs.lemmas.Grind.{common_steps}
use Rattle.disk_model.specs.declared.change.Piece.{Piece}
use Rattle.simdisk.specs.Room.{LieOn, has_room}
use Rattle.simdisk.proofs.Lists.{lie_more, room_lies}
use Rattle.simdisk.proofs.disk.SimDisk.submit.Goals as goal

pub invariant_of-self-2 : goal.invariant_of-self-2
invariant_of-self-2 c =
    let room : has_room c.args.self.now c.args.at (length c.args.bytes.now) ≡ true = first_of (search rules, grind (arith, common_steps)) in
    let lies = room_lies c.args.self.now c.args.at (length c.args.bytes.now) room in (
      c.self.invariant.0,
      subst (λ (ps : List Piece). LieOn 2097152 ps) (sym c.in_ok-push.ensures.items)
          (lie_more 2097152 c.self.inside.in_flight.items (record { at = c.args.at; bytes = c.in_ok-bytes.bytes }) c.self.invariant.1 (omega (arith, ap length c.in_ok-bytes.ensures))),
      c.self.invariant.2,
    )
