-- The failed write lies on the disk, and it was found where one is refused.
use Rattle.std.proofs.Common.{◌≡◌, arith, subst, sym, ap, length, ◌≤◌, ◌+◌, ◌++◌, ◌∷◌, [], true, false, ◌∙◌, List, Some, None, Option}
use Rattle.std.specs.Prelude.{is_ok, if◌then◌else◌}
use Rattle.std.specs.List.{remove}
use Rattle.disk_model.specs.declared.change.Piece.{Piece}
use Rattle.disk_model.specs.Storage.{Device, piece_at, without}
use Rattle.simdisk.specs.Room.{LieOn}
use Rattle.simdisk.proofs.Lists.{lie_more, lie_without, lie_get}
use Rattle.simdisk.proofs.disk.SimDisk.fail.Goals as goal

none_some : (o : Option Piece) (p : Piece) → o ≡ Some p → o ≡ None → ⊥
none_some o p e f = cc

pub returns-then-is_err-clause-refused : goal.returns-then-is_err-clause-refused
returns-then-is_err-clause-refused c = (
  (λ h. absurd cc),
  (λ none. absurd (none_some (piece_at c.args.self.now.in_flight c.args.at) _ (
      ap (λ (ps : List Piece). piece_at ps c.args.at) (sym (ap (λ (v : Device). v.in_flight) c.self.view_is) ∙ sym c.deref.ensures.value) ∙ c.in-Some.ensures.found.1 (record { at = 0; bytes = [] })) none)),
)

pub invariant_of-self-2 : goal.invariant_of-self-2
invariant_of-self-2 c =
    let rest : without c.self.inside.in_flight.items c.args.at ≡ remove c.self.inside.in_flight.items c.in-Some.i =
    ap (λ (ps : List Piece). without ps c.args.at) (sym c.deref.ensures.value) ∙ c.in-Some.ensures.found.2 ∙ ap (λ (ps : List Piece). remove ps c.in-Some.i) c.deref.ensures.value in
    let failed : LieOn 2097152 c.try_reserve.new.self.items = subst (LieOn 2097152) (sym c.try_reserve.ensures.items) c.self.invariant.2 in (
      c.self.invariant.0,
      subst (LieOn 2097152) (rest ∙ sym c.remove-piece.ensures.items) (lie_without 2097152 c.self.inside.in_flight.items c.args.at c.self.invariant.1),
      subst (LieOn 2097152) (sym c.push.ensures.items) (elim (is_ok c.push.result) as (λ b. LieOn 2097152 (if b then c.try_reserve.new.self.items ++ c.remove-piece.result ∷ [] else c.try_reserve.new.self.items)) [
        | true ↦ lie_more 2097152 c.try_reserve.new.self.items c.remove-piece.result failed (subst (λ (p : Piece). p.at + length p.bytes ≤ 2097152) (sym c.remove-piece.ensures.value)
            (lie_get 2097152 c.self.inside.in_flight.items c.in-Some.i c.remove-piece.result c.self.invariant.1 (omega (arith, c.in-Some.ensures.found.0, ap length c.deref.ensures.value))))
        | false ↦ failed
      ]),
    )
