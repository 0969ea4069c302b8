-- The mark is joined at its carrier, or comes last.
use Rattle.std.proofs.Common.{rules, arith, ◌≡◌, ◌∙◌, [], ◌∷◌, length, Some, None, sym, ap, subst, if◌then◌else◌}
use Rattle.std.specs.Vec.{vec_len}
use Rattle.std.specs.Map.{lookup}
use Rattle.kernel_model.specs.declared.carrier.Carrier.{Carrier}
use Rattle.kernel_model.specs.contracts.carrier.CarrierPartialEq.TheImpl as carrier
use Rattle.commit_deps.specs.Kept.{Kept}
use Rattle.commit_deps.specs.Keeps.{mark_at, noted, unwritten_count}
use Rattle.commit_deps.specs.Places.{place_at, AreDistinct}
use Rattle.commit_deps.proofs.Keeping.{absent-unwritten}
use Rattle.kernel_model.proofs.Meets.{same-eq}
use Rattle.commit_deps.proofs.Placing.{place-within, noted-there, places-stay, mark-nowhere, noted-last, says-more, distinct-set, distinct-more}
use Rattle.commit_deps.proofs.dependencies.Dependencies.note_one.Goals as goal
use Rattle.commit_deps.proofs.dependencies.Dependencies.note_one.Goals.{In-None, In-Some}

-- where the carrier's mark stands
there : (c : In-Some) → place_at c.args.carrier c.self.inside.marks.items ≡ Some c.in-Some.place
there c = ap (λ (k : Kept). place_at c.args.carrier k.marks) c.self.view_is ∙ search rules

-- it has no mark
nowhere : (c : In-None) → place_at c.args.carrier c.self.inside.marks.items ≡ None
nowhere c = ap (λ (k : Kept). place_at c.args.carrier k.marks) c.self.view_is ∙ search rules

-- so there is room for one
one_more : (c : In-None) → unwritten_count (c.args.carrier ∷ []) c.args.self.now.marks ≡ 1
one_more c =
    absent-unwritten c.args.carrier c.args.self.now.marks
    (ap (λ (k : Kept). mark_at c.args.carrier k.marks) (sym c.self.view_is) ∙ mark-nowhere c.args.carrier c.self.inside.marks.items (nowhere c))

pub index_mut-requires : goal.index_mut-requires
index_mut-requires c =
    let within = place-within c.args.carrier c.self.inside.marks.items c.in-Some.place (there (goal.at.index_mut-requires c).In-Some) in
    let size : vec_len c.self.inside.marks ≡ length c.self.inside.marks.items = search rules in
    omega (arith, within, size)

pub invariant_of-self : goal.invariant_of-self
invariant_of-self c =
    let at = there (goal.at.invariant_of-self c).In-Some in (
      (λ x. c.self.invariant.0 x
          ∙ sym (ap (place_at x) (noted-there c.args.carrier c.args.mark c.self.inside.marks.items c.in-Some.place c.index_mut.result.now c.joined.result at c.index_mut.ensures.value c.joined.ensures)
          ∙ places-stay c.args.carrier x c.args.mark c.self.inside.marks.items c.in-Some.place at)),
      distinct-set c.args.carrier c.args.mark c.self.inside.marks.items c.in-Some.place c.index_mut.result.now c.joined.result c.self.invariant.1 at c.index_mut.ensures.value c.joined.ensures,
    )

pub returns-in-Some-clause-marks : goal.returns-in-Some-clause-marks
returns-in-Some-clause-marks c =
    noted-there c.args.carrier c.args.mark c.self.inside.marks.items c.in-Some.place c.index_mut.result.now c.joined.result
    (there (goal.at.returns-in-Some-clause-marks c).In-Some) c.index_mut.ensures.value c.joined.ensures
    ∙ ap (λ (k : Kept). noted c.args.carrier c.args.mark k.marks) c.self.view_is

pub unwrap-none-requires : goal.unwrap-none-requires
unwrap-none-requires c =
    let one = one_more (goal.at.unwrap-none-requires c).In-None in
    let room = ap (λ (k : Kept). k.room) c.self.view_is in
    c.insert-placed.ensures.succeeds (omega (arith, one, c.requires, room))

pub push_reserved-requires : goal.push_reserved-requires
push_reserved-requires c =
    let one = one_more (goal.at.push_reserved-requires c).In-None in
    let room = ap (λ (k : Kept). k.room) c.self.view_is in
    omega (arith, one, c.requires, room)

pub invariant_of-self-in-None : goal.invariant_of-self-in-None
invariant_of-self-in-None c =
    let more : (y : Carrier) → lookup (carrier.ghosts.eq y) c.insert-placed.new.self.entries
    ≡ (if carrier.ghosts.eq c.args.carrier y then Some c.len.result else lookup (carrier.ghosts.eq y) c.self.inside.places.entries) = search rules in
    let last : c.len.result ≡ length c.self.inside.marks.items = search rules in
    let none = nowhere (goal.at.invariant_of-self-in-None c).In-None in (
      (λ x. says-more carrier.ghosts.eq c.self.inside.places.entries c.insert-placed.new.self.entries c.self.inside.marks.items c.args.carrier c.args.mark c.len.result same-eq
          c.self.invariant.0 none last more x
          ∙ ap (place_at x) (sym c.push_reserved.ensures.items)),
      subst AreDistinct (sym c.push_reserved.ensures.items) (distinct-more c.args.carrier c.args.mark c.self.inside.marks.items c.self.invariant.1 none),
    )

pub returns-in-None-clause-marks : goal.returns-in-None-clause-marks
returns-in-None-clause-marks c =
    c.push_reserved.ensures.items
    ∙ noted-last c.args.carrier c.args.mark c.self.inside.marks.items (nowhere (goal.at.returns-in-None-clause-marks c).In-None)
    ∙ ap (λ (k : Kept). noted c.args.carrier c.args.mark k.marks) c.self.view_is

pub returns-in-None-clause-room : goal.returns-in-None-clause-room
returns-in-None-clause-room c =
    let one = one_more (goal.at.returns-in-None-clause-room c).In-None in
    let room = ap (λ (k : Kept). k.room) c.self.view_is in
    omega (arith, one, room, c.push_reserved.ensures.len, c.push_reserved.ensures.capacity, c.insert-placed.ensures.spare)
