-- One Enter more, whose footprint has a name.
use Rattle.std.proofs.Common.{rules, arith, ◌≡◌, ◌-◌, ◌^◌, ◌≤◌, ◌++◌, ◌∷◌, [], length, vec_len, vec_capacity, ap, subst, sym, ◌∙◌}
use Rattle.std.specs.Prelude.{min}
use Rattle.std.proofs.Math.Nat.{min-le_right}
use Rattle.footprints.specs.Kept.{Kept, AreKept, footprint, footprints_in, footprints_named}
use Rattle.footprints.proofs.Placing.{names_within, named_more}
use Rattle.footprints.proofs.footprints.Footprints.note.Goals as goal

pub invariant_of-self : goal.invariant_of-self
invariant_of-self c =
    let all : c.push.new.self.items ≡ c.self.inside.names.items ++ c.name-name.result ∷ [] = search rules in
    let room = ap (λ (k : Kept). k.enter_room) c.self.view_is in
    let had : vec_len c.self.inside.ends ≡ length c.self.inside.ends.items = search rules in
    let has : vec_len c.name-name.new.ends ≡ length c.name-name.new.ends.items = search rules in
    let many = vec_capacity c.self.inside.ends - vec_len c.self.inside.ends in
    let left = 2 ^ 32 - vec_len c.self.inside.ends in
    let few : length c.name-name.new.ends.items ≤ 2 ^ 32 =
    omega (arith, room, c.requires.enter, min-le_right (vec_capacity c.self.inside.names - vec_len c.self.inside.names) (min many left), min-le_right many left, c.name-name.ensures.ends, had, has) in
    subst (AreKept (length c.name-name.new.carriers.items) c.name-name.new.ends.items) (sym all) (record {
      within = c.name-name.ensures.within;
      named = names_within c.self.inside.names.items c.self.inside.carriers.items c.name-name.new.carriers.items c.self.inside.ends.items c.name-name.new.ends.items _ _ c.self.invariant.named c.name-name.ensures.named;
      few = few;
    })

pub returns-clause-footprints : goal.returns-clause-footprints
returns-clause-footprints c =
    let all : c.push.new.self.items ≡ c.self.inside.names.items ++ c.name-name.result ∷ [] = search rules in
    ap (footprints_named (footprints_in c.name-name.new.carriers.items c.name-name.new.ends.items)) all
    ∙ named_more c.self.inside.names.items c.self.inside.carriers.items c.self.inside.ends.items _ _ _ c.self.invariant.named c.name-name.ensures.named
    ∙ ap (λ (k : Kept). k.footprints ++ footprint c.args.reads.now c.args.writes.now ∷ []) c.self.view_is
