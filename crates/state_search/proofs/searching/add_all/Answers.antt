-- A state that was reached is added where its key was not known.
use Rattle.std.proofs.Common.{arith, ◌≡◌, Bool, true, false, not, refl}
use Rattle.std.proofs.lemmas.Grind.{common_steps}
use Rattle.state_search.specs.Keys.{has}
use Rattle.state_search.proofs.AddingStates.{adds-new, adds-none}
use Rattle.state_search.proofs.searching.add_all.Goals as goal

-- a key that is new was not there, and one that is not was
was_there : (is_new had : Bool) → is_new ≡ not had → is_new ≡ false → had ≡ true
was_there is_new had says known = grind (arith, common_steps, says, known)

was_new : (is_new had : Bool) → is_new ≡ not had → is_new ≡ true → had ≡ false
was_new is_new had says new = grind (arith, common_steps, says, new)

pub loop-key-preserved-in-Continue-branch-2 : goal.loop-key-preserved-in-Continue-branch-2
loop-key-preserved-in-Continue-branch-2 g c =
    let was = was_new c.in_ok-is_new.is_new (has c.loop-key.known.set c.in-Some.field-0.key) c.in_ok-is_new.ensures.new c.if-is_new.true in
    rw c.in_ok-push.ensures.items (adds-new c.args.known.now.set c.loop-key.known.set c.add.new.self.set c.loop-key.yielded c.in-Some.field-0 c.loop-key.added.items c.args.moves
    c.loop-key.invariant c.in_ok-is_new.ensures.added
    (record { key = c.in-Some.field-0.key; state = c.in-Some.field-0.state; moves = c.args.moves }) refl refl refl was)

pub loop-key-preserved : goal.loop-key-preserved
loop-key-preserved g c =
    let was = was_there c.in_ok-is_new.is_new (has c.loop-key.known.set c.in-Some.field-0.key) c.in_ok-is_new.ensures.new c.if-is_new.false in
    adds-none c.args.known.now.set c.loop-key.known.set c.add.new.self.set c.loop-key.yielded c.in-Some.field-0 c.loop-key.added.items c.args.moves
    c.loop-key.invariant c.in_ok-is_new.ensures.added was
