-- What is left of the run is its steps but the first.
use Rattle.std.proofs.Common.{◌≡◌, ℕ, suc, ◌+◌, ◌-◌, ◌<◌, ◌==◌, cond, length, [], ◌∷◌, refl, sym, ap, ◌∙◌, arith}
use Rattle.std.proofs.lemmas.List.Sums.{sum_by-cons}
use Rattle.machine_model.specs.States.{reached_at}
use Rattle.exec_records.specs.Begun.{begun, times}
use Rattle.exec_records.proofs.Begins.{begun-next, begun-none, begun-over}
use Rattle.exec_records.proofs.step_counts.count_steps.Goals as goal

pub loop-left-init : goal.loop-left-init
loop-left-init c = record { each = λ a. refl; all = refl; fits = c.requires }

pub run-done-requires : goal.run-done-requires
run-done-requires c = omega (arith, c.loop-left.invariant.fits, c.loop-left-test.true)

none_left : (c : goal.After-drop-current) → begun c.loop-left.left c.loop-left.current ≡ []
none_left c = begun-none c.loop-left.left c.loop-left.current c.run-done.new.self c.run-done.result.1 (c.run-done.ensures.run ∙ ap (λ (d : ℕ). reached_at d c.run-done.new.self c.run-done.result.1) c.if-done-eq0.true)

pub returns-then-done-eq0-clause-each : goal.returns-then-done-eq0-clause-each
returns-then-done-eq0-clause-each c = λ a.
    let none : times a (begun c.loop-left.left c.loop-left.current) ≡ 0 = ap (times a) (none_left c) in
    omega (arith, c.loop-left.invariant.each a, none)

pub returns-then-done-eq0-clause-all : goal.returns-then-done-eq0-clause-all
returns-then-done-eq0-clause-all c =
    let none : length (begun c.loop-left.left c.loop-left.current) ≡ 0 = ap length (none_left c) in
    omega (arith, c.loop-left.invariant.all, none)

next_left : (c : goal.In_ok-add) → begun c.loop-left.left c.loop-left.current ≡ c.pc-address.result ∷ begun (c.loop-left.left - 1) c.run-done.new.self
next_left c =
    let some : 0 < c.run-done.result.0 = omega (arith, c.if-done-eq0.false) in
    begun-next c.loop-left.left c.run-done.result.0 c.loop-left.current c.run-done.new.self c.run-done.result.1 c.loop-left-test.true c.run-done.ensures.run some
    ∙ ap (λ (p : ℕ). p ∷ begun (c.loop-left.left - 1) c.run-done.new.self) (sym c.pc-address.ensures.value)

pub loop-left-preserved : goal.loop-left-preserved
loop-left-preserved c = record {
  each = λ a.
      let next : times a (begun c.loop-left.left c.loop-left.current) ≡ cond (c.pc-address.result == a) 1 0 + times a (begun (c.loop-left.left - 1) c.run-done.new.self) = ap (times a) (next_left c) ∙ sum_by-cons (λ (b : ℕ). cond (b == a) 1 0) c.pc-address.result (begun (c.loop-left.left - 1) c.run-done.new.self) in
      omega (arith, c.loop-left.invariant.each a, c.in_ok-add.ensures.each a, next);
  all =
      let next : length (begun c.loop-left.left c.loop-left.current) ≡ suc (length (begun (c.loop-left.left - 1) c.run-done.new.self)) = ap length (next_left c) in
      omega (arith, c.loop-left.invariant.all, c.in_ok-add.ensures.all, next);
  fits = omega (arith, c.loop-left.invariant.fits, c.loop-left-test.true, c.run-done.ensures.count, c.run-done.ensures.within);
}

pub returns-clause-each : goal.returns-clause-each
returns-clause-each c = λ a.
    let none : times a (begun c.loop-left.left c.loop-left.current) ≡ 0 = ap (times a) (begun-over c.loop-left.left c.loop-left.current c.loop-left-test.false) in
    omega (arith, c.loop-left.invariant.each a, none)

pub returns-clause-all : goal.returns-clause-all
returns-clause-all c =
    let none : length (begun c.loop-left.left c.loop-left.current) ≡ 0 = ap length (begun-over c.loop-left.left c.loop-left.current c.loop-left-test.false) in
    omega (arith, c.loop-left.invariant.all, none)
