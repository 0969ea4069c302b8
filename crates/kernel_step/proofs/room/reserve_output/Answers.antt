-- A screen with more room is the same.
use Rattle.std.proofs.Common.{◌≡◌, ◌<◌, ℕ, length, vec_len, rules, arith}
use Rattle.held_output.specs.Withheld.{Withheld}
use Rattle.kernel_step.proofs.EnterScreens.{screens-same}
use Rattle.kernel_step.proofs.Lists.{get-there}
use Rattle.kernel_step.proofs.room.reserve_output.Goals as goal

pub returns-clause-same : goal.returns-clause-same
returns-clause-same c = λ committed log h.
    let old : Withheld ℕ = c.index_mut-screen.result.now in
    let size : vec_len c.args.screens.now ≡ length c.args.screens.now.items = search rules in
    let within : c.in-Some.output.terminal < length c.args.screens.now.items = omega arith in
    screens-same committed log c.args.screens.now.items c.in-Some.output.terminal old c.reserve.new.self
    (get-there c.args.screens.now.items c.in-Some.output.terminal old within c.index_mut-screen.ensures.value)
    c.reserve.ensures.same h
