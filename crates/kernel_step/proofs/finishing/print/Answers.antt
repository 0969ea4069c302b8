-- A terminal of its number, and none.
use Rattle.std.proofs.Common.{◌≡◌, ◌≤◌, ◌∙◌, ◌++◌, ◌<◌, ℕ, List, Option, length, slice_get, vec_len, sym, ap, subst, rules, arith}
use Rattle.std.specs.Option.{ForSome}
use Rattle.kernel_model.specs.declared.effect.Output.{Output}
use Rattle.held_output.specs.Withheld.{Withheld, all_held}
use Rattle.kernel_step.specs.Entering.{HasSpaceFor}
use Rattle.kernel_step.proofs.EnterScreens.{screens-stay, screens-elsewhere, screens-printed}
use Rattle.kernel_step.proofs.Lists.{get-there}
use Rattle.kernel_step.proofs.finishing.print.Goals as goal

pub returns-in_default : goal.returns-in_default
returns-in_default c = λ committed log e h is_mark writes. screens-stay committed log e c.args.screens.now.items (writes ∙ c.in_default.is) h

pub returns-then-place-len : goal.returns-then-place-len
returns-then-place-len c = λ committed log e h is_mark writes.
    let size : vec_len c.args.screens.now ≡ length c.args.screens.now.items = search rules in
    let past : length c.args.screens.now.items ≤ c.in-Some.output.terminal = omega arith in
    screens-elsewhere committed log e c.in-Some.output c.args.screens.now.items past (writes ∙ c.in-Some.is) h

pub extend-requires : goal.extend-requires
extend-requires c =
    let old : Withheld ℕ = c.index_mut-screen.result.now in
    let screens : List (Withheld ℕ) = c.args.screens.now.items in
    let size : vec_len c.args.screens.now ≡ length screens = search rules in
    let within : c.in-Some.output.terminal < length screens = omega arith in
    let room : ForSome (slice_get screens c.in-Some.output.terminal) (λ (s : Withheld ℕ). length c.in-Some.output.bytes ≤ s.room) =
    subst (λ (o : Option Output). HasSpaceFor o screens) c.in-Some.is c.requires in
    subst (λ (bytes : List ℕ). length bytes ≤ old.room) (sym c.as_slice.ensures)
    (room old (get-there screens c.in-Some.output.terminal old within c.index_mut-screen.ensures.value))

pub returns : goal.returns
returns c = λ committed log e h is_mark writes.
    let old : Withheld ℕ = c.index_mut-screen.result.now in
    let size : vec_len c.args.screens.now ≡ length c.args.screens.now.items = search rules in
    let within : c.in-Some.output.terminal < length c.args.screens.now.items = omega arith in
    screens-printed committed log e c.in-Some.output c.args.mark c.args.screens.now.items old c.extend.new.self
    (get-there c.args.screens.now.items c.in-Some.output.terminal old within c.index_mut-screen.ensures.value)
    (writes ∙ c.in-Some.is) is_mark
    (record {
      items = c.extend.ensures.items ∙ ap (λ (bytes : List ℕ). old.items ++ all_held c.args.mark bytes) c.as_slice.ensures;
      committed = c.extend.ensures.committed;
    }) h
