-- One part more, and in the end all.
use Rattle.std.proofs.Common.{◌≡◌, ◌+◌, ◌≤◌, ◌∷◌, [], ◌++◌, List, ℕ, ap, sym, ◌∙◌, arith, slice_get, Some, take, length}
use Rattle.std.proofs.lemmas.List.{take_all}
use Rattle.processes.specs.Parts.{Part, boot_part}
use Rattle.kernel_step.specs.First.{parts_from}
use Rattle.kernel_step.specs.declared.booting.Program.{Program}
use Rattle.kernel_step.proofs.Beginning.{parts-more, parts-length, take-short}
use Rattle.kernel_step.proofs.Lists.{get-there}
use Rattle.kernel_step.proofs.booting.first_processes.Goals as goal

pub boot-requires : goal.boot-requires
boot-requires c =
    let size : length c.loop-place.processes.parts ≡ length (parts_from 0 (take c.loop-place.place c.args.programs.now)) = ap (λ (xs : List Part). length xs) c.loop-place.invariant in
    let same : length (parts_from 0 (take c.loop-place.place c.args.programs.now)) ≡ length (take c.loop-place.place c.args.programs.now) = parts-length 0 (take c.loop-place.place c.args.programs.now) in
    let few : length (take c.loop-place.place c.args.programs.now) ≤ length c.args.programs.now = take-short c.loop-place.place c.args.programs.now in
    omega (arith, size, same, few, c.requires)

pub loop-place-preserved : goal.loop-place-preserved
loop-place-preserved c =
    let p : Program = c.index-programs-place.result in
    let there : slice_get c.args.programs.now c.loop-place.place ≡ Some p =
    get-there c.args.programs.now c.loop-place.place p c.loop-place-test.true c.index-programs-place.is in
    let place : c.loop-place.place ≡ 0 + c.loop-place.place = omega arith in
    c.in_ok-boot.ensures.ok
    ∙ ap (λ (xs : List Part). xs ++ boot_part c.loop-place.place p.terminal ∷ []) c.loop-place.invariant
    ∙ ap (λ (n : ℕ). parts_from 0 (take c.loop-place.place c.args.programs.now) ++ boot_part n p.terminal ∷ []) place
    ∙ sym (parts-more 0 c.loop-place.place c.args.programs.now p there)

pub returns : goal.returns
returns c =
    c.loop-place.invariant
    ∙ ap (λ (ps : List Program). parts_from 0 ps) (take_all c.loop-place.place c.args.programs.now c.loop-place-test.false)
