-- The last run is longer, or there is one more.
use Rattle.std.proofs.Common.{◌≡◌, ℕ, ◌+◌, ◌-◌, ◌<◌, ◌≤◌, ◌^◌, ◌++◌, List, length, replicate, sym, ap, subst, ◌∙◌, arith, rules}
use Rattle.held_output.specs.declared.marks.Run.{Run}
use Rattle.held_output.specs.Marks.{MarkList, next, marks_of, Rises, runs_passed}
use Rattle.held_output.proofs.Prefixes.{passed-with}
use Rattle.held_output.proofs.Runs.{length-whole, next-with, with-rises, with-marks}
use Rattle.held_output.proofs.marks.Marks.append.Goals as goal

pub overflow_add-self : goal.overflow_add-self
overflow_add-self c =
    let size : length c.args.self.now.marks ≡ c.self.inside.len =
    sym (ap (λ (w : MarkList). length w.marks) c.self.view_is) ∙ length-whole c.self.inside.len c.self.inside.runs.items c.self.invariant.0 c.self.invariant.1.0 in
    let small : c.self.inside.len + c.args.times < 2 ^ 64 = subst (λ (n : ℕ). n + c.args.times < 2 ^ 64) size c.requires.fits in
    search rules

pub passed_from-self-inside-requires : goal.passed_from-self-inside-requires
passed_from-self-inside-requires c =
    let more = passed-with c.self.inside.committed c.self.inside.len c.args.mark c.self.inside.runs.items in
    subst (λ (rs : List Run). c.self.inside.passed ≤ runs_passed c.self.inside.committed rs) (sym (c.deref.ensures.value ∙ c.begin.ensures))
    (omega (arith, c.self.invariant.1.1, more))

pub invariant_of-self : goal.invariant_of-self
invariant_of-self c =
    let start = c.self.inside.len in
    let end = c.self.inside.len + c.args.times in
    let runs = c.self.inside.runs.items in
    let more : c.self.inside.len < c.self.inside.len + c.args.times = omega (arith, c.requires.some) in (
      ap (λ rs. next end rs) c.begin.ensures ∙ next-with start end c.args.mark runs c.self.invariant.0,
      (
        subst (λ (rs : List Run). Rises end rs) (sym c.begin.ensures) (with-rises start end c.args.mark runs more c.self.invariant.1.0),
        c.passed_from-self-inside.ensures ∙ ap (λ rs. runs_passed c.self.inside.committed rs) c.deref.ensures.value,
      ),
    )

pub returns-clause-marks : goal.returns-clause-marks
returns-clause-marks c =
    let start = c.self.inside.len in
    let end = c.self.inside.len + c.args.times in
    let runs = c.self.inside.runs.items in
    let more : c.self.inside.len < c.self.inside.len + c.args.times = omega (arith, c.requires.some) in
    let times : (c.self.inside.len + c.args.times) - c.self.inside.len ≡ c.args.times = omega arith in
    ap (λ rs. marks_of end rs) c.begin.ensures
    ∙ with-marks start end c.args.mark runs more c.self.invariant.1.0
    ∙ ap (λ n. marks_of start runs ++ replicate n c.args.mark) times
    ∙ ap (λ (w : MarkList). w.marks ++ replicate c.args.times c.args.mark) c.self.view_is
