-- The first run that does not pass begins where those that pass end.
use Rattle.std.proofs.Common.{◌≡◌, ◌+◌, length, drop, ap, ◌∙◌, arith}
use Rattle.held_output.specs.Marks.{MarkList, next, marks_of}
use Rattle.held_output.specs.Withheld.{prefix_of}
use Rattle.held_output.proofs.Prefixes.{passed-within}
use Rattle.held_output.proofs.Runs.{counted}
use Rattle.held_output.proofs.marks.Marks.count.Goals as goal

pub rest-requires : goal.rest-requires
rest-requires c =
    let there : length c.deref.result.now ≡ length c.self.inside.runs.items = ap (λ rs. length rs) c.deref.ensures.value in
    omega (arith, there, c.self.invariant.1.1, passed-within c.self.inside.committed c.self.inside.runs.items)

pub returns : goal.returns
returns c =
    let all = counted c.self.inside.committed c.self.inside.len c.self.inside.runs.items c.self.invariant.1.0 in
    let first : next c.self.inside.len c.self.inside.runs.items + prefix_of c.self.inside.committed (marks_of c.self.inside.len c.self.inside.runs.items)
    ≡ prefix_of c.self.inside.committed (marks_of c.self.inside.len c.self.inside.runs.items) = omega (arith, c.self.invariant.0) in
    c.next.ensures
    ∙ ap (λ rs. next c.self.inside.len rs) (c.rest.ensures ∙ ap (λ rs. drop c.self.inside.passed rs) c.deref.ensures.value ∙ ap (λ n. drop n c.self.inside.runs.items) c.self.invariant.1.1)
    ∙ all ∙ first
    ∙ ap (λ (w : MarkList). prefix_of w.committed w.marks) c.self.view_is
