-- The runs that are known to pass, and those after them.
use Rattle.std.proofs.Common.{◌≡◌, ◌∙◌, ◌≤◌, ◌+◌, length, drop, ap, rules, arith}
use Rattle.held_output.specs.Marks.{runs_passed}
use Rattle.held_output.proofs.Prefixes.{passed-drop, known-pass, passed-within}
use Rattle.held_output.proofs.marks.passed_from.Goals as goal

pub rest-requires : goal.rest-requires
rest-requires c =
    let passes : c.known-start.result ≤ runs_passed c.args.committed c.args.runs.now =
    known-pass c.args.counted c.args.before c.args.committed c.known-start.result c.args.runs.now c.requires c.known-start.ensures in
    omega (arith, passes, passed-within c.args.committed c.args.runs.now)

pub overflow_add-result : goal.overflow_add-result
overflow_add-result c =
    let passes : c.known-start.result ≤ runs_passed c.args.committed c.args.runs.now =
    known-pass c.args.counted c.args.before c.args.committed c.known-start.result c.args.runs.now c.requires c.known-start.ensures in
    let whole : runs_passed c.args.committed c.args.runs.now ≤ length c.args.runs.now = passed-within c.args.committed c.args.runs.now in
    let sum : c.known-start.result + runs_passed c.args.committed (drop c.known-start.result c.args.runs.now) ≡ runs_passed c.args.committed c.args.runs.now =
    passed-drop c.args.committed c.known-start.result c.args.runs.now passes in
    let rest : c.passed.result ≡ runs_passed c.args.committed (drop c.known-start.result c.args.runs.now) =
    c.passed.ensures ∙ ap (λ rs. runs_passed c.args.committed rs) c.rest.ensures in
    let small : c.known-start.result + c.passed.result ≤ length c.args.runs.now = omega (arith, whole, sum, rest) in
    search rules

pub returns : goal.returns
returns c =
    let passes : c.known-start.result ≤ runs_passed c.args.committed c.args.runs.now =
    known-pass c.args.counted c.args.before c.args.committed c.known-start.result c.args.runs.now c.requires c.known-start.ensures in
    let sum : c.known-start.result + runs_passed c.args.committed (drop c.known-start.result c.args.runs.now) ≡ runs_passed c.args.committed c.args.runs.now =
    passed-drop c.args.committed c.known-start.result c.args.runs.now passes in
    let rest : c.passed.result ≡ runs_passed c.args.committed (drop c.known-start.result c.args.runs.now) =
    c.passed.ensures ∙ ap (λ rs. runs_passed c.args.committed rs) c.rest.ensures in
    omega (arith, sum, rest)
