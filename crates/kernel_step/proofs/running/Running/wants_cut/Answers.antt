-- The screens hold back what the run does.
use Rattle.std.proofs.Common.{◌≡◌, ◌&&◌, ap, ◌∙◌, ℕ, Bool, List}
use Rattle.std.specs.List.{list_any}
use Rattle.disk_model.specs.Storage.{Storage, is_quiet}
use Rattle.kernel_model.specs.Answers.{is_held_back, terminals}
use Rattle.kernel_model.specs.World.{run_of}
use Rattle.held_output.specs.Withheld.{Withheld, holds_back}
use Rattle.kernel_step.proofs.Holding.{held-back}
use Rattle.kernel_step.proofs.running.Running.wants_cut.Goals as goal

pub returns : goal.returns
returns c = λ b h.
    let held : c.is_any_held_back-held.result ≡ list_any (is_held_back (run_of b c.args.self.now.history.items)) terminals =
    c.is_any_held_back-held.ensures
    ∙ ap (λ (ss : List (Withheld ℕ)). list_any holds_back ss) c.deref.ensures.value
    ∙ held-back (run_of b c.args.self.now.history.items) c.args.self.now.system.screens.items h.parts.mirrors.screens in
    c.wants_cut.ensures
    ∙ ap (λ (x : Bool). x && is_quiet c.args.self.now.system.committer.device) held
    ∙ ap (λ (st : Storage). list_any (is_held_back (run_of b c.args.self.now.history.items)) terminals && is_quiet st.device) h.parts.mirrors.committer
