-- What is seen of a run is what its core has.
use Rattle.std.proofs.Common.{◌∙◌, ap, sym}
use Rattle.disk_model.specs.Numbers.{Numbered}
use Rattle.kernel_model.specs.State.{SyncState}
use Rattle.order_laws.proofs.Outcomes.{tells}
use Rattle.explored_runs.proofs.visited.VisitedState.of.Goals as goal

pub returns : goal.returns
returns c =
    let core = c.args.replay.now.core in
    let seen = tells core.boot core.history in
    record {
      calls = c.in_ok-from_slice.ensures.items;
      files = c.in_ok-try_clone.ensures ∙ c.list.ensures ∙ ap (λ (t : Numbered). t.living) (c.tables.ensures.files ∙ ap (λ (s : SyncState). s.files) (sym seen.sync));
      shown = c.in_ok-from_slice-2.ensures.items ∙ c.written.ensures ∙ sym (seen.texts 0);
    }
