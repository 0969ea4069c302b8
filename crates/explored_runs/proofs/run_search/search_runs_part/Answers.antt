-- The part was answered with calls.
use Rattle.explored_runs.specs.Answering.{boot_in, seen_in_runs}
use Rattle.explored_runs.proofs.Nexts.{answers_calls}
use Rattle.explored_runs.proofs.run_search.search_runs_part.Goals as goal

pub returns-in-Ok-clause-finds : goal.returns-in-Ok-clause-finds
returns-in-Ok-clause-finds g c =
    let r = c.args.runs.now in
    let found = c.in-Ok.ensures.finds in
    let part = found.searched.part in
    record {
      searched = found.searched;
      shared = found.shared;
      finds = λ all tell among. found.finds r.instructions (boot_in r) (seen_in_runs r) all
          (answers_calls r part.first part.answers part.is_first.calls part.are_answers) tell among;
    }
