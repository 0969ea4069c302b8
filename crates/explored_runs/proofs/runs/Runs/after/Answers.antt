-- What is found of the run that was replayed is found of these calls.
use Rattle.std.proofs.Common.{subst}
use Rattle.order_laws.specs.Moves.{Seen}
use Rattle.order_laws.specs.Outcomes.{Stand}
use Rattle.explored_runs.specs.Answering.{IsNext, IsVisitOf}
use Rattle.replayed_runs.specs.Replays.{seen_of}
use Rattle.explored_runs.proofs.runs.Runs.after.Goals as goal

pub returns : goal.returns
returns c =
    let r = c.args.self.now in
    let ps = c.args.calls.now in
    let run = c.requires in
    let seen = run.seen in
    record {
      next = subst (λ (s : Seen). IsNext r.instructions s ps c.in_ok-next.next) seen c.in_ok-next.ensures.next;
      keys = c.in_ok-next.ensures.keys run;
      visited = subst (λ (s : Seen). IsVisitOf r.visits ps s c.as_it_ends.result) seen (c.as_it_ends.ensures r.visits ps (seen_of c.args.replay.core) c.in_ok-visited.ensures);
      stands = λ is. subst Stand seen (c.all_stand-stands.ensures is);
    }
