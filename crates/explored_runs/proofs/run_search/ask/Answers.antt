-- What comes after each state is sorted out.
use Rattle.explored_runs.proofs.Answered.{answers}
use Rattle.explored_runs.proofs.run_search.ask.Goals as goal

pub returns-clause-answered : goal.returns-clause-answered
returns-clause-answered g c =
    let all = answers c.args.runs.now c.args.states.now c.in_ok-afters.afters.items c.in_ok-afters.ensures in
    rw (c.in_ok-sorted.ensures.reached, c.in_ok-sorted.ensures.whole) all

pub returns-clause-told : goal.returns-clause-told
returns-clause-told g c = record {
  afters = c.in_ok-afters.afters.items;
  each = c.in_ok-afters.ensures;
  over_are = c.in_ok-sorted.ensures.over;
  visited_are = c.in_ok-sorted.ensures.visited;
  calls_are = c.in_ok-sorted.ensures.calls;
}
