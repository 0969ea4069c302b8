-- One process more runs on.
use Rattle.std.proofs.Common.{arith, ◌≡◌, ◌∙◌, ◌+◌, List, ap, length}
use Rattle.kernel_model.specs.World.{after, first_world}
use Rattle.kernel_model.specs.declared.event.Event.{Event}
use Rattle.kernel_model.specs.declared.event.Event.TheVariants.{Turn}
use Rattle.order_laws.specs.Moves.{Seen, first_seen, seen_after}
use Rattle.replayed_runs.proofs.Replaying.{one_rests}
use Rattle.replayed_runs.proofs.core_calls.run_all.Goals as goal

pub loop-place-preserved : goal.loop-place-preserved
loop-place-preserved c =
    let boot = c.args.core.now.boot in
    let there : c.last_process-place-end.result ≡ length (first_seen boot).sync.processes =
    c.last_process-place-end.ensures ∙ ap (λ (es : List Event). length (after (first_world boot) es).sync.processes) c.requires in
    let below = c.loop-place-test.true in
    record {
      seen = c.in_ok-run_on.ensures.seen
          ∙ ap (λ (u : Seen). seen_after u (Turn (c.loop-place.place + 1) c.args.n)) c.loop-place.invariant.seen
          ∙ one_rests c.args.n c.loop-place.place (first_seen boot) (omega (arith, there, below));
      boot = c.in_ok-run_on.ensures.boot ∙ c.loop-place.invariant.boot;
    }
