-- Each part is a lemma.
use Rattle.kernel_model.specs.Limits.{AreNumbered}
use Rattle.std.proofs.Common.{length, refl}
use Rattle.order_laws.specs.Moves.{Seen, calls, events}
use Rattle.order_laws.specs.Privacy.{IsPrivate}
use Rattle.order_laws.proofs.Calls.{calls_commute}
use Rattle.order_laws.proofs.Choosing.{found_end, has_chosen}
use Rattle.order_laws.proofs.Commuting.{events_commute}
use Rattle.order_laws.proofs.Outcomes.{outcomes, tells}
use Rattle.order_laws.proofs.Private.{stays_private}
use Rattle.order_laws.proofs.Sorting.{has_sorted}
use Rattle.order_laws.proofs.orders.Goals as goal

pub returns : goal.returns
returns _ = record {
  commute = calls_commute;
  events = λ s es are. has_sorted events (λ (r : Seen). AreNumbered r.sync.files) events_commute s are es;
  calls = λ n s ps are. has_sorted (calls n) (λ (r : Seen). AreNumbered r.sync.files) (calls_commute n) s are ps;
  chosen = λ n chosen good s ps are complete.
      has_chosen (calls n) (λ (r : Seen). AreNumbered r.sync.files) (calls_commute n) IsPrivate (stays_private n) chosen good (length ps) s ps are refl complete;
  once = λ n s found depth searched ps are complete deep.
      found_end (calls n) (λ (r : Seen). AreNumbered r.sync.files) (calls_commute n) IsPrivate (stays_private n) s found depth searched ps are complete deep;
  outcomes = λ n b found depth searched none stand es. outcomes n b found depth searched none stand es;
  seen = tells;
}
