-- Runs are answered with their keys.
use Rattle.std.proofs.Common.{◌≡◌, ◌∙◌, ◌++◌, ◌∷◌, [], ℕ, List, ap, subst, sym}
use Rattle.std.specs.Global.{Vec}
use Rattle.kernel_model.specs.Limits.{AreNumbered}
use Rattle.order_laws.specs.Moves.{Seen, calls}
use Rattle.order_laws.proofs.Calls.{calls_commute}
use Rattle.order_laws.proofs.Choosing.{reached-append}
use Rattle.state_search.specs.declared.key.Key.{Key}
use Rattle.state_search.specs.declared.moves.Reached.{Reached}
use Rattle.explored_runs.specs.Answering.{HasKeyOf, HaveKeys, IsCopyOf, IsRunOf, boot_in}
use Rattle.replayed_runs.specs.Replays.{seen_after_calls, seen_of}
use Rattle.replayed_runs.specs.StateKeys.{IsKeyOf}
use Rattle.replayed_runs.specs.declared.replay.Replay.{Replay}
use Rattle.explored_runs.specs.declared.runs.Runs.{Runs}

module _ (r : Runs) (ps : List ℕ) where
  -- a copy of a run is that run
  pub copy_is : (x y : Replay) → IsRunOf r ps x → IsCopyOf x y → IsRunOf r ps y
  copy_is x y run copy = record {
    seen = copy.seen ∙ run.seen;
    limit = copy.limit ∙ run.limit;
  }

  -- after one call more it is that of these calls, and that one
  pub call_more : (p : ℕ) (x y : Replay) → IsRunOf r ps x → seen_of y.core ≡ (calls x.limit).go (seen_of x.core) p → y.limit ≡ x.limit
      → IsRunOf r (ps ++ p ∷ []) y
  call_more p x y run moved limit = record {
    seen = moved
        ∙ ap (λ n. (calls n).go (seen_of x.core) p) run.limit
        ∙ ap (λ (s : Seen). (calls r.instructions).go s p) run.seen
        ∙ sym (reached-append (calls r.instructions) (λ (s : Seen). AreNumbered s.sync.files) (calls_commute r.instructions) ps (p ∷ []) (seen_after_calls r.instructions (boot_in r) []));
    limit = limit ∙ run.limit;
  }

  -- so it has the key of that run
  pub key_more : (p : ℕ) (x y : Replay) (qs : List ℕ) (key : Key) → qs ≡ ps ++ p ∷ [] → IsKeyOf y key → IsRunOf r ps x
      → seen_of y.core ≡ (calls x.limit).go (seen_of x.core) p → y.limit ≡ x.limit → HasKeyOf r qs key
  key_more p x y qs key way is run moved limit =
      (y, subst (λ (ws : List ℕ). IsRunOf r ws y) (sym way) (call_more p x y run moved limit), is)

-- one run more
pub keys_more : (r : Runs) (rs : List (Reached (Vec ℕ))) (x : Reached (Vec ℕ)) → HaveKeys r rs → HasKeyOf r x.state.items x.key → HaveKeys r (rs ++ x ∷ [])
keys_more r [] x all one = (one, tt)
keys_more r (y ∷ rs) x all one = (all.0, keys_more r rs x all.1 one)
