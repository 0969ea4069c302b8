-- The cone of an event, run alone.
use Rattle.std.proofs.Common.{◌≡◌, ◌⊎◌, inl, inr, Bool, true, false, List, [], ◌∷◌, ◌++◌, refl, sym, ap, subst}
use Rattle.std.specs.Prelude.{if◌then◌else◌}
use Rattle.kernel_model.specs.Entries.{Entry, meets}
use Rattle.kernel_model.specs.Limits.{AreNumbered}
use Rattle.kernel_model.specs.Paths.{wanted}
use Rattle.kernel_model.specs.State.{SyncState}
use Rattle.kernel_model.specs.World.{sync_log}
use Rattle.kernel_model.specs.declared.carrier.Carrier.{Carrier}
use Rattle.kernel_model.specs.declared.event.Event.{Event}
use Rattle.kernel_laws.specs.Agreement.{Agree}
use Rattle.kernel_laws.specs.Cones.{path_flags}
use Rattle.kernel_laws.proofs.Frames.{agree_refl}
use Rattle.kernel_laws.proofs.Selected.{needed, IsClosed, Alone, alone}

needed_wanted : (log : List Entry) (rs : List Carrier) → needed (path_flags log rs) log rs ≡ wanted log rs
needed_wanted [] rs = refl
needed_wanted (e ∷ es) rs = ap (λ (later : List Carrier). if meets e.writes (wanted es rs) then later ++ e.reads else later) (needed_wanted es rs)

either_way : (b : Bool) → (b ≡ true) ⊎ (b ≡ false)
either_way true = inl refl
either_way false = inr refl

pub paths_closed : (log : List Entry) (rs : List Carrier) → IsClosed (path_flags log rs) log rs
paths_closed [] rs = tt
paths_closed (e ∷ es) rs = (
  subst (λ (later : List Carrier). (meets e.writes (wanted es rs) ≡ true) ⊎ (meets e.writes later ≡ false)) (sym (needed_wanted es rs)) (either_way (meets e.writes (wanted es rs))),
  paths_closed es rs,
)

pub agree_all : (s : SyncState) (cs : List Carrier) → Agree s s cs
agree_all s [] = tt
agree_all s (c ∷ cs) = (agree_refl s c, agree_all s cs)

-- those with a path to a reader of rs, alone
pub cone_alone : (s : SyncState) (es : List Event) (rs : List Carrier) → AreNumbered s.files → Alone s s (path_flags (sync_log s es) rs) es rs
cone_alone s es rs are = alone es (path_flags (sync_log s es) rs) s s rs are are (paths_closed (sync_log s es) rs) (agree_all s (needed (path_flags (sync_log s es) rs) (sync_log s es) rs))
