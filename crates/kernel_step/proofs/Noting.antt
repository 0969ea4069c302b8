-- The footprints follow the run.
use Rattle.std.proofs.Common.{◌≡◌, ℕ, false, List, [], ◌∷◌, ◌++◌, Some, is_some, refl, sym, ap, subst}
use Rattle.footprints.specs.Footprints.{AreFootprints, IsOfDisk}
use Rattle.footprints.specs.Kept.{footprint}
use Rattle.kernel_model.specs.Entries.{Entry}
use Rattle.kernel_model.specs.State.{process_at, Process}
use Rattle.kernel_model.specs.Steps.{step, own_entry}
use Rattle.kernel_model.specs.World.{World, happens}
use Rattle.kernel_model.specs.declared.carrier.Carrier.{Carrier}
use Rattle.kernel_model.specs.declared.carrier.Carrier.TheVariants.{Proc}
use Rattle.kernel_model.specs.declared.event.Event.{Event}
use Rattle.kernel_model.specs.declared.event.Event.TheVariants.{Turn, Enter}
use Rattle.kernel_step.specs.Coning.{IsFootprintNoted}
use Rattle.kernel_step.proofs.Turning.{turn-happens}

-- ---- the laws by which footprints follow a log that grows
abbrev pub TurnGrows : Type 0
TurnGrows = (events : List Event) (log kept : List Entry) (pid n : ℕ) (x : Entry) → AreFootprints events log kept
    → x.reads ≡ Proc pid ∷ [] → x.writes ≡ Proc pid ∷ [] → AreFootprints (events ++ Turn pid n ∷ []) (log ++ x ∷ []) kept

abbrev pub EnterGrows : Type 0
EnterGrows = (events : List Event) (log kept : List Entry) (pid : ℕ) (reads : List Carrier) (x : Entry) → AreFootprints events log kept
    → x.reads ≡ Proc pid ∷ reads → AreFootprints (events ++ Enter pid ∷ []) (log ++ x ∷ []) (kept ++ footprint reads x.writes ∷ [])

abbrev pub DiskGrows : Type 0
DiskGrows = (events : List Event) (log kept : List Entry) (e : Event) (x : Entry) → AreFootprints events log kept
    → IsOfDisk e → x.reads ≡ [] → x.writes ≡ [] → AreFootprints (events ++ e ∷ []) (log ++ x ∷ []) kept

-- ---- what a run's event does
pub turn-follows : TurnGrows → (w : World) (events : List Event) (kept : List Entry) (pid n : ℕ) (p : Process)
    → process_at w.sync.processes pid ≡ Some p → is_some p.status ≡ false
    → AreFootprints events w.log kept → AreFootprints (events ++ Turn pid n ∷ []) (happens w (Turn pid n)).log kept
turn-follows law w events kept pid n p there running h =
    subst (λ (log : List Entry). AreFootprints (events ++ Turn pid n ∷ []) log kept)
    (sym (ap (λ (v : World). v.log) (turn-happens w pid n p there running)))
    (law events w.log kept pid n (own_entry pid) h refl refl)

pub enter-follows : EnterGrows → (w : World) (events : List Event) (kept later : List Entry) (pid : ℕ)
    → IsFootprintNoted pid (step w.sync (Enter pid)).entry kept later
    → AreFootprints events w.log kept → AreFootprints (events ++ Enter pid ∷ []) (happens w (Enter pid)).log later
enter-follows law w events kept later pid noted h =
    subst (λ (ks : List Entry). AreFootprints (events ++ Enter pid ∷ []) (happens w (Enter pid)).log ks) (sym noted.noted)
    (law events w.log kept pid noted.reads (step w.sync (Enter pid)).entry h noted.own)
