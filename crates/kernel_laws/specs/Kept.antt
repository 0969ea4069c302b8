-- What was seen is not lost in a crash.
use Rattle.std.specs.Prelude.{◌≡◌, ℕ, ◌<◌, List, length, slice_get, Some}
use Rattle.disk_model.specs.Crash.{IsCrashOf}
use Rattle.kernel_model.specs.Paths.{RestsOn}
use Rattle.kernel_model.specs.Shown.{Given, printed, told, shown, handed}
use Rattle.kernel_model.specs.World.{World, Boot}
use Rattle.kernel_laws.specs.Crashes.{HoldsPrefix}

-- of all that was given, the first so many rest on changes among the first c alone
abbrev pub AreKept : {A : Type 0} → ℕ → ℕ → List (Given A) → Type 0
AreKept {A = A} c count given = (i k : ℕ) (x : Given A) → i < count → slice_get given i ≡ Some x → RestsOn 0 x.past x.entry k → k < c

-- If the run ends here in a crash, then whatever disk the crash leaves holds the files after a prefix of the run's changes, and
-- each change stands in this prefix on which a byte rests that a terminal showed, or an item that a process was handed.
abbrev pub KeepsWhatWasSeen : Boot → World → Type 0
KeepsWhatWasSeen b w = (left : List ℕ) → IsCrashOf w.storage.device left → (prefix : HoldsPrefix b w left)
    × ((t : ℕ) → AreKept prefix.count (length (shown w t)) (printed t w.log))
    × ((p : ℕ) → AreKept prefix.count (length (handed w p)) (told p w.log))
