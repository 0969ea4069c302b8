-- What a running kernel keeps of what may be seen.
use Rattle.std.specs.Prelude.{◌≡◌, ℕ, List, [], ◌∷◌, length, slice_get, Some}
use Rattle.commit_deps.specs.Marks.{IsMarkOf}
use Rattle.kernel_model.specs.Entries.{Entry}
use Rattle.kernel_model.specs.Shown.{Given, printed}
use Rattle.kernel_model.specs.World.{terminal_count}
use Rattle.held_output.specs.Withheld.{Withheld, Held}

-- each item is what the event at its place gave, with the mark of that event
abbrev pub AreMarked : {A : Type 0} → List (Given A) → List (Held A) → Type 0
AreMarked [] [] = Unit {0}
AreMarked (g ∷ gs) (h ∷ hs) = (h.what ≡ g.what) × IsMarkOf h.mark g.past g.entry × AreMarked gs hs
AreMarked [] (h ∷ hs) = ⊥
AreMarked (g ∷ gs) [] = ⊥

-- what events gave is withheld where c changes are committed
pub record Withholds {A : Type 0} (c : ℕ) (given : List (Given A)) (w : Withheld A) : Type 0 where
  pub marked : AreMarked given w.items
  pub committed : w.committed ≡ c

-- the screens of terminals 0 to 7 after this log, where c changes are committed
pub record AreScreens (c : ℕ) (log : List Entry) (screens : List (Withheld ℕ)) : Type 0 where
  pub count : length screens ≡ terminal_count
  pub each : (t : ℕ) (s : Withheld ℕ) → slice_get screens t ≡ Some s → Withholds c (printed t log) s
