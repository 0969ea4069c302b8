-- What can be told of a run from outside.
use Rattle.std.specs.Prelude.{◌≡◌, ℕ, List, map}
use Rattle.kernel_model.specs.Paths.{changes_in_log}
use Rattle.kernel_model.specs.Shown.{Given, printed, told, released, shown, handed}
use Rattle.kernel_model.specs.World.{World}

-- what was given, without the events
abbrev pub contents : {A : Type 0} → List (Given A) → List A
contents xs = map (λ x. x.what) xs

-- the same was given, held back or not; and whatever number of changes is committed, the same prefix of it may be seen
pub record SameGiven {A : Type 0} (xs ys : List (Given A)) : Type 0 where
  pub whole : contents xs ≡ contents ys
  pub prefixes : (c : ℕ) → released c xs ≡ released c ys

-- Two runs that are the same to their users, now and whatever is committed later: the same state, the same disk and the
-- same changes; each terminal was written the same, and each process was told the same; and the same is shown and handed out.
pub record SameView (a b : World) : Type 0 where
  pub sync : a.sync ≡ b.sync
  pub storage : a.storage ≡ b.storage
  pub changes : changes_in_log a.log ≡ changes_in_log b.log
  pub same_printed : (t : ℕ) → SameGiven (printed t a.log) (printed t b.log)
  pub same_told : (p : ℕ) → SameGiven (told p a.log) (told p b.log)
  pub same_shown : (t : ℕ) → shown a t ≡ shown b t
  pub same_handed : (p : ℕ) → handed a p ≡ handed b p
