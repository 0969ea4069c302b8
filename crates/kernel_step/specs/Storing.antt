-- What the device's events do.
use Rattle.std.specs.Prelude.{◌≡◌, ℕ, Bool, List, [], ◌∷◌, ◌++◌, drop, None}
use Rattle.disk_model.specs.declared.change.Change.{Change}
use Rattle.disk_model.specs.declared.change.NamedFile.{NamedFile}
use Rattle.disk_model.specs.Storage.{Storage, cut, completed, failed}
use Rattle.kernel_model.specs.Answers.{cut_refusal, write_refusal, changes_to_commit, writes_to_come}
use Rattle.kernel_model.specs.declared.answer.Answer.{Answer}
use Rattle.kernel_model.specs.declared.answer.Answer.TheVariants as answer_of
use Rattle.kernel_model.specs.declared.event.Event.{Event}
use Rattle.kernel_model.specs.declared.event.Event.TheVariants.{Cut}

-- a Cut was accepted and joined the history, where these are all changes and the files after them
pub record WasCut (old new : Storage) (changes : List Change) (files : List NamedFile) (full : Bool) (events events' : List Event) (a : Answer) : Type 0 where
  pub fine : cut_refusal old (drop old.committed changes) full ≡ None
  pub committer : new ≡ cut old (drop old.committed changes) files
  pub answer : a ≡ answer_of.Cut (changes_to_commit new) (writes_to_come new)
  pub history : events' ≡ events ++ Cut ∷ []

-- a Cut was refused: neither the storage nor the history has changed
pub record IsUncut (old new : Storage) (events events' : List Event) : Type 0 where
  pub committer : new ≡ old
  pub history : events' ≡ events

-- a Complete was accepted, and so many changes are committed
pub record IsCompleted (old new : Storage) (at : ℕ) (full : Bool) (committed : ℕ) : Type 0 where
  pub fine : write_refusal old at full ≡ None
  pub committer : new ≡ completed old at
  pub count : committed ≡ new.committed

-- a Fail was accepted
pub record HasFailed (old new : Storage) (at : ℕ) (full : Bool) (a : Answer) : Type 0 where
  pub fine : write_refusal old at full ≡ None
  pub committer : new ≡ failed old at
  pub answer : a ≡ answer_of.Failed
