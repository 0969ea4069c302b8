-- When two synchronous states agree on what carriers name.
use Rattle.std.specs.Prelude.{◌≡◌, ℕ, List, [], ◌∷◌, length, slice_get, Option, Some, None, option_map, is_some}
use Rattle.std.specs.List.{AllByRecursion}
use Rattle.disk_model.specs.declared.change.Change.{Change}
use Rattle.disk_model.specs.declared.change.Change.TheVariants as change
use Rattle.disk_model.specs.declared.change.NamedFile.{NamedFile}
use Rattle.disk_model.specs.Numbers.{Numbered, file_of}
use Rattle.kernel_model.specs.Entries.{Entry}
use Rattle.kernel_model.specs.Rows.{directory}
use Rattle.kernel_model.specs.State.{SyncState, process_at}
use Rattle.kernel_model.specs.declared.carrier.Carrier.{Carrier}
use Rattle.kernel_model.specs.declared.carrier.Carrier.TheVariants.{Proc, File, Names, Pipe, Pipes, Tasks, Tape}
use Rattle.kernel_model.specs.declared.effect.FileEdit.{FileEdit}
use Rattle.kernel_model.specs.declared.effect.FileEdit.TheVariants as edit

-- the bytes of the file of this number, if it lives
abbrev pub bytes_of : Numbered → ℕ → Option (List ℕ)
bytes_of files number = option_map (λ (f : NamedFile). f.bytes) (file_of files number)

-- Two states agree on a carrier where what it names is the same in both. Proc: the whole process. File: its bytes and whether it
-- lives, but neither its place nor its name. Names: the names of the files that live, in order, with their numbers, and the number of
-- the next file. Pipe and Tape: the whole of it. Pipes and Tasks: how many there are, which gives the number of the next one.
abbrev pub AgreeOn : SyncState → SyncState → Carrier → Type 0
AgreeOn s t (Proc p) = process_at s.processes p ≡ process_at t.processes p
AgreeOn s t (File number) = bytes_of s.files number ≡ bytes_of t.files number
AgreeOn s t Names = directory s.files ≡ directory t.files
AgreeOn s t (Pipe k) = slice_get s.pipes k ≡ slice_get t.pipes k
AgreeOn s t Pipes = length s.pipes ≡ length t.pipes
AgreeOn s t Tasks = length s.processes ≡ length t.processes
AgreeOn s t (Tape k) = slice_get s.tapes k ≡ slice_get t.tapes k

-- they agree on each of these carriers
abbrev pub Agree : SyncState → SyncState → List Carrier → Type 0
Agree s t cs = AllByRecursion (AgreeOn s t) cs

-- the edit that a change of these files is, if there is a change: it names the file by its number, and the change by its place
abbrev pub edit_by : Numbered → Option Change → Option FileEdit
edit_by files None = None
edit_by files (Some (change.Create name)) = Some (edit.Create name)
edit_by files (Some (change.Write place offset bytes)) = option_map (λ number. edit.Write number offset bytes) (slice_get files.numbers place)
edit_by files (Some (change.Empty place)) = option_map edit.Empty (slice_get files.numbers place)
edit_by files (Some (change.Remove place)) = option_map edit.Remove (slice_get files.numbers place)
edit_by files (Some (change.Rename place name)) = option_map (λ number. edit.Rename number name) (slice_get files.numbers place)

-- Two entries are alike: in all but the change, which both make or neither does. Its file may stand at another place.
pub record IsAlike (a b : Entry) : Type 0 where
  pub process : a.process ≡ b.process
  pub reads : a.reads ≡ b.reads
  pub writes : a.writes ≡ b.writes
  pub output : a.output ≡ b.output
  pub item : a.item ≡ b.item
  pub child : a.child ≡ b.child
  pub changes : is_some a.change ≡ is_some b.change

-- two logs are as long, and their entries are alike, one by one
abbrev pub AreAlike : List Entry → List Entry → Type 0
AreAlike [] [] = Unit {0}
AreAlike [] (b ∷ bs) = ⊥
AreAlike (a ∷ as') [] = ⊥
AreAlike (a ∷ as') (b ∷ bs) = IsAlike a b × AreAlike as' bs
