-- As at which moments the length and the cells of a file may be, by a rule. A window has the files at each of its moments: change u leads
-- from moment u to moment u + 1. A cell is 512 bytes of a file.
use Rattle.std.specs.Prelude.{◌≡◌, ℕ, zero, suc, ◌+◌, ◌*◌, ◌/◌, ◌-◌, ◌<◌, ◌≤◌, ◌==◌, nat_lt, nat_le, Bool, true, false, not, ◌&&◌, List, [], length, min, slice_get, slice_index, slice_index_or, if◌then◌else◌, Option, Some, None, is_some, option_map}
use Rattle.disk_model.specs.declared.change.NamedFile.{NamedFile}
use Rattle.disk_model.specs.Numbers.{Numbered, file_of}
use Rattle.crash_lists.specs.Effects.{AreSame}
use Rattle.crash_lists.specs.declared.cells.DiskFile.{DiskFile}
use Rattle.crash_lists.specs.declared.model.CrashModel.{CrashModel}
use Rattle.crash_lists.specs.declared.model.CrashModel.TheVariants.{Ordered, Delayed, Posix}
use Rattle.crash_lists.specs.declared.moments.FileMoments.{FileMoments}
use Rattle.crash_lists.specs.declared.presence.Part.{Part}
use Rattle.crash_lists.specs.declared.presence.Part.TheVariants.{Names, Length, Bytes}

-- the bytes of the file of a number, if there are files and it lives
abbrev pub bytes_among : Option Numbered → ℕ → Option (List ℕ)
bytes_among None number = None
bytes_among (Some files) number = option_map (λ file. file.bytes) (file_of files number)

-- its bytes at a moment, if it lives then
abbrev pub living_at : List Numbered → ℕ → ℕ → Option (List ℕ)
living_at window number moment = bytes_among (slice_get window moment) number

-- these bytes if there are some, and else the earlier ones
abbrev pub or_earlier : Option (List ℕ) → List ℕ → List ℕ
or_earlier None earlier = earlier
or_earlier (Some bytes) earlier = bytes

-- the bytes that the file of a number had last, before a moment; none before it was made
abbrev pub bytes_before : List Numbered → ℕ → ℕ → List ℕ
bytes_before window number zero = []
bytes_before window number (suc moment) = or_earlier (living_at window number moment) (bytes_before window number moment)

-- the same up to a moment
abbrev pub bytes_at : List Numbered → ℕ → ℕ → List ℕ
bytes_at window number moment = bytes_before window number (suc moment)

-- a file has some bytes, and none after a change
abbrev pub is_emptied : Option (List ℕ) → Option (List ℕ) → Bool
is_emptied None after = false
is_emptied (Some before) None = false
is_emptied (Some before) (Some after) = not (length before == 0) && (length after == 0)

-- a file is longer after a change, and a cell of it ends after its old end
abbrev pub is_lengthened : Option (List ℕ) → Option (List ℕ) → ℕ → Bool
is_lengthened None after cell = false
is_lengthened (Some before) None cell = false
is_lengthened (Some before) (Some after) cell = nat_lt (length before) (length after) && nat_le (length before / 512) cell && nat_le cell ((length after - 1) / 512)

-- change u empties the file of this number
abbrev pub Empties : List Numbered → ℕ → ℕ → Type 0
Empties window u number = is_emptied (living_at window number u) (living_at window number (u + 1)) ≡ true

-- change u makes the file of this number longer, and this cell of it ends after its old end
abbrev pub Lengthens : List Numbered → ℕ → ℕ → ℕ → Type 0
Lengthens window u number cell = is_lengthened (living_at window number u) (living_at window number (u + 1)) cell ≡ true

-- a change after change u and before a moment lengthens the file by this cell
abbrev pub IsWrittenSince : List Numbered → ℕ → ℕ → ℕ → ℕ → Type 0
IsWrittenSince window u moment number cell = (v : ℕ) × (u < v) × (v < moment) × Lengthens window v number cell

-- what ordered and delayed ask of change u, where the length is as at a moment, and a cell as at another: it empties both or neither, and
-- where it makes the file longer the cell is there
pub record AreOrdered (window : List Numbered) (u number size moment cell : ℕ) : Type 0 where
  pub emptied : Empties window u number → nat_lt u size ≡ nat_lt u moment
  pub longer : Lengthens window u number cell → u < size → u < moment

-- what posix asks of it: a cell that is past an emptying, where the length is not, was written since
abbrev pub AreWhole : List Numbered → ℕ → ℕ → ℕ → ℕ → ℕ → Type 0
AreWhole window u number size moment cell = Empties window u number → size ≤ u → u < moment → IsWrittenSince window u moment number cell

-- what a rule asks of it
abbrev pub AreBy : CrashModel → List Numbered → ℕ → ℕ → ℕ → ℕ → ℕ → Type 0
AreBy Ordered window u number size moment cell = AreOrdered window u number size moment cell
AreBy Delayed window u number size moment cell = AreOrdered window u number size moment cell
AreBy Posix window u number size moment cell = AreWhole window u number size moment cell

-- a cell may be as at a moment, where the length is as at another
abbrev pub MayBe : CrashModel → List Numbered → ℕ → ℕ → ℕ → ℕ → Type 0
MayBe model window number size moment cell = (u : ℕ) → u + 1 < length window → AreBy model window u number size moment cell

-- by delayed a length may be as at a moment up to that of names, but as at none before the file was made, or emptied last
pub record IsLate (window : List Numbered) (number common size : ℕ) : Type 0 where
  pub up_to : size ≤ common
  pub made : (t : ℕ) → t ≤ common → t < length window → is_some (living_at window number t) ≡ true → (s : ℕ) × (s ≤ size) × (is_some (living_at window number s) ≡ true)
  pub emptied : (u : ℕ) → u < common → u + 1 < length window → Empties window u number → u < size

-- a length may be as at a moment, where names are as at the common one
abbrev pub LengthMayBe : CrashModel → List Numbered → ℕ → ℕ → ℕ → Type 0
LengthMayBe Ordered window number common size = size ≡ common
LengthMayBe Delayed window number common size = IsLate window number common size
LengthMayBe Posix window number common size = size ≤ length window - 1

-- a cell of these bytes may be as at a moment, where the length is as at another: the rule allows it, and it has the same bytes then
pub record IsCellAt (model : CrashModel) (window : List Numbered) (number size : ℕ) (bytes : List ℕ) (cell moment : ℕ) : Type 0 where
  pub within : moment < length window
  pub may_be : MayBe model window number size moment cell
  pub same : AreSame bytes (bytes_at window number moment) (512 * cell) (min (512 * cell + 512) (length bytes))

-- a file has these bytes where its length is as at one moment, and each cell as at its own; and the rule allows these moments
pub record AreMoments (model : CrashModel) (window : List Numbered) (number common : ℕ) (bytes : List ℕ) (at : FileMoments) : Type 0 where
  pub may_be : LengthMayBe model window number common at.size
  pub counted : at.length ≡ length bytes
  pub same : at.length ≡ length (bytes_at window number at.size)
  pub each : (cell : ℕ) → 512 * cell < at.length → IsCellAt model window number at.size bytes cell (slice_index at.cells.items cell)

-- the same of each file of a list, by its place
abbrev pub AreMomentsOf : CrashModel → List Numbered → ℕ → List NamedFile → List DiskFile → List FileMoments → Type 0
AreMomentsOf model window common files numbered moments = (place : ℕ) (file : NamedFile) (of : DiskFile) (at : FileMoments)
    → slice_get files place ≡ Some file → slice_get numbered place ≡ Some of → slice_get moments place ≡ Some at
    → AreMoments model window of.number common file.bytes at

-- the moment of a part of a change in a file; bytes past its end are as its length is
abbrev pub moment_of : FileMoments → Part → ℕ
moment_of at Names = at.size
moment_of at Length = at.size
moment_of at (Bytes first last) = if nat_lt first at.length then slice_index_or at.cells.items (first / 512) at.size else at.size
