-- Reading a half from left to right, with the first fault that is met. Only the private functions of this crate speak of it.
use Rattle.std.specs.Prelude.{◌≡◌, ℕ, zero, suc, ◌+◌, ◌&&◌, List, [], ◌∷◌, length, take, drop, Option, Some, None, Result, Ok, Err, nat_lt, nat_le, is_none, slice_get, slice_index, ◌==◌, not, Bool, true, false, if◌then◌else◌}
use Rattle.std.specs.Int.{Width, w16, w32, byte_len, from_le_bytes}
use Rattle.std.specs.List.{position}
use Rattle.std.specs.Str.{bytes_eq}
use Rattle.disk_model.specs.declared.change.Change.{Change}
use Rattle.disk_model.specs.declared.change.Change.TheVariants.{Create, Write, Empty, Remove, Rename}
use Rattle.disk_model.specs.declared.change.NamedFile.{NamedFile}
use Rattle.disk_model.specs.Files.{changed, is_name_byte}
use Rattle.disk_model.specs.Held.{selected_half, start_of, end_of}
use Rattle.disk_model.specs.Limits.{most_files, longest_name, longest_file, longest_file_write}
use Rattle.journal.specs.declared.fault.DiskFault.{DiskFault}
use Rattle.journal.specs.declared.fault.DiskFault.TheVariants.{PastHalf, BadRecord, BadChange, OutOfMemory}

-- the second reading follows the first, where that gives something
infixl 10 ◌>>=◌
abbrev pub ◌>>=◌ : {A B : Type 0} → Result A DiskFault → (A → Result B DiskFault) → Result B DiskFault
(Ok x) >>= f = f x
(Err e) >>= f = Err e

-- reading fails with this fault, unless memory ran out
abbrev pub Fails : {Y : Type 0} → DiskFault → Result Y DiskFault → Type 0
Fails BadRecord read = read ≡ Err BadRecord
Fails BadChange read = read ≡ Err BadChange
Fails PastHalf read = read ≡ Err PastHalf
Fails OutOfMemory read = Unit {0}

-- what a function returned, seen by `view`, is what reading gives, unless memory ran out
abbrev pub Gives : {X Y : Type 0} → (X → Y) → Result X DiskFault → Result Y DiskFault → Type 0
Gives view (Ok x) read = read ≡ Ok (view x)
Gives view (Err e) read = Fails e read

-- a number of this width, and the bytes after it
abbrev pub number_at : Width → List ℕ → Result (ℕ × List ℕ) DiskFault
number_at w bytes = if nat_lt (length bytes) (byte_len w) then Err BadRecord else Ok (from_le_bytes w (take (byte_len w) bytes), drop (byte_len w) bytes)

-- so many bytes, and those after them
abbrev pub text_at : ℕ → List ℕ → Result (List ℕ × List ℕ) DiskFault
text_at n bytes = if nat_lt (length bytes) n then Err BadRecord else Ok (take n bytes, drop n bytes)

-- all of these are bytes of a name
abbrev pub all_name_bytes : List ℕ → Bool
all_name_bytes [] = true
all_name_bytes (b ∷ bytes) = is_name_byte b && all_name_bytes bytes

-- a name after its length, and the bytes after it
unfoldable pub name_at : List ℕ → Result (List ℕ × List ℕ) DiskFault
name_at [] = Err BadRecord
name_at (n ∷ rest) = do
  name ← text_at n rest
  if nat_le 1 n && nat_le n longest_name && all_name_bytes name.0 then Ok (name.0, name.1) else Err BadRecord

-- a creation, from the bytes after its kind, and the bytes after it
unfoldable pub create_at : List ℕ → Result (Change × List ℕ) DiskFault
create_at bytes = do
  name ← name_at bytes
  Ok (Create name.0, name.1)

-- a write, from the bytes after its kind, and the bytes after it
unfoldable pub write_at : List ℕ → Result (Change × List ℕ) DiskFault
write_at bytes = do
  file ← number_at w16 bytes
  offset ← number_at w32 file.1
  n ← number_at w16 offset.1
  text ← text_at n.0 n.1
  if nat_le 1 n.0 && nat_le n.0 longest_file_write then Ok (Write file.0 offset.0 text.0, text.1) else Err BadRecord

-- an emptying, from the bytes after its kind, and the bytes after it
unfoldable pub empty_at : List ℕ → Result (Change × List ℕ) DiskFault
empty_at bytes = do
  file ← number_at w16 bytes
  Ok (Empty file.0, file.1)

-- a removal, from the bytes after its kind, and the bytes after it
unfoldable pub remove_at : List ℕ → Result (Change × List ℕ) DiskFault
remove_at bytes = do
  file ← number_at w16 bytes
  Ok (Remove file.0, file.1)

-- a renaming, from the bytes after its kind, and the bytes after it
unfoldable pub rename_at : List ℕ → Result (Change × List ℕ) DiskFault
rename_at bytes = do
  file ← number_at w16 bytes
  name ← name_at file.1
  Ok (Rename file.0 name.0, name.1)

-- a change, and the bytes after it
unfoldable pub change_at : List ℕ → Result (Change × List ℕ) DiskFault
change_at [] = Err BadRecord
change_at (zero ∷ rest) = Err BadRecord
change_at (suc zero ∷ rest) = create_at rest
change_at (suc (suc zero) ∷ rest) = write_at rest
change_at (suc (suc (suc zero)) ∷ rest) = empty_at rest
change_at (suc (suc (suc (suc zero))) ∷ rest) = remove_at rest
change_at (suc (suc (suc (suc (suc zero)))) ∷ rest) = rename_at rest
change_at (suc (suc (suc (suc (suc (suc b))))) ∷ rest) = Err BadRecord

-- all changes of a body; the number is at least its length
unfoldable pub changes_at : ℕ → List ℕ → Result (List Change) DiskFault
changes_at n [] = Ok []
changes_at zero (b ∷ bytes) = Err BadRecord
changes_at (suc n) (b ∷ bytes) = do
  first ← change_at (b ∷ bytes)
  others ← changes_at n first.1
  Ok (first.0 ∷ others)

-- no file has this name
unfoldable pub is_unnamed : List NamedFile → List ℕ → Bool
is_unnamed files name = is_none (position (λ (f : NamedFile). bytes_eq f.name name) files)

-- the file, if one is there, has this name
abbrev pub is_called : Option NamedFile → List ℕ → Bool
is_called None name = false
is_called (Some file) name = bytes_eq file.name name

-- the change is possible with these files
abbrev pub may_come : List NamedFile → Change → Bool
may_come files (Create name) = is_unnamed files name && nat_lt (length files) most_files
may_come files (Write place offset bytes) = nat_lt place (length files) && nat_le (offset + length bytes) longest_file
may_come files (Empty place) = nat_lt place (length files)
may_come files (Remove place) = nat_lt place (length files)
may_come files (Rename place name) = nat_lt place (length files) && not (is_called (slice_get files place) name)

-- the files after a change, where it is possible
abbrev pub step_at : List NamedFile → Change → Result (List NamedFile) DiskFault
step_at files c = if may_come files c then Ok (changed files c) else Err BadChange

-- the files after these changes, where each is possible where it comes
unfoldable pub all_changed : List NamedFile → List Change → Result (List NamedFile) DiskFault
all_changed files [] = Ok files
all_changed files (c ∷ cs) = step_at files c >>= λ later. all_changed later cs

-- what lies after an open gate: the body, and what begins with the next gate
unfoldable pub body_at : List ℕ → Result (List ℕ × List ℕ) DiskFault
body_at bytes =
    if nat_lt (length bytes) 4 then Err PastHalf
    else if nat_le (length bytes) (4 + from_le_bytes w32 (take 4 bytes)) then Err PastHalf
    else Ok (take (from_le_bytes w32 (take 4 bytes)) (drop 4 bytes), drop (from_le_bytes w32 (take 4 bytes)) (drop 4 bytes))

-- the files after the record, and what begins with the next gate
unfoldable pub record_at : List NamedFile → List ℕ → Result (List NamedFile × List ℕ) DiskFault
record_at files bytes = do
  body ← body_at bytes
  cs ← changes_at (length body.0) body.0
  later ← all_changed files cs
  Ok (later, body.1)

-- what lies after the gate, where it is open
abbrev pub opened : List ℕ → Option (List ℕ)
opened [] = None
opened (gate ∷ bytes) = if gate == 1 then Some bytes else None

-- one answer for something, and another for nothing
abbrev pub on_some : {A R : Type 0} → Option A → (A → R) → R → R
on_some None f r = r
on_some (Some x) f r = f x

-- the files that the records from this gate on make of these files, and what is left from the first gate on that is not open;
-- the number is at least the length
unfoldable pub records_at : ℕ → List NamedFile → List ℕ → Result (List NamedFile × List ℕ) DiskFault
records_at zero files rest = Ok (files, rest)
records_at (suc n) files rest = on_some (opened rest) (λ bytes. record_at files bytes >>= λ x. records_at n x.0 x.1) (Ok (files, rest))

-- what a function left is what reading gives, unless memory ran out
abbrev pub GivesNew : {X Y : Type 0} → Result X DiskFault → Y → Result Y DiskFault → Type 0
GivesNew (Ok x) new read = read ≡ Ok new
GivesNew (Err e) new read = Fails e read

-- the same, with a result beside
abbrev pub GivesBoth : {X Y Z : Type 0} → (X → Y) → Result X DiskFault → Z → Result (Z × Y) DiskFault → Type 0
GivesBoth view (Ok x) new read = read ≡ Ok (new, view x)
GivesBoth view (Err e) new read = Fails e read

-- the half that byte 0 selects
abbrev pub selected : List ℕ → List ℕ
selected disk = drop (start_of (selected_half (slice_index disk 0))) (take (end_of (selected_half (slice_index disk 0))) disk)

-- the files, and what is left of the half from the first gate on that is not open; or the first fault
abbrev pub recovered : List ℕ → Result (List NamedFile × List ℕ) DiskFault
recovered disk = records_at (length (selected disk)) [] (selected disk)
