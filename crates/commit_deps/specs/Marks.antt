-- What a mark says of an event.
use Rattle.std.specs.Prelude.{◌≡◌, ℕ, nat_le, if◌then◌else◌, List, [], length, Option, Some, None, is_some}
use Rattle.kernel_model.specs.declared.carrier.Carrier.{Carrier}
use Rattle.kernel_model.specs.Entries.{Entry}
use Rattle.kernel_model.specs.Paths.{is_durable, changes_in_log}

-- The mark says exactly what the event e rests on, after the log: where c changes are committed, all of its changes are
-- among them exactly where the mark is at most c.
pub record IsMarkOf (mark : ℕ) (log : List Entry) (e : Entry) : Type 0 where
  pub says : (c : ℕ) → nat_le mark c ≡ is_durable c log e

-- an event that reads these carriers and does nothing else
abbrev pub reader : List Carrier → Entry
reader rs = record { process = 0; reads = rs; writes = []; change = None; output = None; item = None; child = None }

-- the number of the change that the event e makes after the log, if it makes one
abbrev pub change_number : List Entry → Entry → Option ℕ
change_number log e = if is_some e.change then Some (length (changes_in_log log)) else None
