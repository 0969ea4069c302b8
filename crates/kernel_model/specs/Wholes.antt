-- Requests whose bytes are as many as they say.
use Rattle.std.specs.Prelude.{◌≡◌, ℕ, ◌+◌, ◌≤◌, length, List, Option, None, IfSome}
use Rattle.disk_model.specs.Limits.{longest_name}
use Rattle.kernel_model.specs.Requests.{most_bytes, longest_names}
use Rattle.kernel_model.specs.declared.request.Request.{Request}
use Rattle.kernel_model.specs.declared.request.Request.TheVariants.{Exit, Write, Read, Open, Close, Pipe, Fork, Wait, GetPid, Seek, Sync, Unlink, Rename, Exec, Unknown}

-- bytes that are there are n, and n is at most so many
abbrev pub AreWhole : ℕ → ℕ → Option (List ℕ) → Type 0
AreWhole most n bytes = IfSome bytes (λ bs. (length bs ≡ n) × (n ≤ most))

-- the bytes of a request, where they are there, are as many as it says, and not too many
abbrev pub IsWhole : Request → Type 0
IsWhole (Exit status) = Unit {0}
IsWhole (Write fd n bytes) = AreWhole most_bytes n bytes
IsWhole (Read fd at n fits) = Unit {0}
IsWhole (Open n mode name) = AreWhole longest_name n name
IsWhole (Close fd) = Unit {0}
IsWhole (Pipe at fits) = Unit {0}
IsWhole Fork = Unit {0}
IsWhole (Wait at fits) = Unit {0}
IsWhole GetPid = Unit {0}
IsWhole (Seek fd offset) = Unit {0}
IsWhole Sync = Unit {0}
IsWhole (Unlink n name) = AreWhole longest_name n name
IsWhole (Rename n m names) = AreWhole longest_names (n + m) names
IsWhole (Exec n name) = AreWhole longest_name n name
IsWhole Unknown = Unit {0}

-- no bytes come with the request: it is no write and names no file, or its bytes are too many or may not be read
abbrev pub HoldsNone : Request → Type 0
HoldsNone (Exit status) = Unit {0}
HoldsNone (Write fd n bytes) = bytes ≡ None
HoldsNone (Read fd at n fits) = Unit {0}
HoldsNone (Open n mode name) = name ≡ None
HoldsNone (Close fd) = Unit {0}
HoldsNone (Pipe at fits) = Unit {0}
HoldsNone Fork = Unit {0}
HoldsNone (Wait at fits) = Unit {0}
HoldsNone GetPid = Unit {0}
HoldsNone (Seek fd offset) = Unit {0}
HoldsNone Sync = Unit {0}
HoldsNone (Unlink n name) = name ≡ None
HoldsNone (Rename n m names) = names ≡ None
HoldsNone (Exec n name) = name ≡ None
HoldsNone Unknown = Unit {0}
