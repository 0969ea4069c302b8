-- Bytes that may be shared.
use Rattle.std.specs.Prelude.{ℕ, List, Option, Some, None}

-- the bytes: the shared ones, if there are some
abbrev pub bytes_in : List ℕ → Option (List ℕ) → List ℕ
bytes_in own None = own
bytes_in own (Some shared) = shared
