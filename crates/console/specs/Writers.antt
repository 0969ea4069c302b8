-- A writer as a sink.
use Rattle.std.specs.Prelude.{ℕ, List, Option, Result}
use Rattle.std.specs.declared.io.Error.{Error}
use Rattle.std.specs.Io.KnownBytes.{WriteAppends}

-- what a writer that holds these bytes may answer: it has the bytes that it says it took, and no others
abbrev pub writer_answers : {W : Type 0} → (W → Option (List ℕ)) → W → List ℕ → Result ℕ Error → W → Type 0
writer_answers contents s bytes answer t = WriteAppends (contents s) (contents t) answer bytes
