-- What goes out through a sink, answer by answer. A sink's answers are a relation: what it is before, the bytes that it is
-- offered, its answer, and what it is then.
use Rattle.std.specs.Prelude.{◌≡◌, ℕ, ◌+◌, ◌<◌, List, drop, length, Result, Ok, Err, ⊤}
use Rattle.std.specs.declared.io.Error.{Error}
use Rattle.std.specs.declared.io.ErrorKind.TheVariants.{Interrupted}
use Rattle.std.specs.IoError.{error_kind}

-- the call was interrupted
abbrev pub IsInterrupted : Result ℕ Error → Type 0
IsInterrupted (Ok count) = ⊥
IsInterrupted (Err error) = error_kind error ≡ Interrupted

-- an error, or nothing taken
abbrev pub TakesNothing : Result ℕ Error → Type 0
TakesNothing (Ok count) = count ≡ 0
TakesNothing (Err error) = ⊤

-- the sink was offered these bytes any number of times, and each time interrupted
pub data Interrupts {S : Type 0} (answers : S → List ℕ → Result ℕ Error → S → Type 0) (bytes : List ℕ) (s : S) : S → Type 0 where
  never : Interrupts answers bytes s s
  again : {t u : S} (answer : Result ℕ Error) → Interrupts answers bytes s t → answers t bytes answer u → IsInterrupted answer → Interrupts answers bytes s u

-- the sink was offered these bytes until it was not interrupted, and gave this answer
pub record Calls {S : Type 0} (answers : S → List ℕ → Result ℕ Error → S → Type 0) (bytes : List ℕ) (s : S) (answer : Result ℕ Error) (t : S) : Type 0 where
  pub before : S
  pub interrupted : Interrupts answers bytes s before
  pub answered : answers before bytes answer t

-- a text went out from one place up to another: each time the rest was offered, and some of it taken
pub data GoesOut {S : Type 0} (answers : S → List ℕ → Result ℕ Error → S → Type 0) (text : List ℕ) (s : S) (from : ℕ) : S → ℕ → Type 0 where
  nothing : GoesOut answers text s from s from
  some : {t u : S} {upto : ℕ} (count : ℕ) → GoesOut answers text s from t upto → Calls answers (drop upto text) t (Ok count) u → 0 < count
      → GoesOut answers text s from u (upto + count)

-- a text went out up to a place before its end, and of the rest the sink then took nothing
pub record IsRefused {S : Type 0} (answers : S → List ℕ → Result ℕ Error → S → Type 0) (text : List ℕ) (s : S) (from : ℕ) (t : S) (upto : ℕ) : Type 0 where
  pub before : S
  pub answer : Result ℕ Error
  pub out : GoesOut answers text s from before upto
  pub rest : upto < length text
  pub last : Calls answers (drop upto text) before answer t
  pub nothing_taken : TakesNothing answer
