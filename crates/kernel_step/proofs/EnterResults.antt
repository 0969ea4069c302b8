-- What holds of results.
use Rattle.std.proofs.Common.{Result, Ok, Err}
use Rattle.std.specs.Prelude.{OnErr}

pub on-err-any : {T E P : Type 0} (r : Result T E) → P → OnErr r P
on-err-any (Ok x) h = tt
on-err-any (Err e) h = h
