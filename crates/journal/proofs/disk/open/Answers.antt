use Rattle.std.proofs.Common.{sym, subst, List, ℕ}
use Rattle.std.proofs.lemmas.Result.{err_from_is_err_and}
use Rattle.disk_model.specs.Held.{IsHeldTo}
use Rattle.journal.proofs.disk.open.Goals as goal

pub returns-in_err-files-clause-only : goal.returns-in_err-files-clause-only
returns-in_err-files-clause-only c gate files h =
    let p = err_from_is_err_and c.from_residual.result c.from_residual.ensures.1 in
    rw (p.1, p.2) (c.in_err-files.ensures.only gate files (subst (λ (d : List ℕ). IsHeldTo d gate files) (sym c.bytes.ensures.bytes) h))
