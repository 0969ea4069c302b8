use Rattle.std.proofs.Common.{arith}
use Rattle.std.proofs.lemmas.Bool.{false≢true}
use Rattle.std.proofs.lemmas.Result.{err_from_is_err_and}
use Rattle.journal.proofs.Selected.{is_half, held_at, only_in, tells_in, shut_in, none_in}
use Rattle.journal.proofs.disk.read.Goals as goal

pub returns-in_err-files-clause-only : goal.returns-in_err-files-clause-only
returns-in_err-files-clause-only c gate files h =
    let p = err_from_is_err_and c.from_residual.result c.from_residual.ensures.1 in
    let i = is_half c.args.bytes.now c.half_of-half.result c.first_gate.result c.half_end-end.result c.part.result.now c.half_of-half.ensures c.first_gate.ensures c.half_end-end.ensures c.part.ensures in
    rw (p.1, p.2) (only_in c.args.bytes.now c.half_end-end.result c.part.result.now c.in_err-files.field-0.0 gate files i h c.in_err-files.ensures.exact)

pub returns-in_err-files-clause-fault : goal.returns-in_err-files-clause-fault
returns-in_err-files-clause-fault c =
    let p = err_from_is_err_and c.from_residual.result c.from_residual.ensures.1 in
    let i = is_half c.args.bytes.now c.half_of-half.result c.first_gate.result c.half_end-end.result c.part.result.now c.half_of-half.ensures c.first_gate.ensures c.half_end-end.ensures c.part.ensures in
    rw (p.1, p.2) (tells_in c.args.bytes.now c.half_end-end.result c.part.result.now c.in_err-files.field-0.0 (λ k. omega (arith, c.type_inv.bytes k)) c.requires i c.in_err-files.ensures.exact)

pub returns-in_err-files-clause-closed : goal.returns-in_err-files-clause-closed
returns-in_err-files-clause-closed c shut =
    let i = is_half c.args.bytes.now c.half_of-half.result c.first_gate.result c.half_end-end.result c.part.result.now c.half_of-half.ensures c.first_gate.ensures c.half_end-end.ensures c.part.ensures in
    absurd (false≢true (c.in_err-files.ensures.closed (shut_in c.args.bytes.now c.half_end-end.result c.part.result.now c.requires i shut)))

pub overflow_sub-result : goal.overflow_sub-result
overflow_sub-result c =
    let i = is_half c.args.bytes.now c.half_of-half.result c.first_gate.result c.half_end-end.result c.part.result.now c.half_of-half.ensures c.first_gate.ensures c.half_end-end.ensures c.part.ensures in
    (held_at c.args.bytes.now c.half_end-end.result c.part.result.now c.in_ok-files.files c.in_ok-files.rest.now (λ k. omega (arith, c.type_inv.bytes k)) c.requires i c.in_ok-files.ensures.exact).short

pub returns-clause-found : goal.returns-clause-found
returns-clause-found c =
    let i = is_half c.args.bytes.now c.half_of-half.result c.first_gate.result c.half_end-end.result c.part.result.now c.half_of-half.ensures c.first_gate.ensures c.half_end-end.ensures c.part.ensures in
    (held_at c.args.bytes.now c.half_end-end.result c.part.result.now c.in_ok-files.files c.in_ok-files.rest.now (λ k. omega (arith, c.type_inv.bytes k)) c.requires i c.in_ok-files.ensures.exact).held

pub returns-clause-gate : goal.returns-clause-gate
returns-clause-gate c =
    let i = is_half c.args.bytes.now c.half_of-half.result c.first_gate.result c.half_end-end.result c.part.result.now c.half_of-half.ensures c.first_gate.ensures c.half_end-end.ensures c.part.ensures in
    let h = held_at c.args.bytes.now c.half_end-end.result c.part.result.now c.in_ok-files.files c.in_ok-files.rest.now (λ k. omega (arith, c.type_inv.bytes k)) c.requires i c.in_ok-files.ensures.exact in
    (h.from, h.within)

pub returns-clause-none : goal.returns-clause-none
returns-clause-none c shut =
    let i = is_half c.args.bytes.now c.half_of-half.result c.first_gate.result c.half_end-end.result c.part.result.now c.half_of-half.ensures c.first_gate.ensures c.half_end-end.ensures c.part.ensures in
    none_in c.args.bytes.now c.half_end-end.result c.part.result.now c.in_ok-files.files c.in_ok-files.rest.now c.requires i shut c.in_ok-files.ensures.exact
