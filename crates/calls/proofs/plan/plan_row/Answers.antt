-- Of the requests a write alone edits a file with bytes.
use Rattle.std.proofs.Common.{◌≡◌, List, ℕ, Option, Some, IfOk, IfSome, Result, sym, subst}
use Rattle.std.specs.declared.alloc.AllocError.{AllocError}
use Rattle.kernel_model.specs.Rows.{CallEffect, row}
use Rattle.kernel_model.specs.State.{Shared}
use Rattle.kernel_model.specs.declared.descriptor.Descriptor.{Descriptor}
use Rattle.kernel_model.specs.declared.request.Request.{Request}
use Rattle.kernel_model.specs.declared.request.Request.TheVariants as request
use Rattle.kernel_model.proofs.Cases.{of_row}
use Rattle.calls.specs.Plans.{IsRow, CarriesBytes}
use Rattle.calls.specs.Shares.{shared_of}
use Rattle.calls.specs.declared.row.CallRow.{CallRow}
use Rattle.calls.specs.declared.tables.KernelTables.{KernelTables}
use Rattle.processes.specs.Parts.{part_at, children_in, statuses_of}
use Rattle.calls.proofs.Planned.{if_found}
use Rattle.calls.proofs.plan.plan_row.Goals as goal

-- a row of a request that is no write carries no bytes
no-bytes : (s : Shared) (ds : List (Option Descriptor)) (children : List ℕ) (r : Request) → ((fd n : ℕ) (bytes : List ℕ) → r ≡ request.Write fd n (Some bytes) → ⊥)
    → IfSome (row s 0 ds children r).edit CarriesBytes
no-bytes s ds children r other = of_row (λ (e : CallEffect). IfSome e.edit CarriesBytes) s ds children r (record {
  told = λ _ _ _. tt;
  waits = λ _ _. tt;
  shown = λ _ _. tt;
  filed = λ fd n _ _ bytes is _. absurd (other fd n bytes is);
  put = λ _ _ _ _ _ _ _ _. tt;
  played = λ _ _ _ _ _ _ _. tt;
  copied = λ _ _ _ _ _ _ _ _ _. tt;
  taken = λ _ _ _ _ _ _ _. tt;
  there = λ _ _ _ _ _ _. tt;
  emptied = λ _ _ _ _ _. tt;
  made = λ _ _ _ _ _ _ _. tt;
  unlinked = λ _ _ _ _ _. tt;
  renamed = λ _ _ _ _ _ _. tt;
  loaded = λ _ _ _ _ _ _ _ _. tt;
  closed = λ _ _ _. tt;
  moved = λ _ _ _ _ _ _. tt;
  piped = λ _ _ _ _ _ _ _. tt;
  forked = λ _. tt;
  collected = λ _ _ _ _. tt;
  ended = λ _. tt;
}) 0

-- the same of what is found for it
carried : (found : Result CallRow AllocError) (t : KernelTables) (pid : ℕ) (ds : List (Option Descriptor)) (r : Request)
    → ((fd n : ℕ) (bytes : List ℕ) → r ≡ request.Write fd n (Some bytes) → ⊥)
    → IfOk found (λ (x : CallRow). IsRow x (row (shared_of (statuses_of t.processes.now.parts) t.files.now t.pipes.now t.tapes.now) 0 ds
    (children_in (part_at t.processes.now.parts pid)) r))
    → IfOk found (λ (x : CallRow). IfSome x.edit CarriesBytes)
carried found t pid ds r other h =
    let s = shared_of (statuses_of t.processes.now.parts) t.files.now t.pipes.now t.tapes.now in
    let children = children_in (part_at t.processes.now.parts pid) in
    if_found found (λ (x : CallRow). IsRow x (row s 0 ds children r)) (λ (x : CallRow). IfSome x.edit CarriesBytes)
    (λ (x : CallRow) is. subst (λ edit. IfSome edit CarriesBytes) (sym is.edit) (no-bytes s ds children r other)) h

pub returns-in-Exit-clause-carries : goal.returns-in-Exit-clause-carries
returns-in-Exit-clause-carries c =
    carried c.exit.result c.args.tables.now c.args.pid c.args.descriptors.now (request.Exit c.in-Exit.status)
    (λ _ _ _ is. let none : ⊥ = cc in none) c.exit.ensures

pub returns-in-Read-clause-carries : goal.returns-in-Read-clause-carries
returns-in-Read-clause-carries c =
    carried c.read.result c.args.tables.now c.args.pid c.args.descriptors.now (request.Read c.in-Read.fd c.in-Read.at c.in-Read.n c.in-Read.fits)
    (λ _ _ _ is. let none : ⊥ = cc in none) c.read.ensures

pub returns-in-Open-clause-carries : goal.returns-in-Open-clause-carries
returns-in-Open-clause-carries c =
    carried c.open.result c.args.tables.now c.args.pid c.args.descriptors.now (request.Open c.in-Open.n c.in-Open.mode c.in-Open.name)
    (λ _ _ _ is. let none : ⊥ = cc in none) c.open.ensures

pub returns-in-Close-clause-carries : goal.returns-in-Close-clause-carries
returns-in-Close-clause-carries c =
    carried c.close.result c.args.tables.now c.args.pid c.args.descriptors.now (request.Close c.in-Close.fd)
    (λ _ _ _ is. let none : ⊥ = cc in none) c.close.ensures

pub returns-in-Wait-clause-carries : goal.returns-in-Wait-clause-carries
returns-in-Wait-clause-carries c =
    carried c.wait.result c.args.tables.now c.args.pid c.args.descriptors.now (request.Wait c.in-Wait.at c.in-Wait.fits)
    (λ _ _ _ is. let none : ⊥ = cc in none) c.wait.ensures

pub returns-in-Seek-clause-carries : goal.returns-in-Seek-clause-carries
returns-in-Seek-clause-carries c =
    carried c.seek.result c.args.tables.now c.args.pid c.args.descriptors.now (request.Seek c.in-Seek.fd c.in-Seek.offset)
    (λ _ _ _ is. let none : ⊥ = cc in none) c.seek.ensures

pub returns-in-Unlink-clause-carries : goal.returns-in-Unlink-clause-carries
returns-in-Unlink-clause-carries c =
    carried c.unlink.result c.args.tables.now c.args.pid c.args.descriptors.now (request.Unlink c.in-Unlink.n c.in-Unlink.name)
    (λ _ _ _ is. let none : ⊥ = cc in none) c.unlink.ensures

pub returns-in-Rename-clause-carries : goal.returns-in-Rename-clause-carries
returns-in-Rename-clause-carries c =
    carried c.rename.result c.args.tables.now c.args.pid c.args.descriptors.now (request.Rename c.in-Rename.n c.in-Rename.m c.in-Rename.names)
    (λ _ _ _ is. let none : ⊥ = cc in none) c.rename.ensures

pub returns-in-Exec-clause-carries : goal.returns-in-Exec-clause-carries
returns-in-Exec-clause-carries c =
    carried c.exec.result c.args.tables.now c.args.pid c.args.descriptors.now (request.Exec c.in-Exec.n c.in-Exec.name)
    (λ _ _ _ is. let none : ⊥ = cc in none) c.exec.ensures
