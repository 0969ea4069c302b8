-- Of all calls a fork alone makes a process, which is the next by number.
use Rattle.std.proofs.Common.{◌≡◌, ℕ, ◌+◌, ◌<◌, List, length, Option, IfSome, refl, subst}
use Rattle.std.proofs.lemmas.List.{length-map}
use Rattle.kernel_model.specs.Requests.{request_of}
use Rattle.kernel_model.specs.Rows.{CallEffect, row, most_processes}
use Rattle.kernel_model.specs.State.{SyncState, Process, Shared, shared}
use Rattle.kernel_model.specs.declared.descriptor.Descriptor.{Descriptor}
use Rattle.kernel_model.specs.declared.request.Request.{Request}
use Rattle.kernel_model.proofs.Cases.{OfEach, of_row}

-- the process that is made, if one is, is the next one after so many, and there are not too many
abbrev pub IsNoneOrNextProcess : ℕ → Option ℕ → Type 0
IsNoneOrNextProcess count o = IfSome o (λ child. (child ≡ count + 1) × (count < most_processes))

each_next : (s : Shared) (ds : List (Option Descriptor)) (children : List ℕ) (r : Request)
    → OfEach (λ (e : CallEffect). IsNoneOrNextProcess (length s.statuses) e.child) s ds children r
each_next s ds children r = record {
  told = λ _ _ _. tt;
  waits = λ _ _. tt;
  shown = λ _ _. tt;
  filed = λ _ _ _ _ _ _ _. tt;
  put = λ _ _ _ _ _ _ _ _. tt;
  played = λ _ _ _ _ _ _ _. tt;
  copied = λ _ _ _ _ _ _ _ _ _. tt;
  taken = λ _ _ _ _ _ _ _. tt;
  there = λ _ _ _ _ _ _. tt;
  emptied = λ _ _ _ _ _. tt;
  made = λ _ _ _ _ _ _ _. tt;
  unlinked = λ _ _ _ _ _. tt;
  renamed = λ _ _ _ _ _ _. tt;
  loaded = λ _ _ _ _ _ _ _ _. tt;
  closed = λ _ _ _. tt;
  moved = λ _ _ _ _ _ _. tt;
  piped = λ _ _ _ _ _ _ _. tt;
  forked = λ few. (refl, few);
  collected = λ _ _ _ _. tt;
  ended = λ _. tt;
}

-- so it is at a call
pub call_next : (s : SyncState) (pid : ℕ) (p : Process) → IsNoneOrNextProcess (length s.processes) (row (shared s) pid p.descriptors p.children (request_of p.state)).child
call_next s pid p =
    let r = request_of p.state in
    subst (λ (count : ℕ). IsNoneOrNextProcess count (row (shared s) pid p.descriptors p.children r).child)
    (length-map s.processes (λ (q : Process). q.status))
    (of_row (λ (e : CallEffect). IsNoneOrNextProcess (length (shared s).statuses) e.child) (shared s) p.descriptors p.children r
    (each_next (shared s) p.descriptors p.children r) pid)
