-- Rows look at pipes by what is seen of them alone.
use Rattle.std.proofs.Common.{◌≡◌, ℕ, List, [], ◌∷◌, ◌==◌, nat_lt, nat_le, ◌-◌, not, Bool, true, false, length, map, slice_get, Option, Some, None, refl, ap, sym, ◌∙◌}
use Rattle.std.specs.Prelude.{if◌then◌else◌, option_map}
use Rattle.std.proofs.lemmas.List.{length-map}
use Rattle.std.proofs.lemmas.Option.{slice_get-map}
use Rattle.disk_model.specs.Numbers.{Numbered, file_of}
use Rattle.kernel_model.specs.Requests.{most_bytes}
use Rattle.kernel_model.specs.Rows.{CallEffect, failure, bad_descriptor, bad_argument, bad_address, number, only, minus, no_reader, pipe_size, on_pipe, put_some, take_some, write_pipe, write_to, write_read, row_write, may_write, read_file, read_pipe, read_from, row_read, may_read, looking_at, descriptor_at, directory, row, row_open, row_seek, row_unlink, row_rename, row_exec, row_pipe, row_fork, row_wait}
use Rattle.kernel_model.specs.State.{Shared, PipeState, TapeState}
use Rattle.kernel_model.specs.declared.carrier.Carrier.TheVariants.{Pipe}
use Rattle.kernel_model.specs.declared.descriptor.Descriptor.{Descriptor}
use Rattle.kernel_model.specs.declared.descriptor.Descriptor.TheVariants as descriptor
use Rattle.kernel_model.specs.declared.descriptor.PipeEnd.TheVariants as pipe_end
use Rattle.kernel_model.specs.declared.request.Request.{Request}
use Rattle.kernel_model.specs.declared.request.Request.TheVariants as request
use Rattle.kernel_model.specs.declared.request.Verdict.TheVariants.{Waits}
use Rattle.pipes.specs.Seen.{Seen, seen_of, Shows}
use Rattle.calls.specs.Shares.{pipe_of, shared_of, IsKept}

-- the same is seen of these pipes
abbrev pub AreAlike : List PipeState → List PipeState → Type 0
AreAlike ps qs = (k : ℕ) → option_map seen_of (slice_get ps k) ≡ option_map seen_of (slice_get qs k)

-- the rows of a pipe, by what is seen of it
abbrev write_seen : ℕ → List ℕ → Option Seen → CallEffect
write_seen k bytes None = record (failure bad_descriptor) { reads = Pipe k ∷ [] }
write_seen k bytes (Some x) =
    if x.readers == 0 then on_pipe k (minus no_reader) []
    else if nat_le pipe_size (length x.held) then on_pipe k Waits []
    else put_some k bytes (pipe_size - length x.held)

abbrev read_seen : ℕ → ℕ → ℕ → Option Seen → CallEffect
read_seen k at n None = record (failure bad_descriptor) { reads = Pipe k ∷ [] }
read_seen k at n (Some x) =
    if nat_lt 0 (length x.held) then take_some k at n x.held
    else if x.writers == 0 then on_pipe k (number 0) []
    else on_pipe k Waits []

write_pipe-seen : (k : ℕ) (bytes : List ℕ) (p : Option PipeState) → write_pipe k bytes p ≡ write_seen k bytes (option_map seen_of p)
write_pipe-seen k bytes None = refl
write_pipe-seen k bytes (Some p) = refl

read_pipe-seen : (k at n : ℕ) (p : Option PipeState) → read_pipe k at n p ≡ read_seen k at n (option_map seen_of p)
read_pipe-seen k at n None = refl
read_pipe-seen k at n (Some p) = refl

write_pipe-alike : (k : ℕ) (bytes : List ℕ) (p q : Option PipeState) → option_map seen_of p ≡ option_map seen_of q → write_pipe k bytes p ≡ write_pipe k bytes q
write_pipe-alike k bytes p q same = write_pipe-seen k bytes p ∙ ap (write_seen k bytes) same ∙ sym (write_pipe-seen k bytes q)

read_pipe-alike : (k at n : ℕ) (p q : Option PipeState) → option_map seen_of p ≡ option_map seen_of q → read_pipe k at n p ≡ read_pipe k at n q
read_pipe-alike k at n p q same = read_pipe-seen k at n p ∙ ap (read_seen k at n) same ∙ sym (read_pipe-seen k at n q)

write_to-alike : (s t : Shared) (d : Option Descriptor) (fd : ℕ) (bytes : List ℕ) → AreAlike s.pipes t.pipes → write_to s d fd bytes ≡ write_to t d fd bytes
write_to-alike s t (Some (descriptor.Pipe (pipe_end.Write k))) fd bytes same = write_pipe-alike k bytes (slice_get s.pipes k) (slice_get t.pipes k) (same k)
write_to-alike s t (Some (descriptor.Pipe (pipe_end.Read k))) fd bytes same = refl
write_to-alike s t (Some (descriptor.Terminal n)) fd bytes same = refl
write_to-alike s t (Some (descriptor.File file offset true)) fd bytes same = refl
write_to-alike s t (Some (descriptor.File file offset false)) fd bytes same = refl
write_to-alike s t (Some (descriptor.Tape n)) fd bytes same = refl
write_to-alike s t None fd bytes same = refl

write_read-alike : (s t : Shared) (d : Option Descriptor) (fd : ℕ) (bytes : Option (List ℕ)) → AreAlike s.pipes t.pipes → write_read s d fd bytes ≡ write_read t d fd bytes
write_read-alike s t d fd None same = refl
write_read-alike s t d fd (Some bytes) same = write_to-alike s t d fd bytes same

pub row_write-alike : (s t : Shared) (d : Option Descriptor) (fd n : ℕ) (bytes : Option (List ℕ)) → AreAlike s.pipes t.pipes → s.files ≡ t.files
    → row_write s d fd n bytes ≡ row_write t d fd n bytes
row_write-alike s t d fd n bytes same files =
    let tested : Numbered → CallEffect → CallEffect =
    λ (fs : Numbered) (e : CallEffect).
    looking_at d (
    if not (may_write fs d) then failure bad_descriptor
    else if nat_lt most_bytes n then failure bad_argument
    else if n == 0 then only (number 0)
    else e) in
    ap (λ (fs : Numbered). tested fs (write_read s d fd bytes)) files ∙ ap (tested t.files) (write_read-alike s t d fd bytes same)

read_from-alike : (s t : Shared) (d : Option Descriptor) (fd at n : ℕ) → AreAlike s.pipes t.pipes → s.files ≡ t.files → s.tapes ≡ t.tapes → read_from s d fd at n ≡ read_from t d fd at n
read_from-alike s t (Some (descriptor.Pipe (pipe_end.Read k))) fd at n same files tapes = read_pipe-alike k at n (slice_get s.pipes k) (slice_get t.pipes k) (same k)
read_from-alike s t (Some (descriptor.Pipe (pipe_end.Write k))) fd at n same files tapes = refl
read_from-alike s t (Some (descriptor.Terminal k)) fd at n same files tapes = refl
read_from-alike s t (Some (descriptor.File file offset true)) fd at n same files tapes = refl
read_from-alike s t (Some (descriptor.File file offset false)) fd at n same files tapes =
    ap (λ (fs : Numbered). read_file fd file offset at n (file_of fs file)) files
read_from-alike s t (Some (descriptor.Tape k)) fd at n same files tapes =
    ap (λ (ts : List TapeState). read_from (record s { tapes = ts }) (Some (descriptor.Tape k)) fd at n) tapes
read_from-alike s t None fd at n same files tapes = refl

pub row_read-alike : (s t : Shared) (d : Option Descriptor) (fd at n : ℕ) (fits : Bool) → AreAlike s.pipes t.pipes → s.files ≡ t.files → s.tapes ≡ t.tapes
    → row_read s d fd at n fits ≡ row_read t d fd at n fits
row_read-alike s t d fd at n fits same files tapes =
    let tested : Numbered → CallEffect → CallEffect =
    λ (fs : Numbered) (e : CallEffect).
    looking_at d (
    if not (may_read fs d) then failure bad_descriptor
    else if nat_lt most_bytes n then failure bad_argument
    else if n == 0 then only (number 0)
    else if not fits then failure bad_address
    else e) in
    ap (λ (fs : Numbered). tested fs (read_from s d fd at n)) files ∙ ap (tested t.files) (read_from-alike s t d fd at n same files tapes)

-- what is seen of pipes to which nothing else was written
seen_of-pipe_of : (seen : List Seen) → map seen_of (map pipe_of seen) ≡ seen
seen_of-pipe_of [] = refl
seen_of-pipe_of (x ∷ xs) = ap (λ (ys : List Seen). x ∷ ys) (seen_of-pipe_of xs)

shown-alike : (seen : List Seen) (pipes : List PipeState) → Shows pipes seen → AreAlike (map pipe_of seen) pipes
shown-alike seen pipes shows k =
    sym (slice_get-map seen_of (map pipe_of seen) k)
    ∙ ap (λ (xs : List Seen). slice_get xs k) (seen_of-pipe_of seen ∙ shows.shown)
    ∙ slice_get-map seen_of pipes k

shown-length : (seen : List Seen) (pipes : List PipeState) → Shows pipes seen → length (map pipe_of seen) ≡ length pipes
shown-length seen pipes shows = length-map seen pipe_of ∙ ap length shows.shown ∙ length-map pipes seen_of

-- a row is the same for all that calls may look at of which the same is kept
pub row-kept : (s : Shared) (statuses : List (Option ℕ)) (files : Numbered) (seen : List Seen) (tapes : List TapeState) (p : ℕ)
    (ds : List (Option Descriptor)) (children : List ℕ) (r : Request) → IsKept s statuses files seen tapes
    → row (shared_of statuses files seen tapes) p ds children r ≡ row s p ds children r
row-kept s statuses files seen tapes p ds children (request.Exit status) kept = refl
row-kept s statuses files seen tapes p ds children (request.Write fd n bytes) kept =
    row_write-alike (shared_of statuses files seen tapes) s (descriptor_at ds fd) fd n bytes (shown-alike seen s.pipes kept.pipes) (sym kept.files)
row-kept s statuses files seen tapes p ds children (request.Read fd at n fits) kept =
    row_read-alike (shared_of statuses files seen tapes) s (descriptor_at ds fd) fd at n fits (shown-alike seen s.pipes kept.pipes) (sym kept.files) (sym kept.tapes)
row-kept s statuses files seen tapes p ds children (request.Open n mode name) kept =
    ap (λ (fs : Numbered). row_open (directory fs) ds n mode name) (sym kept.files)
row-kept s statuses files seen tapes p ds children (request.Close fd) kept = refl
row-kept s statuses files seen tapes p ds children (request.Pipe at fits) kept =
    ap (λ (count : ℕ). row_pipe count ds at fits) (shown-length seen s.pipes kept.pipes)
row-kept s statuses files seen tapes p ds children request.Fork kept = ap (λ (all : List (Option ℕ)). row_fork (length all) ds) (sym kept.statuses)
row-kept s statuses files seen tapes p ds children (request.Wait at fits) kept =
    ap (λ (all : List (Option ℕ)). row_wait all children at fits) (sym kept.statuses)
row-kept s statuses files seen tapes p ds children request.GetPid kept = refl
row-kept s statuses files seen tapes p ds children (request.Seek fd offset) kept =
    ap (λ (fs : Numbered). row_seek fs (descriptor_at ds fd) fd offset) (sym kept.files)
row-kept s statuses files seen tapes p ds children request.Sync kept = refl
row-kept s statuses files seen tapes p ds children (request.Unlink n name) kept =
    ap (λ (fs : Numbered). row_unlink (directory fs) n name) (sym kept.files)
row-kept s statuses files seen tapes p ds children (request.Rename n m names) kept =
    ap (λ (fs : Numbered). row_rename (directory fs) n m names) (sym kept.files)
row-kept s statuses files seen tapes p ds children (request.Exec n name) kept = ap (λ (fs : Numbered). row_exec fs n name) (sym kept.files)
row-kept s statuses files seen tapes p ds children request.Unknown kept = refl
