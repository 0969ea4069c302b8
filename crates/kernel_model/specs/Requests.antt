-- What a machine that stands at a call asks for.
use Rattle.std.specs.Prelude.{ℕ, ◌+◌, ◌==◌, ◌&&◌, ◌||◌, nat_le, is_none, Bool, if◌then◌else◌, List, slice_index, Option, Some, None}
use Rattle.memory_model.specs.Memory.{Memory}
use Rattle.memory_model.specs.Access.{bytes_at, range_fault, to_read, to_write}
use Rattle.machine_model.specs.States.{State}
use Rattle.disk_model.specs.Limits.{longest_name, longest_file_write}
use Rattle.kernel_model.specs.declared.request.Request.{Request}
use Rattle.kernel_model.specs.declared.request.Request.TheVariants.{Exit, Write, Read, Open, Close, Pipe, Fork, Wait, GetPid, Seek, Sync, Unlink, Rename, Exec, Unknown}

-- n bytes from an address on, where they are at most so many and each may be read
abbrev pub read_bytes : Memory → ℕ → ℕ → ℕ → Option (List ℕ)
read_bytes memory most at n =
    if nat_le n most then (if is_none (range_fault to_read memory at n) then Some (bytes_at memory at n) else None)
    else None

-- n bytes are at most so many, and each may be written from an address on
abbrev pub may_be_placed : Memory → ℕ → ℕ → ℕ → Bool
may_be_placed memory most at n = nat_le n most && is_none (range_fault to_write memory at n)

-- the most bytes that a call moves, so that what it writes is one write
abbrev pub most_bytes : ℕ
most_bytes = longest_file_write

-- the most bytes of two names
abbrev pub longest_names : ℕ
longest_names = longest_name + longest_name

-- the bytes of two words, as which a pipe's descriptors are written
abbrev pub pair_size : ℕ
pair_size = 8

-- the bytes of a word, as which a child's status is written
abbrev pub word_size : ℕ
word_size = 4

-- the call of this number and these arguments, whose bytes are in this memory
abbrev pub request_by : ℕ → ℕ → ℕ → ℕ → Memory → Request
request_by number a0 a1 a2 memory =
    if number == 1 then Exit a0
    else if number == 2 then Write a0 a2 (read_bytes memory most_bytes a1 a2)
    else if number == 3 then Read a0 a1 a2 (may_be_placed memory most_bytes a1 a2)
    else if number == 4 then Open a1 a2 (read_bytes memory longest_name a0 a1)
    else if number == 5 then Close a0
    else if number == 6 then Pipe a0 (may_be_placed memory pair_size a0 pair_size)
    else if number == 7 then Fork
    else if number == 8 then Wait a0 ((a0 == 0) || may_be_placed memory word_size a0 word_size)
    else if number == 9 then GetPid
    else if number == 10 then Seek a0 a1
    else if number == 11 then Sync
    else if number == 12 then Unlink a1 (read_bytes memory longest_name a0 a1)
    else if number == 13 then Rename a1 a2 (read_bytes memory longest_names a0 (a1 + a2))
    else if number == 14 then Exec a1 (read_bytes memory longest_name a0 a1)
    else Unknown

-- the call at which a machine stands: its number is in a7, its arguments in a0, a1 and a2
abbrev pub request_of : State → Request
request_of s = request_by (slice_index s.architectural.registers 17)
    (slice_index s.architectural.registers 10) (slice_index s.architectural.registers 11) (slice_index s.architectural.registers 12) s.architectural.memory
