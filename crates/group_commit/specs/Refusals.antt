-- When a cut is refused.
use Rattle.std.specs.Prelude.{ℕ, ◌+◌, ◌^◌, nat_lt, List, length, Result, Ok, Err, if◌then◌else◌}
use Rattle.disk_model.specs.declared.change.Change.{Change}
use Rattle.disk_model.specs.Storage.{Storage, is_empty}
use Rattle.group_commit.specs.declared.refusal.CommitRefusal.{CommitRefusal}
use Rattle.group_commit.specs.declared.refusal.CommitRefusal.TheVariants.{GroupInFlight, NothingToCut, NoSuchWrite, DiskFailed, OutOfMemory, Budget}

abbrev pub number_of : CommitRefusal → ℕ
number_of GroupInFlight = 5
number_of NothingToCut = 6
number_of NoSuchWrite = 7
number_of DiskFailed = 8
number_of OutOfMemory = 9
number_of Budget = 11

-- whether these changes, all uncommitted ones in order, may be cut: no write has failed, no group is in flight, and there is a
-- change
abbrev pub cut_test : Storage → List Change → Result (Unit {0}) CommitRefusal
cut_test st cs =
    if is_empty st.device.failed then
    (if is_empty st.device.in_flight then (if is_empty cs then Err NothingToCut else Ok tt) else Err GroupInFlight)
    else Err DiskFailed

-- why a cut that passes these tests is refused all the same: a u64 does not count the changes, or else memory ran out
abbrev pub last_refusal : Storage → List Change → CommitRefusal
last_refusal st cs = if nat_lt (st.committed + length cs) (2 ^ 64) then OutOfMemory else Budget
