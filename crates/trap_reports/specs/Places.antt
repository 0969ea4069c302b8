-- What is at an address, and which address a trap is about.
use Rattle.std.specs.Prelude.{ℕ, ◌+◌, ◌-◌, ◌%◌, ◌^◌, ◌&&◌, nat_lt, Bool, true, false, if◌then◌else◌, Option, Some, None, is_some, is_none, is_ok, option_map, unwrap_or}
use Rattle.std.specs.FinMap.{get}
use Rattle.memory_model.specs.Access.{access_fault, fetched, loaded, to_write}
use Rattle.memory_model.specs.Memory.{Memory}
use Rattle.memory_model.specs.declared.access.Width.TheVariants.{Byte}
use Rattle.machine_model.specs.Effects.{ArchitecturalState, reg}
use Rattle.machine_model.specs.declared.stop.Cause.{Cause}
use Rattle.machine_model.specs.declared.stop.Cause.TheVariants as cause
use Rattle.trap_reports.specs.declared.report.TrapReport.{TrapReport}
use Rattle.trap_reports.specs.declared.there.There.{There}
use Rattle.trap_reports.specs.declared.there.There.TheVariants.{NoPage, Page}

-- the byte at an address, if a page is there
abbrev pub byte_there : Memory → ℕ → Option ℕ
byte_there memory at = option_map (λ c. c.byte) (get memory at)

-- whether four bytes stand from an address on
abbrev pub is_word_there : Memory → ℕ → Bool
is_word_there memory at =
    is_some (byte_there memory at) && is_some (byte_there memory (at + 1)) && is_some (byte_there memory (at + 2)) && is_some (byte_there memory (at + 3))

-- what is at an address: no page, or one of which the byte there may be read, or written, and the word there executed
abbrev pub there_at : Memory → ℕ → There
there_at memory at =
    if is_none (byte_there memory at) then NoPage
    else Page (is_ok (loaded memory at Byte)) (is_none (access_fault to_write memory at Byte)) (is_ok (fetched memory (at - at % 4)))

-- the lowest address of the stack, which has four pages below 2^31
abbrev pub lowest_of_stack : ℕ
lowest_of_stack = 2 ^ 31 - 2 ^ 14

-- the stack pointer, x2, where it stands below the stack and no page is there
abbrev pub below_stack : ArchitecturalState → Option ℕ
below_stack h = if nat_lt (reg h 2) lowest_of_stack && is_none (byte_there h.memory (reg h 2)) then Some (reg h 2) else None

-- a trap of this cause is about the address that the instruction names
abbrev pub is_about_address : Cause → Bool
is_about_address cause.Illegal = false
is_about_address cause.MisalignedTarget = true
is_about_address cause.MisalignedData = true
is_about_address cause.PageFault = true
is_about_address cause.FetchFault = false
is_about_address cause.Breakpoint = false

-- the address that a trap is about, and what is there: that which the instruction names, or else the pc
abbrev pub place_of : TrapReport → ℕ × There
place_of r = if is_about_address r.cause then unwrap_or r.named (r.pc, r.there) else (r.pc, r.there)
