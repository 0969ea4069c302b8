-- What every core keeps.
use Rattle.std.specs.Prelude.{◌+◌, ◌*◌, ◌^◌, ◌<◌, ◌≤◌, length}
use Rattle.std.specs.List.{AllByRecursion}
use Rattle.kernel_model.specs.Answers.{Kernel, AllAccepted, at_boot, now, loans_out, limit, committed, changes}
use Rattle.kernel_model.specs.Ran.{ran_by_turns}
use Rattle.kernel_model.specs.Rows.{most_processes}
use Rattle.kernel_model.specs.World.{BootProgram, Boot, most_programs, tape_count, terminal_count}
use Rattle.kernel_laws.specs.Resuming.{IsSound}
use Rattle.kernel.specs.Sums.{process_of_turn, process_of_enter, sum_of_turns, sum_of_enters}

-- a boot as each core has it
pub record IsBooted (b : Boot) : Type 0 where
  -- its disk holds its files, and the memory of each program and each tape hold bytes
  pub sound : IsSound b
  -- it has 1 to 8 programs
  pub some : 1 ≤ length b.programs
  pub few : length b.programs ≤ most_programs
  -- each with a terminal from 0 to 7
  pub terminals : AllByRecursion (λ (p : BootProgram). p.terminal < terminal_count) b.programs
  -- and at most 8 tapes
  pub tapes : length b.tapes ≤ tape_count

-- what each core keeps
pub record KeepsLimits (k : Kernel) : Type 0 where
  -- its boot is one that a core can have
  pub boot : IsBooted k.boot
  -- each event of its history is accepted where it stands, from the boot on, also where nothing is ever lent
  pub accepted : AllAccepted (at_boot k.boot) k.history
  -- its history has room for two events of each loan that is out
  pub room : length k.history + 2 * loans_out k ≤ limit
  -- its Turns ran at most 2^50 instructions
  pub ran : ran_by_turns k ≤ 2 ^ 50
  -- it has at most 1,024 processes
  pub processes : length (now k).sync.processes ≤ most_processes
  -- the process number of each of its Turns and Enters is at most 1,024, and so their sums are at most 1,024 for each event
  pub numbers : AllByRecursion (λ e. process_of_turn e + process_of_enter e ≤ most_processes) k.history
  pub sums : sum_of_turns k.history + sum_of_enters k.history ≤ most_processes * length k.history
  -- no more changes are committed than there are
  pub committed : committed (now k) ≤ changes (now k)
