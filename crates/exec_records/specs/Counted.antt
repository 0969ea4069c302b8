-- What counts say.
use Rattle.std.specs.Prelude.{ℕ}
use Rattle.std.specs.List.{sum}
use Rattle.std.specs.Option.{unwrap_or}
use Rattle.std.specs.Ordering.{nat_cmp}
use Rattle.std.specs.BTreeMap.{get, values}
use Rattle.exec_records.specs.declared.step_counts.StepCounts.{StepCounts}

-- how many instructions were counted at an address
abbrev pub count_at : ℕ → StepCounts → ℕ
count_at a c = unwrap_or (get nat_cmp c.counts a) 0

-- how many were counted in all
abbrev pub count_of_all : StepCounts → ℕ
count_of_all c = sum (values c.counts)
