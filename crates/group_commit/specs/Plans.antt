-- What a plan makes of the storage of a run.
use Rattle.std.specs.Prelude.{◌≡◌, ◌+◌, ◌<◌, length}
use Rattle.disk_model.specs.Held.{end_of}
use Rattle.disk_model.specs.Storage.{Storage, sent}
use Rattle.simdisk.specs.Room.{AreSpaced}
use Rattle.group_commit.specs.declared.plan.CutPlan.{CutPlan}
use Rattle.group_commit.specs.Stages.{items_of, AllSpaced, length_all}

-- the storage once the plan's first stage is submitted
abbrev pub planned : Storage → CutPlan → Storage
planned st p = record st {
  device = sent st.device p.first.items;
  stages = items_of p.later.items;
  next_half = p.half;
  next_gate = p.gate;
  next_committed = p.committed;
}

-- the disk has room for what the plan writes
pub record HasRoom (p : CutPlan) : Type 0 where
  pub first : AreSpaced 2097152 p.first.items
  pub later : AllSpaced (items_of p.later.items)
  pub gate : p.gate < end_of p.half

-- from `old` the plan leads to `new`, and tells how many changes and writes that are
pub record Begins (old new : Storage) (p : CutPlan) : Type 0 where
  pub leads : planned old p ≡ new
  pub count : new.next_committed ≡ old.committed + p.count
  pub writes : p.writes ≡ length new.device.in_flight + length_all new.stages
  pub room : HasRoom p
