-- What an `EventRecord` of the code says.
use Rattle.std.specs.Prelude.{option_map, option_copied}
use Rattle.footprints.specs.Footprints.{footprint_by}
use Rattle.footprints.specs.Kept.{footprint}
use Rattle.kernel_model.specs.Entries.{Entry, Item, Got, End}
use Rattle.kernel_model.specs.declared.effect.Output.{Output}
use Rattle.run_events.specs.Records.{RunEvent, process_in}
use Rattle.run_events.specs.declared.event_record.EventRecord.{EventRecord}
use Rattle.run_events.specs.declared.event_record.Output.{Output as SliceOutput}
use Rattle.run_events.specs.declared.event_record.Told.{Told}
use Rattle.run_events.specs.declared.event_record.Told.TheVariants.{Reply, Ended}

abbrev pub output_of : SliceOutput → Output
output_of o = record { terminal = o.terminal; bytes = o.bytes.now }

abbrev pub item_in : Told → Item
item_in (Reply r) = Got r.now
item_in (Ended status) = End status

abbrev pub entry_in : EventRecord → Entry
entry_in d = record {
  process = process_in d.event;
  reads = (footprint_by d.event (footprint d.reads.now d.writes.now)).reads;
  writes = (footprint_by d.event (footprint d.reads.now d.writes.now)).writes;
  change = option_copied d.change;
  output = option_map output_of d.output;
  item = option_map item_in d.told;
  child = d.child;
}

abbrev pub told_by : EventRecord → RunEvent
told_by d = record { event = d.event; answer = d.answer; call_site = d.call_site; request = option_copied d.request; entry = entry_in d }
