-- How gdb is told why a machine stops.
use Rattle.std.specs.Prelude.{ℕ, List, ◌++◌, codes}
use Rattle.std.specs.Int.{w32, to_be_bytes}
use Rattle.machine_model.specs.declared.stop.Cause.{Cause}
use Rattle.machine_model.specs.declared.stop.Cause.TheVariants.{Illegal, MisalignedTarget, MisalignedData, PageFault, FetchFault, Breakpoint}
use Rattle.gdb_packets.specs.Digits.{hex_of}
use Rattle.gdb_packets.specs.declared.stops.Stop.{Stop}
use Rattle.gdb_packets.specs.declared.stops.Stop.TheVariants.{Done, Interrupted, Break, Watch as WatchMet, Trap, Begin, End}
use Rattle.debugger.specs.declared.watching.WatchKind.{WatchKind}
use Rattle.debugger.specs.declared.watching.WatchKind.TheVariants.{Stores, Loads, Both}
use Rattle.debugger.specs.declared.watching.Watch.{Watch}

-- what a watch is called in a stop
abbrev pub name_of : WatchKind → List ℕ
name_of Stores = codes "watch"
name_of Loads = codes "rwatch"
name_of Both = codes "awatch"

-- the number that gdb gives to the signal of a trap
abbrev pub signal_of : Cause → List ℕ
signal_of Illegal = codes "T04"
signal_of MisalignedTarget = codes "T0a"
signal_of MisalignedData = codes "T0a"
signal_of PageFault = codes "T0b"
signal_of FetchFault = codes "T0b"
signal_of Breakpoint = codes "T05"

abbrev pub watch_text : Watch → List ℕ
watch_text w = codes "T05" ++ (name_of w.kind ++ (codes ":" ++ (hex_of (to_be_bytes w32 w.at) ++ codes ";")))

-- the packet of a stop
abbrev pub stop_text : Stop → List ℕ
stop_text Done = codes "T05"
stop_text Interrupted = codes "T02"
stop_text Break = codes "T05swbreak:;"
stop_text (WatchMet w) = watch_text w
stop_text (Trap cause) = signal_of cause
stop_text Begin = codes "T05replaylog:begin;"
stop_text End = codes "T05replaylog:end;"
