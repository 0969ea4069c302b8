-- The numbers of calls.
use Rattle.std.specs.Prelude.{ℕ}
use Rattle.call_forms.specs.declared.call.Call.{Call}
use Rattle.call_forms.specs.declared.call.Call.TheVariants.{Exit, Write, Read, Open, Close, Pipe, Fork, Wait, GetPid, Seek, Sync, Unlink, Rename, Exec}

abbrev pub number_of : Call → ℕ
number_of Exit = 1
number_of Write = 2
number_of Read = 3
number_of Open = 4
number_of Close = 5
number_of Pipe = 6
number_of Fork = 7
number_of Wait = 8
number_of GetPid = 9
number_of Seek = 10
number_of Sync = 11
number_of Unlink = 12
number_of Rename = 13
number_of Exec = 14
