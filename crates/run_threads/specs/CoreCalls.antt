-- What the notes of a desk say of the calls of its core in which a stage is committed.
use Rattle.std.specs.Prelude.{List, [], ◌∷◌, ◌++◌, Ok}
use Rattle.kernel_model.specs.declared.event.Event.TheVariants as event
use Rattle.run_threads.specs.declared.note.Note.{Note}
use Rattle.run_threads.specs.declared.note.Note.TheVariants as note
use Rattle.durable_disk.specs.declared.core_call.CoreCall.{CoreCall}
use Rattle.durable_disk.specs.declared.core_call.CoreCall.TheVariants as core_call

-- the call that a note is of: writes in flight were given, or the end of one was told and accepted
abbrev pub call_of : Note → List CoreCall
call_of (note.InFlight count) = core_call.InFlight count ∷ []
call_of (note.Applied (event.Complete at) (Ok a)) = core_call.Complete at ∷ []
call_of (note.Applied (event.Fail at) (Ok a)) = core_call.Fail at ∷ []
call_of _ = []

abbrev pub calls_in : List Note → List CoreCall
calls_in [] = []
calls_in (n ∷ ns) = call_of n ++ calls_in ns
