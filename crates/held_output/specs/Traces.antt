-- What a trace is to its callers: the items that a process was told.
use Rattle.std.specs.Prelude.{List, [], ◌∷◌, ◌++◌, map, Option, Some, None}
use Rattle.machine_model.specs.declared.reply.Reply.{Reply}
use Rattle.kernel_model.specs.Entries.{Item, Got, End}
use Rattle.held_output.specs.Withheld.{Withheld, Held}
use Rattle.held_output.specs.declared.trace.Ending.{Ending}

-- the last item of a process that has ended so
abbrev pub ending_items : Option Ending → List (Held Item)
ending_items None = []
ending_items (Some e) = record { what = End e.status; mark = e.mark } ∷ []

-- replies as items
abbrev pub as_items : List (Held Reply) → List (Held Item)
as_items rs = map (λ (r : Held Reply). record { what = Got r.what; mark = r.mark }) rs

-- the replies, and last how the process has ended, if it has
abbrev pub told_items : Withheld Reply → Option Ending → Withheld Item
told_items rs ending = record { items = as_items rs.items ++ ending_items ending; committed = rs.committed; room = rs.room }
