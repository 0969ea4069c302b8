-- What each event does to the synchronous state.
use Rattle.std.specs.Prelude.{ℕ, ◌+◌, ◌==◌, not, Bool, false, if◌then◌else◌, List, [], ◌∷◌, ◌++◌, map, filter, slice_set, Option, Some, None, is_some, option_map, option_to_list}
use Rattle.disk_model.specs.Numbers.{Numbered, place_of}
use Rattle.disk_model.specs.declared.change.Change.{Change}
use Rattle.disk_model.specs.declared.change.Change.TheVariants as change
use Rattle.machine_model.specs.declared.reply.Reply.{Reply}
use Rattle.machine_model.specs.declared.stop.Stop.{Stop}
use Rattle.machine_model.specs.declared.stop.Stop.TheVariants.{Limit, Call, Trap}
use Rattle.machine_model.specs.States.{run, stopped_at}
use Rattle.machine_model.specs.Replies.{replied}
use Rattle.kernel_model.specs.Entries.{Entry, Got, End}
use Rattle.kernel_model.specs.State.{SyncState, Shared, shared, Process, process_at, put_process, with_process, changed_by, read_by, all_stepped}
use Rattle.kernel_model.specs.Requests.{request_of}
use Rattle.machine_model.specs.Numbers.{cause_number}
use Rattle.kernel_model.specs.Rows.{CallEffect, row, row_end}
use Rattle.kernel_model.specs.declared.carrier.Carrier.TheVariants.{Proc}
use Rattle.kernel_model.specs.declared.descriptor.Descriptor.{Descriptor}
use Rattle.kernel_model.specs.declared.effect.FileEdit.{FileEdit}
use Rattle.kernel_model.specs.declared.effect.FileEdit.TheVariants as edit
use Rattle.kernel_model.specs.declared.effect.Slot.{Slot}
use Rattle.kernel_model.specs.declared.event.Event.{Event}
use Rattle.kernel_model.specs.declared.event.Event.TheVariants.{Turn, Enter, Cut, Complete, Fail}
use Rattle.kernel_model.specs.declared.request.Verdict.{Verdict}
use Rattle.kernel_model.specs.declared.request.Verdict.TheVariants.{Waits, Replies, Ends}

-- what an event comes to: the state after it, and its entry of the log
pub record Transition : Type 0 where
  pub state : SyncState
  pub entry : Entry

-- the entry of an event of the disk
abbrev pub disk_entry : Entry
disk_entry = record { process = 0; reads = []; writes = []; change = None; output = None; item = None; child = None }

-- the entry of an event of process p that touches nothing but the process
abbrev pub own_entry : ℕ → Entry
own_entry p = record { process = p; reads = Proc p ∷ []; writes = Proc p ∷ []; change = None; output = None; item = None; child = None }

-- an event of the disk: the synchronous state stays
abbrev pub unchanged : SyncState → Transition
unchanged s = record { state = s; entry = disk_entry }

-- an event that process p cannot have here, so that no accepted history has it: it looks at the process, and nothing changes
abbrev pub impossible : ℕ → SyncState → Transition
impossible p s = record { state = s; entry = record (own_entry p) { writes = [] } }

-- the process after at most n instructions
abbrev pub after_run : ℕ → Process → Process
after_run n p = record p { state = (run n p.state).state }

-- a Turn of at most n instructions of process pid, if there is one
abbrev pub after_turn : SyncState → ℕ → ℕ → Option Process → Transition
after_turn s pid n None = impossible pid s
after_turn s pid n (Some p) =
    if is_some p.status then impossible pid s
    else record { state = with_process s pid (after_run n p); entry = own_entry pid }

-- what comes of the call or the trap at which process pid stands
abbrev pub effect_at : Shared → ℕ → Process → Option Stop → Option CallEffect
effect_at s pid p (Some Call) = Some (row s pid p.descriptors p.children (request_of p.state))
effect_at s pid p (Some (Trap cause)) = Some (row_end p.descriptors (256 + cause_number cause))
effect_at s pid p (Some Limit) = None
effect_at s pid p None = None

-- the descriptors after these edits, the first of them first
abbrev pub set_slots : List (Option Descriptor) → List Slot → List (Option Descriptor)
set_slots ds [] = ds
set_slots ds (slot ∷ slots) = set_slots (slice_set ds slot.fd slot.holds) slots

-- a child is the one that is collected
abbrev pub is_collected : Option ℕ → ℕ → Bool
is_collected None child = false
is_collected (Some collected) child = child == collected

-- the children left to collect, without the one that is collected, and with the one that is made
abbrev pub children_after : List ℕ → CallEffect → List ℕ
children_after children e = filter (λ child. not (is_collected e.collects child)) children ++ option_to_list e.child

-- the process after a reply
abbrev pub after_reply : Process → CallEffect → Reply → Process
after_reply p e r = record {
  state = replied p.state r;
  descriptors = set_slots p.descriptors e.slots;
  children = children_after p.children e;
  status = None;
}

-- the reply of a fork to the process that it makes
abbrev pub zero_reply : Reply
zero_reply = record { a0 = 0; at = 0; bytes = []; image = None }

-- the process that is made, as its parent was, if one is: it is told 0, and has no children
abbrev pub forked : Process → Option ℕ → List Process
forked p None = []
forked p (Some child) = record { state = replied p.state zero_reply; descriptors = p.descriptors; children = []; status = None } ∷ []

-- the process once it has ended with a status
abbrev pub after_end : Process → ℕ → Process
after_end p status = record p { descriptors = map (λ d. None) p.descriptors; status = Some status }

-- the change by which an edit of a file is made: it names the file by its place. None where the file does not live
abbrev pub change_of : Numbered → FileEdit → Option Change
change_of files (edit.Create name) = Some (change.Create name)
change_of files (edit.Write file offset bytes) = option_map (λ place. change.Write place offset bytes) (place_of files file)
change_of files (edit.Empty file) = option_map change.Empty (place_of files file)
change_of files (edit.Remove file) = option_map change.Remove (place_of files file)
change_of files (edit.Rename file name) = option_map (λ place. change.Rename place name) (place_of files file)

-- the same of an edit, if there is one
abbrev pub change_by : Numbered → Option FileEdit → Option Change
change_by files None = None
change_by files (Some edit) = change_of files edit

-- what an effect does, where the caller is told this
abbrev pub after_effect : SyncState → ℕ → Process → CallEffect → Verdict → Transition
after_effect s pid p e Waits = record {
  state = s;
  entry = record { process = pid; reads = Proc pid ∷ e.reads; writes = []; change = None; output = None; item = None; child = None };
}
after_effect s pid p e (Replies r) = record {
  state = record {
    processes = put_process s.processes pid (after_reply p e r) ++ forked p e.child;
    files = changed_by s.files (change_by s.files e.edit);
    pipes = all_stepped s.pipes e.pipes;
    tapes = read_by s.tapes e.tape;
  };
  entry = record {
    process = pid;
    reads = Proc pid ∷ e.reads;
    writes = Proc pid ∷ e.writes;
    change = change_by s.files e.edit;
    output = e.output;
    item = Some (Got r);
    child = e.child;
  };
}
after_effect s pid p e (Ends status) = record {
  state = record (with_process s pid (after_end p status)) { pipes = all_stepped s.pipes e.pipes };
  entry = record {
    process = pid;
    reads = Proc pid ∷ e.reads;
    writes = Proc pid ∷ e.writes;
    change = None;
    output = None;
    item = Some (End status);
    child = None;
  };
}

-- the same of an effect, if there is one
abbrev pub after_effect_if : SyncState → ℕ → Process → Option CallEffect → Transition
after_effect_if s pid p None = impossible pid s
after_effect_if s pid p (Some e) = after_effect s pid p e e.verdict

-- an Enter of process pid, if there is one
abbrev pub after_enter : SyncState → ℕ → Option Process → Transition
after_enter s pid None = impossible pid s
after_enter s pid (Some p) =
    if is_some p.status then impossible pid s
    else after_effect_if s pid p (effect_at (shared s) pid p (stopped_at p.state))

-- one event
abbrev pub step : SyncState → Event → Transition
step s (Turn pid n) = after_turn s pid n (process_at s.processes pid)
step s (Enter pid) = after_enter s pid (process_at s.processes pid)
step s Cut = unchanged s
step s (Complete at) = unchanged s
step s (Fail at) = unchanged s
