-- Worked runs by hand. The carriers of each event are those of the table of calls; its cone, and whether it is durable, come by
-- computing. An Enter is given by its process, the carriers that it reads and writes beside that process, and whether it makes a change.
use Rattle.std.proofs.Common.{◌≡◌, ℕ, Bool, true, false, List, [], ◌∷◌, ◌++◌, Some, None, refl}
use Rattle.std.specs.Prelude.{if◌then◌else◌, slice_get}
use Rattle.disk_model.specs.declared.change.Change.TheVariants as change
use Rattle.kernel_model.specs.Entries.{Entry}
use Rattle.kernel_model.specs.Paths.{is_durable}
use Rattle.kernel_model.specs.Steps.{own_entry, disk_entry}
use Rattle.kernel_model.specs.declared.carrier.Carrier.{Carrier}
use Rattle.kernel_model.specs.declared.carrier.Carrier.TheVariants.{Proc, File, Names, Pipe, Pipes, Tasks}
use Rattle.kernel_laws.specs.Cones.{cone_numbers, cone_flags, numbers_selected, visible_flags}

abbrev enter : ℕ → List Carrier → List Carrier → Bool → Entry
enter p reads writes changes = record {
  process = p;
  reads = Proc p ∷ reads;
  writes = Proc p ∷ writes;
  change = if changes then Some (change.Empty 0) else None;
  output = None;
  item = None;
  child = None;
}

abbrev turn : ℕ → Entry
turn p = own_entry p

-- the numbers of the events in the cone of an entry after these
abbrev numbers : List Entry → Entry → List ℕ
numbers past e = numbers_selected 1 (cone_flags past e)

-- ---- a file: process 1 makes f, writes to it, and shows A; process 2 opens f, reads it, and shows C, which is held back
abbrev by_file : List Entry
by_file = turn 1 ∷ enter 1 (Names ∷ File 0 ∷ []) (Names ∷ File 0 ∷ []) true
    ∷ turn 1 ∷ enter 1 (File 0 ∷ []) (File 0 ∷ []) true
    ∷ turn 1 ∷ enter 1 [] [] false
    ∷ turn 2 ∷ enter 2 (Names ∷ []) [] false
    ∷ turn 2 ∷ enter 2 (File 0 ∷ []) [] false
    ∷ turn 2 ∷ []

cone_by_file : numbers by_file (enter 2 [] [] false) ≡ 1 ∷ 2 ∷ 3 ∷ 4 ∷ 7 ∷ 8 ∷ 9 ∷ 10 ∷ 11 ∷ 12 ∷ []
cone_by_file = refl

held_by_file : is_durable 1 by_file (enter 2 [] [] false) ≡ false
held_by_file = refl

shown_by_file : is_durable 2 by_file (enter 2 [] [] false) ≡ true
shown_by_file = refl

-- ---- a pipe: process 1 makes a pipe, forks, makes f, and writes a byte to the pipe; process 2 reads the byte, and shows C, which is
-- held back. Had it shown C before the read, the cone would be the pipe's, the fork's and its own events.
abbrev by_pipe : List Entry
by_pipe = turn 1 ∷ enter 1 (Pipes ∷ Pipe 0 ∷ []) (Pipes ∷ Pipe 0 ∷ []) false
    ∷ turn 1 ∷ enter 1 (Tasks ∷ Proc 2 ∷ Pipe 0 ∷ Pipe 0 ∷ []) (Tasks ∷ Proc 2 ∷ Pipe 0 ∷ Pipe 0 ∷ []) false
    ∷ turn 1 ∷ enter 1 (Names ∷ File 0 ∷ []) (Names ∷ File 0 ∷ []) true
    ∷ turn 1 ∷ enter 1 (Pipe 0 ∷ []) (Pipe 0 ∷ []) false
    ∷ turn 2 ∷ []

cone_by_pipe : numbers (by_pipe ++ enter 2 (Pipe 0 ∷ []) (Pipe 0 ∷ []) false ∷ turn 2 ∷ []) (enter 2 [] [] false)
    ≡ 1 ∷ 2 ∷ 3 ∷ 4 ∷ 5 ∷ 6 ∷ 7 ∷ 8 ∷ 9 ∷ 10 ∷ 11 ∷ 12 ∷ []
cone_by_pipe = refl

cone_before_read : numbers by_pipe (enter 2 [] [] false) ≡ 1 ∷ 2 ∷ 3 ∷ 4 ∷ 9 ∷ 10 ∷ []
cone_before_read = refl

shown_before_read : is_durable 0 by_pipe (enter 2 [] [] false) ≡ true
shown_before_read = refl

-- ---- a wait: process 1 forks; process 2 makes g, and ends. What process 1 shows before it waits is shown at once, and what it shows
-- after the wait is held back.
abbrev by_wait : List Entry
by_wait = turn 1 ∷ enter 1 (Tasks ∷ Proc 2 ∷ []) (Tasks ∷ Proc 2 ∷ []) false
    ∷ turn 2 ∷ enter 2 (Names ∷ File 0 ∷ []) (Names ∷ File 0 ∷ []) true
    ∷ turn 2 ∷ enter 2 [] [] false
    ∷ turn 1 ∷ []

cone_before_wait : numbers by_wait (enter 1 [] [] false) ≡ 1 ∷ 2 ∷ 7 ∷ 8 ∷ []
cone_before_wait = refl

cone_by_wait : numbers (by_wait ++ enter 1 [] [] false ∷ turn 1 ∷ enter 1 (Proc 2 ∷ []) [] false ∷ turn 1 ∷ []) (enter 1 [] [] false)
    ≡ 1 ∷ 2 ∷ 3 ∷ 4 ∷ 5 ∷ 6 ∷ 7 ∷ 8 ∷ 9 ∷ 10 ∷ 11 ∷ 12 ∷ []
cone_by_wait = refl

held_by_wait : is_durable 0 (by_wait ++ enter 1 [] [] false ∷ turn 1 ∷ enter 1 (Proc 2 ∷ []) [] false ∷ turn 1 ∷ []) (enter 1 [] [] false) ≡ false
held_by_wait = refl

-- ---- a number: process 1 makes f, and forks process 3; process 2 forks process 4. What process 2 then shows is held back, since the
-- number 4 tells of the fork before.
abbrev by_number : List Entry
by_number = turn 1 ∷ enter 1 (Names ∷ File 0 ∷ []) (Names ∷ File 0 ∷ []) true
    ∷ turn 1 ∷ enter 1 (Tasks ∷ Proc 3 ∷ []) (Tasks ∷ Proc 3 ∷ []) false
    ∷ turn 2 ∷ enter 2 (Tasks ∷ Proc 4 ∷ []) (Tasks ∷ Proc 4 ∷ []) false
    ∷ turn 2 ∷ []

cone_by_number : numbers by_number (enter 2 [] [] false) ≡ 1 ∷ 2 ∷ 3 ∷ 4 ∷ 5 ∷ 6 ∷ 7 ∷ 8 ∷ []
cone_by_number = refl

held_by_number : is_durable 0 by_number (enter 2 [] [] false) ≡ false
held_by_number = refl

-- ---- one terminal: process 1 makes f, and shows X; process 2 shows Y on the same terminal. The event of Y rests on nothing, and is
-- visible. So in the run of the visible events the terminal has Y, of which what is shown, nothing, is a beginning.
abbrev one_terminal : List Entry
one_terminal = turn 1 ∷ enter 1 (Names ∷ File 0 ∷ []) (Names ∷ File 0 ∷ []) true ∷ turn 1 ∷ enter 1 [] [] false ∷ turn 2 ∷ []

cone_on_terminal : numbers one_terminal (enter 2 [] [] false) ≡ 5 ∷ 6 ∷ []
cone_on_terminal = refl

visible_on_terminal : numbers_selected 1 (visible_flags 0 [] (one_terminal ++ enter 2 [] [] false ∷ [])) ≡ 1 ∷ 5 ∷ 6 ∷ []
visible_on_terminal = refl

-- ---- a place: process 1 makes two files, and process 2 unlinks the first. A write to the second, through a descriptor of before, does
-- not rest on the unlink. So its file stands at place 1 in the cone's run, and at place 0 in the whole one.
abbrev by_place : List Entry
by_place = turn 1 ∷ enter 1 (Names ∷ File 0 ∷ []) (Names ∷ File 0 ∷ []) true
    ∷ turn 1 ∷ enter 1 (Names ∷ File 1 ∷ []) (Names ∷ File 1 ∷ []) true
    ∷ turn 2 ∷ enter 2 (Names ∷ File 0 ∷ []) (Names ∷ File 0 ∷ []) true
    ∷ turn 1 ∷ []

cone_by_place : numbers by_place (enter 1 (File 1 ∷ []) (File 1 ∷ []) true) ≡ 1 ∷ 2 ∷ 3 ∷ 4 ∷ 7 ∷ 8 ∷ []
cone_by_place = refl

-- ---- exec: process 1 makes f, writes its image, and makes g; process 2 goes on with the image of f, and shows what that does. It rests
-- on all three changes: on those of f by its bytes, and on g by the names.
abbrev by_image : List Entry
by_image = turn 1 ∷ enter 1 (Names ∷ File 0 ∷ []) (Names ∷ File 0 ∷ []) true
    ∷ turn 1 ∷ enter 1 (File 0 ∷ []) (File 0 ∷ []) true
    ∷ turn 1 ∷ enter 1 (Names ∷ File 1 ∷ []) (Names ∷ File 1 ∷ []) true
    ∷ turn 2 ∷ enter 2 (Names ∷ File 0 ∷ []) [] false
    ∷ turn 2 ∷ []

cone_by_image : numbers by_image (enter 2 [] [] false) ≡ 1 ∷ 2 ∷ 3 ∷ 4 ∷ 5 ∷ 6 ∷ 7 ∷ 8 ∷ 9 ∷ 10 ∷ []
cone_by_image = refl

held_by_image : is_durable 2 by_image (enter 2 [] [] false) ≡ false
held_by_image = refl

-- An exec of a name that no file has (-2) reads the names alone, so it does not rest on the bytes of f. One whose name is too long
-- (-22) or may not be read (-14) reads nothing beside its process.
abbrev no_image : List Entry
no_image = turn 1 ∷ enter 1 (Names ∷ File 0 ∷ []) (Names ∷ File 0 ∷ []) true ∷ turn 1 ∷ enter 1 (File 0 ∷ []) (File 0 ∷ []) true ∷ turn 2 ∷ []

cone_by_no_name : numbers no_image (enter 2 (Names ∷ []) [] false) ≡ 1 ∷ 2 ∷ 5 ∷ 6 ∷ []
cone_by_no_name = refl

cone_by_bad_name : numbers no_image (enter 2 [] [] false) ≡ 5 ∷ 6 ∷ []
cone_by_bad_name = refl

-- An exec writes nothing beside its own process: one of process 3 after that of process 2 does not rest on it.
cone_by_second : numbers by_image (enter 3 (Names ∷ File 0 ∷ []) [] false) ≡ 1 ∷ 2 ∷ 3 ∷ 4 ∷ 5 ∷ 6 ∷ 10 ∷ []
cone_by_second = refl

-- ---- the first run: process 1 makes f, writes to it, and shows A; process 2 shows B; a Cut, two Completes, and a Turn
abbrev first_run : List Entry
first_run = turn 1 ∷ enter 1 (Names ∷ File 0 ∷ []) (Names ∷ File 0 ∷ []) true
    ∷ turn 1 ∷ enter 1 (File 0 ∷ []) (File 0 ∷ []) true
    ∷ turn 1 ∷ enter 1 [] [] false
    ∷ turn 2 ∷ enter 2 [] [] false
    ∷ disk_entry ∷ disk_entry ∷ disk_entry ∷ turn 2 ∷ []

cone_6 : cone_numbers first_run 6 (slice_get first_run 5) ≡ 1 ∷ 2 ∷ 3 ∷ 4 ∷ 5 ∷ 6 ∷ []
cone_6 = refl

cone_8 : cone_numbers first_run 8 (slice_get first_run 7) ≡ 7 ∷ 8 ∷ []
cone_8 = refl

-- what is visible before the commit, and after it
visible_0 : numbers_selected 1 (visible_flags 0 [] first_run) ≡ 1 ∷ 7 ∷ 8 ∷ 12 ∷ []
visible_0 = refl

visible_2 : numbers_selected 1 (visible_flags 2 [] first_run) ≡ 1 ∷ 2 ∷ 3 ∷ 4 ∷ 5 ∷ 6 ∷ 7 ∷ 8 ∷ 12 ∷ []
visible_2 = refl
