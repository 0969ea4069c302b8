-- A core at boot.
use Rattle.std.proofs.Common.{true, slice_index, ◌≡◌, ◌+◌, ◌<◌, ◌≤◌, [], ◌∷◌, length, map, ap, sym, subst, ◌∙◌, List, Vec, ℕ, rules, arith}
use Rattle.std.specs.List.{AllByRecursion}
use Rattle.std.proofs.lemmas.List.{length-map}
use Rattle.disk_model.specs.declared.change.NamedFile.{NamedFile}
use Rattle.disk_model.specs.Held.{IsHeldTo, selected_half, start_of, end_of}
use Rattle.disk_model.specs.Runs.{first_storage}
use Rattle.disk_model.specs.Storage.{Device, is_quiet}
use Rattle.kernel_model.specs.Bytes.{ProgramsHoldBytes, TapesHoldBytes}
use Rattle.kernel_model.specs.Answers.{AllAccepted, at_boot}
use Rattle.kernel_model.specs.World.{BootProgram, Boot, HoldsItsFiles, tape_count, terminal_count}
use Rattle.kernel_model.specs.declared.event.Event.{Event}
use Rattle.kernel_step.specs.Booting.{program_of, boot_with, nothing_lent}
use Rattle.kernel_step.specs.Represents.{Represents}
use Rattle.kernel_step.specs.declared.booting.Program.{Program}
use Rattle.kernel.specs.Booting.{boot_of}
use Rattle.kernel.specs.Parts.{IsCore}
use Rattle.kernel_model.specs.Rows.{most_processes}
use Rattle.kernel.specs.Sums.{process_of_turn, process_of_enter, sum_of_turns, sum_of_enters}
use Rattle.kernel.specs.declared.cores.Booted.{Booted}
use Rattle.kernel.proofs.cores.Core.boot.Goals as goal
use Rattle.kernel.proofs.cores.Core.boot.Goals.{In_ok-booted}

-- what it was booted from
abbrev booted : (c : In_ok-booted) → Booted
booted c = record { programs = c.args.programs; tapes = c.in_ok-tapes.tapes; files = c.in_ok-held.held; disk = c.in_ok-disk.disk; gate = c.in_ok-files.gate }

disk-is : (c : In_ok-booted) → c.in_ok-disk.disk.value.items ≡ c.args.device.disk
disk-is c = c.in_ok-disk.ensures.share

-- the device is as it was before its bytes were shared
device-is : (c : In_ok-booted) → c.share.new.self ≡ c.args.device
device-is c = c.in_ok-disk.ensures.same

shared-is : (c : In_ok-booted) → boot_of c.in_ok-booted.booted.value ≡ boot_of (booted c)
shared-is c = ap (λ (b : Booted). boot_of b) c.in_ok-booted.ensures

held-is : (c : In_ok-booted) → HoldsItsFiles (boot_of (booted c))
held-is c =
    subst (λ (fs : List NamedFile). IsHeldTo c.in_ok-disk.disk.value.items c.in_ok-files.gate fs) (sym (c.in_ok-held.ensures ∙ c.list.ensures))
    (subst (λ (d : List ℕ). IsHeldTo d c.in_ok-files.gate c.in_ok-files.files.living) (sym (disk-is c)) c.in_ok-files.ensures.found)

-- the boot of the parts is that of the core
boot-is : (c : In_ok-booted) → boot_with c.deref.result.now c.in_ok-shared.shared.value.items c.in_ok-files.files.living c.args.device.disk c.in_ok-files.gate ≡ boot_of (booted c)
boot-is c =
    ap (λ (ps : List Program). boot_with ps c.in_ok-shared.shared.value.items c.in_ok-files.files.living c.args.device.disk c.in_ok-files.gate) c.deref.ensures.value
    ∙ ap (λ (v : Vec _ _). boot_with c.args.programs.items v.items c.in_ok-files.files.living c.args.device.disk c.in_ok-files.gate) c.in_ok-shared.ensures
    ∙ ap (λ (fs : List NamedFile). boot_with c.args.programs.items c.in_ok-tapes.tapes.value.items fs c.args.device.disk c.in_ok-files.gate) (sym (c.in_ok-held.ensures ∙ c.list.ensures))
    ∙ ap (λ (d : List ℕ). boot_with c.args.programs.items c.in_ok-tapes.tapes.value.items c.in_ok-held.held d c.in_ok-files.gate) (sym (disk-is c))

programs-hold : (c : In_ok-booted) → ProgramsHoldBytes (boot_of (booted c))
programs-hold c = subst (λ (b : Boot). ProgramsHoldBytes b) (boot-is c) (c.in_ok-running.ensures.bytes c.args.device.disk c.in_ok-files.gate)

tapes-hold : (c : In_ok-booted) → TapesHoldBytes (boot_of (booted c))
tapes-hold c = subst (λ (b : Boot). TapesHoldBytes b) (boot-is c) (c.in_ok-running.ensures.tapes c.args.device.disk c.in_ok-files.gate)

terminals-are : (ps : List Program) → AllByRecursion (λ (p : Program). p.terminal < terminal_count) ps → AllByRecursion (λ (p : BootProgram). p.terminal < terminal_count) (map program_of ps)
terminals-are [] h = tt
terminals-are (p ∷ ps) h = (h.0, terminals-are ps h.1)

tapes-few : (c : In_ok-booted) → length (boot_of (booted c)).tapes ≤ tape_count
tapes-few c = subst (λ (v : Vec _ _). length v.items ≤ 8) (sym c.in_ok-tapes.ensures) c.requires.few_tapes

core-is : (c : In_ok-booted) → IsCore (boot_of (booted c)) c.in_ok-running.running (record { turns = 0; enters = 0 })
core-is c =
    let none : c.in_ok-running.running.history.items ≡ [] = c.in_ok-running.ensures.history (boot_of (booted c)) in
    let few : length (boot_of (booted c)).programs ≡ length c.args.programs.items = length-map c.args.programs.items program_of in
    record {
      booted = record {
        sound = record { held = held-is c; programs = programs-hold c; tapes = tapes-hold c };
        some = let some = c.requires.some in omega (arith, few, some);
        few = let most = c.requires.few in omega (arith, few, most);
        terminals = terminals-are c.args.programs.items c.requires.terminals;
        tapes = tapes-few c;
      };
      stands = subst (λ (b : Boot). Represents b c.in_ok-running.running) (boot-is c)
          (c.in_ok-running.ensures.stands c.args.device.disk c.in_ok-files.gate
          (c.new-committer.ensures ∙ ap (λ (d : Device). first_storage d.disk c.in_ok-files.gate) (device-is c)));
      accepted = subst (λ (es : List Event). AllAccepted (at_boot (boot_of (booted c))) es) (sym none) tt;
      turns = ap sum_of_turns (sym none);
      enters = ap sum_of_enters (sym none);
      numbers = subst (λ (es : List Event). AllByRecursion (λ e. process_of_turn e + process_of_enter e ≤ most_processes) es) (sym none) tt;
      few = omega arith;
    }

pub invariant_of-result : goal.invariant_of-result
invariant_of-result c = subst (λ (b : Boot). IsCore b c.in_ok-running.running (record { turns = 0; enters = 0 })) (sym (shared-is c)) (core-is c)

pub returns-clause-history : goal.returns-clause-history
returns-clause-history c = c.in_ok-running.ensures.history (boot_of c.in_ok-booted.booted.value)

pub returns-clause-lendings : goal.returns-clause-lendings
returns-clause-lendings c = c.in_ok-running.ensures.lendings (boot_of c.in_ok-booted.booted.value) ∙ ap (λ (ps : List Program). map nothing_lent ps) c.deref.ensures.value

pub returns-clause-bytes : goal.returns-clause-bytes
returns-clause-bytes c = subst (λ (b : Boot). ProgramsHoldBytes b) (sym (shared-is c)) (programs-hold c)

pub returns-clause-tapes : goal.returns-clause-tapes
returns-clause-tapes c = subst (λ (b : Boot). TapesHoldBytes b) (sym (shared-is c)) (tapes-hold c)

pub returns-in_err-files-clause-only : goal.returns-in_err-files-clause-only
returns-in_err-files-clause-only c = λ files held. let one = c.in_err-files.ensures.only held.0 files held.1 in search rules

pub new-committer-requires-clause-quiet : goal.new-committer-requires-clause-quiet
new-committer-requires-clause-quiet c = subst (λ (d : Device). is_quiet d ≡ true) (sym c.in_ok-disk.ensures.same) c.requires.quiet

pub new-committer-requires-clause-half : goal.new-committer-requires-clause-half
new-committer-requires-clause-half c =
    subst (λ (d : Device). start_of (selected_half (slice_index d.disk 0)) ≤ c.in_ok-files.gate) (sym c.in_ok-disk.ensures.same) c.in_ok-files.ensures.gate.0

pub new-committer-requires-clause-within : goal.new-committer-requires-clause-within
new-committer-requires-clause-within c =
    subst (λ (d : Device). c.in_ok-files.gate < end_of (selected_half (slice_index d.disk 0))) (sym c.in_ok-disk.ensures.same) c.in_ok-files.ensures.gate.1

pub new-requires-clause-few : goal.new-requires-clause-few
new-requires-clause-few c = rw c.deref.ensures.value c.requires.few

pub new-requires-clause-made : goal.new-requires-clause-made
new-requires-clause-made c = search (rules, c.held_files_are_made.ensures)

pub new-requires-clause-numbered : goal.new-requires-clause-numbered
new-requires-clause-numbered c = c.in_ok-files.ensures.numbered

pub returns-clause-programs : goal.returns-clause-programs
returns-clause-programs c = ap (λ (b : Boot). b.programs) (shared-is c)

pub returns-clause-given_tapes : goal.returns-clause-given_tapes
returns-clause-given_tapes c = ap (λ (b : Boot). b.tapes) (shared-is c) ∙ ap (λ (v : Vec _ _). v.items) c.in_ok-tapes.ensures

pub returns-clause-disk : goal.returns-clause-disk
returns-clause-disk c = ap (λ (b : Boot). b.disk) (shared-is c) ∙ disk-is c

pub returns-clause-last_lent : goal.returns-clause-last_lent
returns-clause-last_lent c = c.in_ok-running.ensures.last_lent (boot_of c.in_ok-booted.booted.value)

pub returns-clause-held : goal.returns-clause-held
returns-clause-held c = subst (λ (b : Boot). HoldsItsFiles b) (sym (shared-is c)) (held-is c)

pub returns-clause-fault : goal.returns-clause-fault
returns-clause-fault c = tt

pub returns-clause-only : goal.returns-clause-only
returns-clause-only c = λ files held. tt
