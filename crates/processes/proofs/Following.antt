-- The parts of the processes of a kernel's state, where one of them changes or forks.
use Rattle.std.proofs.Common.{◌≡◌, ℕ, zero, suc, ◌+◌, ◌<◌, nat_le, List, [], ◌∷◌, ◌++◌, map, length, slice_set, Option, Some, None, not, false, refl, ap, sym, ◌∙◌, arith}
use Rattle.std.specs.Prelude.{slice_get, filter}
use Rattle.std.specs.Option.{option_map}
use Rattle.std.proofs.lemmas.List.{map-set, map-append, append-nil}
use Rattle.std.proofs.lemmas.Bool.Decides.{nat_tests}
use Rattle.std.proofs.lemmas.Option.{slice_get-map}
use Rattle.machine_model.specs.declared.reply.Reply.{Reply}
use Rattle.kernel_model.specs.Rows.{CallEffect, most_processes, row_fork}
use Rattle.kernel_model.specs.State.{Process, process_at, put_process}
use Rattle.kernel_model.specs.Steps.{after_reply, children_after, is_collected, forked, set_slots}
use Rattle.kernel_model.specs.declared.descriptor.Descriptor.{Descriptor}
use Rattle.kernel_model.specs.declared.effect.Slot.{Slot}
use Rattle.processes.specs.Parts.{Part, part_of, part_at, with_part, with_child, with_slots, without_child, after_fork}

-- a part is what its fields are
same_part : (a b : Part) → a.descriptors ≡ b.descriptors → a.children ≡ b.children → a.status ≡ b.status → a ≡ b
same_part a b descriptors children status =
    ap (λ (d : List (Option Descriptor)). record { descriptors = d; children = a.children; status = a.status }) descriptors
    ∙ ap (λ (c : List ℕ). record { descriptors = b.descriptors; children = c; status = a.status }) children
    ∙ ap (λ (s : Option ℕ). record { descriptors = b.descriptors; children = b.children; status = s }) status

-- all children but none
kept-none : (children : List ℕ) → filter (λ (child : ℕ). not (is_collected None child)) children ≡ children
kept-none [] = refl
kept-none (child ∷ children) = ap (λ (cs : List ℕ). child ∷ cs) (kept-none children)

-- the children after a call that makes none
children_after-none : (children : List ℕ) (e : CallEffect) (collects : Option ℕ) → e.collects ≡ collects → e.child ≡ None
    → filter (λ (child : ℕ). not (is_collected collects child)) children ≡ children_after children e
children_after-none children e collects same none =
    rw (none, same) (sym (append-nil (filter (λ (child : ℕ). not (is_collected collects child)) children)))

-- a call that edits descriptors alone
pub part_of-slots : (p : Process) (e : CallEffect) (r : Reply) (slots : List Slot) → p.status ≡ None → e.slots ≡ slots → e.collects ≡ None → e.child ≡ None
    → with_slots slots (part_of p) ≡ part_of (after_reply p e r)
part_of-slots p e r slots lives edits collects none =
    same_part (with_slots slots (part_of p)) (part_of (after_reply p e r)) (ap (λ (ss : List Slot). set_slots p.descriptors ss) (sym edits))
    (sym (kept-none p.children) ∙ children_after-none p.children e None collects none) lives

-- a call that collects a child
pub part_of-collects : (p : Process) (e : CallEffect) (r : Reply) (child : ℕ) → p.status ≡ None → e.slots ≡ [] → e.collects ≡ Some child → e.child ≡ None
    → without_child child (part_of p) ≡ part_of (after_reply p e r)
part_of-collects p e r child lives edits collects none =
    same_part (without_child child (part_of p)) (part_of (after_reply p e r)) (ap (λ (ss : List Slot). set_slots p.descriptors ss) (sym edits))
    (children_after-none p.children e (Some child) collects none) lives

-- a fork that is not refused
pub part_of-forks : (p : Process) (n count : ℕ) (r : Reply) → p.status ≡ None → n ≡ count + 1 → count < most_processes
    → with_child n (part_of p) ≡ part_of (after_reply p (row_fork count p.descriptors) r)
part_of-forks p n count r lives number few =
    let fits : nat_le most_processes count ≡ false = grind (arith, nat_tests) in
    rw (fits, number) (same_part _ _ refl (ap (λ (cs : List ℕ). cs ++ (count + 1) ∷ []) (sym (kept-none p.children))) lives)

-- the part of a process that is there
pub part_at-process : (k : ℕ) (ps : List Process) (parts : List Part) (p : Process) → parts ≡ map part_of ps → slice_get ps k ≡ Some p
    → slice_get parts k ≡ Some (part_of p)
part_at-process k ps parts p follows found =
    ap (λ (qs : List Part). slice_get qs k) follows ∙ slice_get-map part_of ps k ∙ ap (option_map part_of) found

-- the parts where one process is put
pub put_part-process : (k : ℕ) (ps : List Process) (parts : List Part) (part : Part) (q : Process) → parts ≡ map part_of ps → part ≡ part_of q
    → slice_set parts k part ≡ map part_of (slice_set ps k q)
put_part-process k ps parts part q follows same =
    ap (λ (qs : List Part). slice_set qs k part) follows ∙ ap (λ (x : Part). slice_set (map part_of ps) k x) same ∙ sym (map-set part_of ps k q)

-- a process becomes another
pub with_part-process : (pid : ℕ) (ps : List Process) (parts : List Part) (p q : Process) (f : Part → Part) → parts ≡ map part_of ps
    → process_at ps pid ≡ Some p → f (part_of p) ≡ part_of q → with_part parts pid (part_at parts pid) f ≡ map part_of (put_process ps pid q)
with_part-process zero ps parts p q f follows found same = cc
with_part-process (suc k) ps parts p q f follows found same =
    rw (part_at-process k ps parts p follows found) (put_part-process k ps parts (f (part_of p)) q follows same)

-- a process forks
pub after_fork-process : (pid n : ℕ) (ps : List Process) (parts : List Part) (p q : Process) → parts ≡ map part_of ps
    → process_at ps pid ≡ Some p → n ≡ length parts + 1 → with_child n (part_of p) ≡ part_of q
    → after_fork parts pid (part_at parts pid) ≡ map part_of (put_process ps pid q ++ forked p (Some n))
after_fork-process zero n ps parts p q follows found number same = cc
after_fork-process (suc k) n ps parts p q follows found number same =
    rw (part_at-process k ps parts p follows found, ← number)
    (ap (λ (qs : List Part). qs ++ part_of (record { state = p.state; descriptors = p.descriptors; children = []; status = None }) ∷ [])
    (put_part-process k ps parts (with_child n (part_of p)) q follows same)
    ∙ sym (map-append part_of (slice_set ps k q) (forked p (Some n))))
