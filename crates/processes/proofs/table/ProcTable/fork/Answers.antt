-- There is room for the child, and it comes last.
use Rattle.std.proofs.Common.{rules, ◌≡◌, ◌+◌, ◌-◌, ◌<◌, ◌++◌, ◌∷◌, [], ℕ, List, length, slice_set, refl, ap, sym, ◌∙◌, arith}
use Rattle.std.proofs.lemmas.List.{length-map}
use Rattle.processes.specs.Parts.{part_of, with_child}
use Rattle.processes.specs.Entries.{Entry}
use Rattle.processes.specs.Table.{Table, child_room}
use Rattle.processes.proofs.Placing.{parts_of}
use Rattle.processes.proofs.Forking.{rooms_of, child_room-place, parts_of-fork}
use Rattle.kernel_model.specs.Rows.{row_fork, most_processes}
use Rattle.kernel_model.specs.Steps.{after_reply}
use Rattle.processes.proofs.Following.{after_fork-process, part_of-forks}
use Rattle.processes.proofs.table.ProcTable.fork.Goals as goal

pub add-requires : goal.add-requires
add-requires c =
    let kept : parts_of c.self.inside.entries.items ≡ c.args.self.now.parts = ap (λ (t : Table). t.parts) c.self.view_is in
    let rooms : rooms_of c.self.inside.entries.items ≡ c.args.self.now.child_rooms = ap (λ (t : Table). t.child_rooms) c.self.view_is in
    let size : length c.self.inside.entries.items ≡ length c.args.self.now.parts =
    sym (length-map c.self.inside.entries.items (λ (e : Entry). e.part)) ∙ ap length kept in
    let there : c.args.pid - 1 < length c.self.inside.entries.items = omega arith in
    let room : child_room (rooms_of c.self.inside.entries.items) c.args.pid ≡ c.index_mut-parent.result.now.room =
    child_room-place c.args.pid (c.args.pid - 1) c.self.inside.entries.items c.index_mut-parent.result.now c.requires.from_1 refl there
    c.index_mut-parent.ensures.value in
    let old : child_room (rooms_of c.self.inside.entries.items) c.args.pid ≡ child_room c.args.self.now.child_rooms c.args.pid =
    ap (λ (rs : List ℕ). child_room rs c.args.pid) rooms in
    omega (arith, room, old, c.requires.room.child)

-- how many processes there are before the fork
number : (c : goal.After-unwrap) → c.len.result ≡ length c.args.self.now.parts
number c =
    let size : length c.self.inside.entries.items ≡ length c.args.self.now.parts =
    sym (length-map c.self.inside.entries.items (λ (e : Entry). e.part)) ∙ ap (λ (t : Table). length t.parts) c.self.view_is in
    search (rules, size)

pub returns-clause-exact : goal.returns-clause-exact
returns-clause-exact c =
    let kept : parts_of c.self.inside.entries.items ≡ c.args.self.now.parts = ap (λ (t : Table). t.parts) c.self.view_is in
    let size : length c.self.inside.entries.items ≡ length c.args.self.now.parts =
    sym (length-map c.self.inside.entries.items (λ (e : Entry). e.part)) ∙ ap length kept in
    let there : c.args.pid - 1 < length c.self.inside.entries.items = omega arith in
    let made : c.add.new.self.part ≡ with_child (length c.args.self.now.parts + 1) c.index_mut-parent.result.now.part =
    c.add.ensures ∙ ap (λ (n : ℕ). with_child (n + 1) c.index_mut-parent.result.now.part) (number c) in
    let pushed : c.push.new.self.items ≡ slice_set c.self.inside.entries.items (c.args.pid - 1) c.add.new.self ++ c.child-child.result ∷ [] = search rules in
    ap parts_of pushed ∙ parts_of-fork c.args.pid (c.args.pid - 1) c.self.inside.entries.items c.args.self.now.parts c.index_mut-parent.result.now
    c.add.new.self c.child-child.result kept c.requires.from_1 refl there c.index_mut-parent.ensures.value made c.child-child.ensures

pub returns-clause-forks : goal.returns-clause-forks
returns-clause-forks c =
    λ ps p r follows found lives.
    let size : length c.args.self.now.parts ≡ length ps = ap length follows ∙ length-map ps part_of in
    let few : length ps < most_processes = rw (← size) c.requires.few in
    returns-clause-exact c
    ∙ after_fork-process c.args.pid (c.len.result + 1) ps c.args.self.now.parts p (after_reply p (row_fork (length ps) p.descriptors) r) follows found
    (ap (λ (n : ℕ). n + 1) (number c))
    (part_of-forks p (c.len.result + 1) (length ps) r lives (ap (λ (n : ℕ). n + 1) (number c ∙ size)) few)
