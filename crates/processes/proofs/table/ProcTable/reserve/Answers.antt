-- There is room in the table and with the parent.
use Rattle.std.proofs.Common.{◌≡◌, ◌-◌, ◌<◌, List, length, slice_set, refl, ap, sym, ◌∙◌, arith}
use Rattle.std.proofs.lemmas.List.{length-map}
use Rattle.std.proofs.lemmas.Result.{on_ok_weaker, on_err_weaker}
use Rattle.processes.specs.Entries.{Entry}
use Rattle.processes.specs.Table.{Table, child_room}
use Rattle.processes.proofs.Placing.{parts_of}
use Rattle.processes.proofs.Forking.{rooms_of, child_room-place, child_room-set, parts_of-set_same}
use Rattle.processes.proofs.table.ProcTable.reserve.Goals as goal

-- the parent's place is in the table
there : (c : goal.After-self-1) → c.args.pid - 1 < length c.reserve.new.self.items
there c =
    let same : c.reserve.new.self.items ≡ c.self.inside.entries.items = c.in_ok-reserve.ensures.items in
    let size : length c.self.inside.entries.items ≡ length c.args.self.now.parts =
    sym (length-map c.self.inside.entries.items (λ (e : Entry). e.part)) ∙ ap (λ (t : Table). length t.parts) c.self.view_is in
    omega (arith, ap length same, size)

pub returns-clause-ok : goal.returns-clause-ok
returns-clause-ok c =
    let room : child_room (rooms_of (slice_set c.reserve.new.self.items (c.args.pid - 1) c.reserve-2.new.self)) c.args.pid ≡ c.reserve-2.new.self.room =
    child_room-set c.args.pid (c.args.pid - 1) c.reserve.new.self.items c.reserve-2.new.self c.requires.from_1 refl (there c) in
    on_ok_weaker c.reserve-2.result
    (λ has. record { process = omega (arith, c.in_ok-reserve.ensures.ok); child = omega (arith, room, has) }) c.reserve-2.ensures.ok

pub returns-clause-err : goal.returns-clause-err
returns-clause-err c =
    let same : c.reserve.new.self.items ≡ c.self.inside.entries.items = c.in_ok-reserve.ensures.items in
    let old : child_room (rooms_of c.reserve.new.self.items) c.args.pid ≡ child_room c.args.self.now.child_rooms c.args.pid =
    ap (λ (es : List Entry). child_room (rooms_of es) c.args.pid) same ∙ ap (λ (t : Table). child_room t.child_rooms c.args.pid) c.self.view_is in
    let room : child_room (rooms_of c.reserve.new.self.items) c.args.pid ≡ c.index_mut-parent.result.now.room =
    child_room-place c.args.pid (c.args.pid - 1) c.reserve.new.self.items c.index_mut-parent.result.now c.requires.from_1 refl (there c)
    c.index_mut-parent.ensures.value in
    on_err_weaker c.reserve-2.result (λ lacks has. omega (arith, room, old, lacks, has.child)) c.reserve-2.ensures.err

pub returns-clause-parts : goal.returns-clause-parts
returns-clause-parts c =
    let same : c.reserve.new.self.items ≡ c.self.inside.entries.items = c.in_ok-reserve.ensures.items in
    parts_of-set_same (c.args.pid - 1) c.reserve.new.self.items c.args.self.now.parts c.index_mut-parent.result.now c.reserve-2.new.self
    (ap parts_of same ∙ ap (λ (t : Table). t.parts) c.self.view_is) (there c) c.index_mut-parent.ensures.value c.reserve-2.ensures.part
