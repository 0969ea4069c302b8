-- The first fault, want of memory, or the program.
use Rattle.std.proofs.Common.{refl}
use Rattle.std.proofs.lemmas.Result.{err_from_is_err_and}
use Rattle.image_model.specs.declared.fault.ElfFault.TheVariants.{OutOfMemory}
use Rattle.elf32.proofs.FirstFaults.{header_refused, segments_refused, memory_refused, without_fault, same_checks, is_profile, is_named}
use Rattle.elf32.proofs.parsing.parse.Goals as goal

pub returns-in-Some-clause-refused : goal.returns-in-Some-clause-refused
returns-in-Some-clause-refused c = header_refused c.args.file.now c.in-Some.fault c.in-Some.ensures.value

pub returns-in-Some-segments_fault-clause-refused : goal.returns-in-Some-segments_fault-clause-refused
returns-in-Some-segments_fault-clause-refused c =
    segments_refused c.args.file.now c.in-Some-segments_fault.fault c.in_default.ensures.value
    (same_checks c.args.file.now c.read_file_header-header.result c.from-count.result c.read_table-table.result _ (record { header = c.read_file_header-header.ensures; counted = c.from-count.ensures; headers = c.read_table-table.ensures.headers }) c.in-Some-segments_fault.ensures)

pub returns-in_err-segments-clause-refused : goal.returns-in_err-segments-clause-refused
returns-in_err-segments-clause-refused c =
    let p = err_from_is_err_and c.from_residual.result c.from_residual.ensures.1 in
    rw (p.1, p.2) (memory_refused c.args.file.now OutOfMemory (without_fault c.args.file.now c.in_default.ensures.value
    (same_checks c.args.file.now c.read_file_header-header.result c.from-count.result c.read_table-table.result _ (record { header = c.read_file_header-header.ensures; counted = c.from-count.ensures; headers = c.read_table-table.ensures.headers }) c.in_default-segments_fault.ensures)) refl)

pub new-requires : goal.new-requires
new-requires c =
    is_profile c.args.file.now c.read_file_header-header.result c.from-count.result c.read_table-table.result c.in_ok-segments.segments.items (record { header = c.read_file_header-header.ensures; counted = c.from-count.ensures; headers = c.read_table-table.ensures.headers })
    c.in_default.ensures.some c.in_default.ensures.few c.in_default-segments_fault.ensures c.in_ok-segments.ensures

pub returns-clause-ok : goal.returns-clause-ok
returns-clause-ok c =
    is_named c.args.file.now c.read_file_header-header.result c.from-count.result c.read_table-table.result c.in_ok-segments.segments.items c.new.result (record { header = c.read_file_header-header.ensures; counted = c.from-count.ensures; headers = c.read_table-table.ensures.headers })
    c.in_default.ensures.value c.in_default-segments_fault.ensures c.in_ok-segments.ensures c.new.ensures
