-- The first fault, want of memory, or the program.
use Rattle.std.proofs.Common.{◌≡◌, false, List, length, map, refl, sym, ap, subst, ◌∙◌}
use Rattle.std.specs.List.{list_any, filter}
use Rattle.std.proofs.lemmas.Result.{err_from_is_err_and}
use Rattle.image_model.specs.declared.header.ProgramHeader.{ProgramHeader}
use Rattle.image_model.specs.Checks.{is_past_end}
use Rattle.image_model.specs.Names.{segment_in}
use Rattle.elf32.specs.declared.link_fault.LinkFault.TheVariants.{OutOfMemory}
use Rattle.elf32.specs.LinkChecks.{takes_memory}
use Rattle.elf32.proofs.LinkFaults.{header_refused, kinds_refused, segments_refused, memory_refused, is_table, none_past_end, is_profile, is_linked}
use Rattle.elf32.proofs.linking.image_of.Goals as goal

pub returns-in-Some-clause-refused : goal.returns-in-Some-clause-refused
returns-in-Some-clause-refused c = header_refused c.args.file.now c.in-Some.fault c.in-Some.ensures.value

pub returns-in_err-table-clause-refused : goal.returns-in_err-table-clause-refused
returns-in_err-table-clause-refused c =
    let p = err_from_is_err_and c.from_residual.result c.from_residual.ensures.1 in
    rw (p.1, p.2) (memory_refused c.args.file.now OutOfMemory refl)

pub returns-in-Some-kinds_fault-clause-refused : goal.returns-in-Some-kinds_fault-clause-refused
returns-in-Some-kinds_fault-clause-refused c =
    kinds_refused c.args.file.now c.deref.result.now c.in-Some-kinds_fault.fault c.in_default.ensures.value
    (c.deref.ensures.value ∙ is_table c.args.file.now c.read_file_header-header.result c.in_ok-table.table.items c.read_file_header-header.ensures c.in_ok-table.ensures) c.in-Some-kinds_fault.ensures

pub returns-in_err-headers-clause-refused : goal.returns-in_err-headers-clause-refused
returns-in_err-headers-clause-refused c =
    let p = err_from_is_err_and c.from_residual-in_err-headers.result c.from_residual-in_err-headers.ensures.1 in
    rw (p.1, p.2) (memory_refused c.args.file.now OutOfMemory refl)

pub returns-in-Some-segments_fault-clause-refused : goal.returns-in-Some-segments_fault-clause-refused
returns-in-Some-segments_fault-clause-refused c =
    segments_refused c.args.file.now c.read_file_header-header.result c.deref.result.now c.deref-3.result.now c.in-Some-segments_fault.fault
    (record {
      header = c.read_file_header-header.ensures;
      headers = c.deref.ensures.value ∙ is_table c.args.file.now c.read_file_header-header.result c.in_ok-table.table.items c.read_file_header-header.ensures c.in_ok-table.ensures;
      taken = c.deref-3.ensures.value ∙ c.in_ok-headers.ensures ∙ ap (filter takes_memory) (c.deref-2.ensures.value ∙ sym c.deref.ensures.value);
    })
    c.in_default.ensures.value c.in_default-kinds_fault.ensures c.in-Some-segments_fault.ensures

pub segments_of-requires : goal.segments_of-requires
segments_of-requires c =
    subst (λ (hs : List ProgramHeader). list_any (is_past_end (length c.args.file.now)) hs ≡ false) (c.deref-3.ensures.value ∙ sym c.deref-4.ensures.value)
    (none_past_end (length c.args.file.now) c.read_file_header-header.result.e_entry c.deref-3.result.now c.in_default-segments_fault.ensures)

pub returns-in_err-segments-clause-refused : goal.returns-in_err-segments-clause-refused
returns-in_err-segments-clause-refused c =
    let p = err_from_is_err_and c.from_residual-in_err-segments.result c.from_residual-in_err-segments.ensures.1 in
    rw (p.1, p.2) (memory_refused c.args.file.now OutOfMemory refl)

pub new-requires : goal.new-requires
new-requires c =
    is_profile c.args.file.now c.read_file_header-header.result c.deref.result.now c.deref-3.result.now c.in_ok-segments.segments.items
    (record {
      header = c.read_file_header-header.ensures;
      headers = c.deref.ensures.value ∙ is_table c.args.file.now c.read_file_header-header.result c.in_ok-table.table.items c.read_file_header-header.ensures c.in_ok-table.ensures;
      taken = c.deref-3.ensures.value ∙ c.in_ok-headers.ensures ∙ ap (filter takes_memory) (c.deref-2.ensures.value ∙ sym c.deref.ensures.value);
    })
    c.in_default-segments_fault.ensures
    (c.in_ok-segments.ensures ∙ ap (map (segment_in c.args.file.now)) (c.deref-4.ensures.value ∙ sym c.deref-3.ensures.value))

pub returns-clause-ok : goal.returns-clause-ok
returns-clause-ok c =
    is_linked c.args.file.now c.read_file_header-header.result c.deref.result.now c.deref-3.result.now c.in_ok-segments.segments.items c.new.result
    (record {
      header = c.read_file_header-header.ensures;
      headers = c.deref.ensures.value ∙ is_table c.args.file.now c.read_file_header-header.result c.in_ok-table.table.items c.read_file_header-header.ensures c.in_ok-table.ensures;
      taken = c.deref-3.ensures.value ∙ c.in_ok-headers.ensures ∙ ap (filter takes_memory) (c.deref-2.ensures.value ∙ sym c.deref.ensures.value);
    })
    c.in_default.ensures.value c.in_default-kinds_fault.ensures c.in_default-segments_fault.ensures
    (c.in_ok-segments.ensures ∙ ap (map (segment_in c.args.file.now)) (c.deref-4.ensures.value ∙ sym c.deref-3.ensures.value))
    c.new.ensures
