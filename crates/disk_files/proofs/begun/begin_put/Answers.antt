-- The table is of the files that the changes made.
use Rattle.std.proofs.Common.{◌≡◌, sym, ap, subst, ◌∙◌, List}
use Rattle.std.specs.List.{AllByRecursion}
use Rattle.disk_model.specs.declared.change.Change.{Change}
use Rattle.disk_model.specs.declared.change.NamedFile.{NamedFile}
use Rattle.disk_model.specs.Files.{IsFormed, IsMade}
use Rattle.disk_model.specs.Numbers.{Numbered}
use Rattle.disk_model.specs.Runs.{first_storage}
use Rattle.disk_model.specs.Storage.{Storage, cut}
use Rattle.disk_files.specs.Putting.{Makes, with_file}
use Rattle.disk_files.proofs.Changes.{formed, is_put, still_made}
use Rattle.disk_files.proofs.begun.begin_put.Goals as goal

pub cut-requires-clause-possible : goal.cut-requires-clause-possible
cut-requires-clause-possible c =
    let made = c.held_files_are_made.ensures c.args.device.disk c.in_ok-table.gate c.in_ok-table.table.living c.in_ok-table.ensures.found in
    let same = c.in_ok-files.ensures ∙ c.list.ensures in
    subst IsMade (sym (ap (λ (t : Numbered). t.living) c.in_ok-files-2.ensures.ok))
    (still_made c.in_ok-files.files c.changes_putting.new.files c.in_ok-changes.changes.items (subst IsMade (sym same) made) c.in_ok-changes.ensures.makes)

pub cut-requires-clause-formed : goal.cut-requires-clause-formed
cut-requires-clause-formed c =
    subst (λ (cs : List Change). AllByRecursion IsFormed cs) (sym c.as_slice.ensures.value)
    (formed c.in_ok-files.files c.changes_putting.new.files c.in_ok-changes.changes.items c.in_ok-changes.ensures.makes)

pub returns-in-Ok-clause-put : goal.returns-in-Ok-clause-put
returns-in-Ok-clause-put c =
    let new = c.changes_putting.new.files in
    let changes = c.in_ok-changes.changes.items in
    let name = c.args.name.now in
    let bytes = c.args.bytes.now in
    let same = c.in_ok-files.ensures ∙ c.list.ensures in
    let begun =
    c.in-Ok.ensures.ok
    ∙ ap (λ (st : Storage). cut st c.as_slice.result.now c.in_ok-files-2.files.living) c.new-committer.ensures
    ∙ ap (λ (cs : List Change). cut (first_storage c.args.device.disk c.in_ok-table.gate) cs c.in_ok-files-2.files.living) c.as_slice.ensures.value
    ∙ ap (λ (t : Numbered). cut (first_storage c.args.device.disk c.in_ok-table.gate) changes t.living) c.in_ok-files-2.ensures.ok in
    is_put c.args.device.disk name bytes c.in_ok-table.gate c.in_ok-table.table.living new changes c.cut.new.self
    c.in_ok-table.ensures.found
    (subst (λ (files : List NamedFile). Makes files new changes) same c.in_ok-changes.ensures.makes)
    (subst (λ (files : List NamedFile). new ≡ with_file files name bytes) same c.in_ok-changes.ensures.file)
    begun c.in_ok-changes.ensures.few

pub returns-in-Ok-clause-writes : goal.returns-in-Ok-clause-writes
returns-in-Ok-clause-writes c = c.in-Ok.ensures.writes
