-- A change whose file is not there, and a write inside one.
use Rattle.std.proofs.Common.{rules, ◌≡◌, ◌+◌, ◌≤◌, true, false, length, sym}
use Rattle.std.specs.Prelude.{IsOk, slice_index_or}
use Rattle.disk_model.specs.declared.change.Change.TheVariants.{Write}
use Rattle.disk_model.specs.declared.change.NamedFile.{NamedFile}
use Rattle.files.specs.There.{has_its_file}
use Rattle.files.proofs.Absent.{absent, inside_of}
use Rattle.files.proofs.list.FileList.change.Goals as goal

pub returns-then-not-has_its_file-clause-ok : goal.returns-then-not-has_its_file-clause-ok
returns-then-not-has_its_file-clause-ok c =
    let none : has_its_file c.args.change.now (length c.args.self.now) ≡ false = search rules in
    sym (absent c.args.change.now c.args.self.now none)

pub returns-in-Write-clause-inside : goal.returns-in-Write-clause-inside
returns-in-Write-clause-inside c =
    let there : has_its_file c.args.change.now (length c.args.self.now) ≡ true = search rules in
    let is : c.args.change.now ≡ Write c.in-Write.file c.in-Write.offset c.in-Write.bytes = search rules in
    let gives : (d : NamedFile) → c.in-Write.offset + length c.in-Write.bytes ≤ length (slice_index_or c.args.self.now c.in-Write.file d).bytes → IsOk c.write.result = search rules in
    inside_of c.args.self.now c.args.change.now c.in-Write.file c.in-Write.offset c.in-Write.bytes (IsOk c.write.result) there is gives

-- Without an answer this would be proved too; with one, an edit that breaks it is refused sooner.
pub returns-in-Write-clause-ok : goal.returns-in-Write-clause-ok
returns-in-Write-clause-ok c = search rules
