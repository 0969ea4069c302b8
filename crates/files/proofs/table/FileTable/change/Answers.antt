-- A change whose file is not there, and a write inside one.
use Rattle.std.proofs.Common.{rules, ◌≡◌, ℕ, ◌+◌, ◌<◌, ◌≤◌, true, false, nat_lt, ltb-true, length, sym, subst, ◌∙◌}
use Rattle.std.specs.Prelude.{IsOk, OnOk, slice_index_or}
use Rattle.disk_model.specs.Numbers.{changed_numbered}
use Rattle.disk_model.specs.declared.change.Change.{Change}
use Rattle.disk_model.specs.declared.change.Change.TheVariants.{Write}
use Rattle.disk_model.specs.declared.change.NamedFile.{NamedFile}
use Rattle.files.specs.There.{has_its_file}
use Rattle.files.proofs.Absent.{absent_numbered, inside_of}
use Rattle.files.proofs.table.FileTable.change.Goals as goal

pub returns-then-not-has_its_file-clause-ok : goal.returns-then-not-has_its_file-clause-ok
returns-then-not-has_its_file-clause-ok c =
    let none : has_its_file c.args.change.now (length c.args.self.now.living) ≡ false = search rules in
    let same : length c.args.self.now.numbers ≡ length c.args.self.now.living = search rules in
    sym (absent_numbered c.args.change.now c.args.self.now same none)

pub returns-in-Write-clause-inside : goal.returns-in-Write-clause-inside
returns-in-Write-clause-inside c =
    let there : has_its_file c.args.change.now (length c.args.self.now.living) ≡ true = search rules in
    let is : c.args.change.now ≡ Write c.in-Write.file c.in-Write.offset c.in-Write.bytes = search rules in
    let gives : (d : NamedFile) → c.in-Write.offset + length c.in-Write.bytes ≤ length (slice_index_or c.args.self.now.living c.in-Write.file d).bytes → IsOk c.write.result = search rules in
    inside_of c.args.self.now.living c.args.change.now c.in-Write.file c.in-Write.offset c.in-Write.bytes (IsOk c.write.result) there is gives

pub returns-in-Write-clause-ok : goal.returns-in-Write-clause-ok
returns-in-Write-clause-ok c =
    let same : Write c.from.result c.in-Write.offset c.as_slice.result.now ≡ c.args.change.now = (λ t. Write (c.from.ensures t) c.in-Write.offset (c.as_slice.ensures t)) ∙ sym c.in-Write.is in
    subst (λ (change : Change). OnOk c.write.result (c.write.new.self ≡ changed_numbered c.args.self.now change)) same c.write.ensures.ok

pub write-requires : goal.write-requires
write-requires c =
    let count : length c.args.self.now.living ≡ c.count.result = (λ t. length (sym c.self.view_is t).living) ∙ sym c.count.ensures in
    let there : nat_lt c.in-Write.file (length c.args.self.now.living) ≡ true = (λ t. has_its_file (sym c.in-Write.is t) (count t)) ∙ sym c.has_its_file.ensures ∙ c.if-not-has_its_file.false in
    subst (λ (place : ℕ). place < length c.args.self.now.living) (sym c.from.ensures) (ltb-true _ _ there)
