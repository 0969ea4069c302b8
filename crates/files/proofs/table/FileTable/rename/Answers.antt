-- One number fewer, for one file fewer.
use Rattle.std.proofs.Common.{rules, ◌≡◌, ◌<◌, Some, length, sym, ap, ◌∙◌}
use Rattle.std.specs.Prelude.{slice_get}
use Rattle.disk_model.specs.Files.{loser, with_name, without}
use Rattle.files.proofs.Numbering.{moved_length}
use Rattle.files.proofs.table.FileTable.rename.Goals as goal

pub invariant_of-self : goal.invariant_of-self
invariant_of-self c =
    let files = c.self.inside.list in
    let file = slice_get files c.args.place in
    let lost : loser files file c.args.name ≡ Some c.in-Some.loser = search rules in
    let there : c.in-Some.loser < length files = search rules in
    ap length c.remove.ensures.items
    ∙ moved_length files c.self.inside.numbers.items c.args.place file c.args.name c.in-Some.loser c.self.invariant there
    ∙ sym (ap length c.rename.ensures ∙ ap (λ o. length (without (with_name files c.args.place file c.args.name) o)) lost)
