use Rattle.std.proofs.Common.{rules, string_bytes}
use Rattle.std.proofs.lemmas.Map.Text.{hash_set_updates_text}
use Rattle.crash_outcomes.proofs.outcomes.Outcomes.add.Goals as goal

pub returns-clause-others : goal.returns-clause-others
returns-clause-others c = λ q differs.
    let sets = hash_set_updates_text (string_bytes c.in_ok-from_str.field-0) c.args.self.now.lines c.insert.new.self _ c.in_ok-is_new.ensures.updates q in
    search (rules, sets, differs)
