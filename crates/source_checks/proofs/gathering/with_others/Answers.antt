-- The first fault was pushed last.
use Rattle.std.proofs.Common.{rules}
use Rattle.std.proofs.lemmas.List.Elements.{Contains-push}
use Rattle.source_checks.proofs.gathering.with_others.Goals as goal

pub returns : goal.returns
returns c = search (rules, Contains-push)
