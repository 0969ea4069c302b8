-- The number at the place found is the number of the name.
use Rattle.std.proofs.Common.{Some, sym, ap, ◌∙◌, ℕ}
use Rattle.calls.proofs.Naming.{none-named, number-named}
use Rattle.calls.proofs.names.number_named.Goals as goal

pub returns-in_err-place : goal.returns-in_err-place
returns-in_err-place c =
    c.from_residual.ensures ∙ none-named c.args.files.now c.args.name.now (sym c.find.ensures.place ∙ c.in_err-place.was)

pub returns : goal.returns
returns c =
    ap (λ (n : ℕ). Some n) c.number.ensures
    ∙ number-named c.args.files.now c.args.name.now c.in_ok-place.place c.requires c.in_ok-place.ensures.there
    (sym c.find.ensures.place ∙ c.in_ok-place.was)
