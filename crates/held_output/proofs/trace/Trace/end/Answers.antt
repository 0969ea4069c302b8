-- The end comes after all replies.
use Rattle.std.proofs.Common.{◌++◌, ◌∷◌, [], List, ap}
use Rattle.kernel_model.specs.Entries.{Item, End}
use Rattle.held_output.specs.Withheld.{Withheld, Held, all_held}
use Rattle.held_output.proofs.Traces.{are-all}
use Rattle.held_output.proofs.trace.Trace.end.Goals as goal

pub returns-clause-items : goal.returns-clause-items
returns-clause-items c =
    let all = are-all c.self.inside.replies.items c.self.inside.ending c.args.self.now.items (ap (λ (w : Withheld Item). w.items) c.self.view_is) c.requires.running in
    ap (λ (hs : List (Held Item)). hs ++ all_held c.args.mark (End c.args.status ∷ [])) all.same
