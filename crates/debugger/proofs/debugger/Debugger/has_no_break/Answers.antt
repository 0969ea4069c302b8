-- No breakpoint is set.
use Rattle.std.proofs.Common.{sym, ap, ◌∙◌}
use Rattle.std.proofs.lemmas.Bool.{eqb-true}
use Rattle.slab.specs.Slab.{slab_len}
use Rattle.debugger.specs.Sessions.{Session}
use Rattle.debugger.specs.Stops.{least_from}
use Rattle.debugger.proofs.Least.{least-none}
use Rattle.debugger.proofs.debugger.Debugger.has_no_break.Goals as goal

pub returns-clause-none : goal.returns-clause-none
returns-clause-none c = λ none address.
    sym (ap (λ (s : Session). least_from 0 s.breaks address) c.self.view_is)
    ∙ least-none address c.self.inside.breaks.slots (eqb-true (slab_len c.self.inside.breaks) 0 (sym c.is_empty.ensures ∙ none))
