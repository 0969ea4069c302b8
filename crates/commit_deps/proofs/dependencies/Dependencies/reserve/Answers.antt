-- The index may be in another order, and says the same.
use Rattle.std.proofs.Common.{rules, ◌≡◌, ◌∙◌, sym, ap, subst}
use Rattle.std.specs.Map.{lookup}
use Rattle.kernel_model.specs.declared.carrier.Carrier.{Carrier}
use Rattle.kernel_model.specs.contracts.carrier.CarrierPartialEq.TheImpl as carrier
use Rattle.commit_deps.specs.Places.{place_at, AreDistinct}
use Rattle.kernel_model.proofs.Meets.{same-eq}
use Rattle.commit_deps.proofs.Placing.{says-same}
use Rattle.commit_deps.proofs.dependencies.Dependencies.reserve.Goals as goal

pub invariant_of-self-2 : goal.invariant_of-self-2
invariant_of-self-2 c =
    let says : (x : Carrier) → lookup (carrier.ghosts.eq x) c.reserve-2.new.self.entries ≡ lookup (carrier.ghosts.eq x) c.self.inside.places.entries = search rules in (
      (λ x. says-same carrier.ghosts.eq c.self.inside.places.entries c.reserve-2.new.self.entries c.self.inside.marks.items same-eq c.self.invariant.0 says x
          ∙ ap (place_at x) (sym c.reserve.ensures.items)),
      subst AreDistinct (sym c.reserve.ensures.items) c.self.invariant.1,
    )

-- Without answers these would be proved too; with them, an edit that breaks one is refused sooner.
pub returns-clause-err : goal.returns-clause-err
returns-clause-err c = search rules

pub returns-clause-ok : goal.returns-clause-ok
returns-clause-ok c = search rules
