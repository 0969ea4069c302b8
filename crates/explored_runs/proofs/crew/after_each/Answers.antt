-- What the shares found is what comes after each state.
use Rattle.std.proofs.Common.{rules, ◌≡◌, ◌∙◌, ℕ, ◌*◌, ◌/◌, ◌%◌, ◌≤◌, List, length, sym, subst}
use Rattle.std.specs.Prelude.{slice_index_or}
use Rattle.std.specs.Global.{Vec}
use Rattle.std.specs.Vec.{vec_len}
use Rattle.std.proofs.Math.Nat.{mod-lt}
use Rattle.std.proofs.lemmas.Nat.{div-add-mod'}
use Rattle.state_search.specs.declared.moves.Found.{Found}
use Rattle.explored_runs.proofs.Shares.{Finds, all_shares, enough, found_of}
use Rattle.explored_runs.proofs.crew.after_each.Goals as goal

pub returns : goal.returns
returns g c =
    let r = c.args.runs.now in
    let level = c.args.level.now in
    let size = c.share_size-size.result in
    let shares = c.in_ok-shares.shares.items in
    let sized : vec_len c.in_ok-shares.shares ≡ length shares = search rules in
    let many = enough (length level) size (length level / size) (length level % size) (div-add-mod' (length level) size) (mod-lt (length level) c.share_size-size.ensures) in
    all_shares r level size shares c.in_ok-all.all.items c.in_ok-all.ensures
    (λ n d below. let it = (c.in_ok-shares.ensures.each n d below).1 in
    subst (λ (fs : List (Found (Vec ℕ))). Finds r fs (slice_index_or shares n d)) it.argument_is.value (found_of r it.argument.now (slice_index_or shares n d) it.call))
    (subst (λ k. length level ≤ k * size) (sym c.in_ok-shares.ensures.len ∙ sized) many)
