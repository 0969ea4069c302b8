-- The last process was asked too, and with it all.
use Rattle.std.proofs.Common.{arith, rules, ◌≡◌, ◌∙◌, ◌<◌, ◌-◌, ◌++◌, ◌∷◌, [], ℕ, suc, List, length, ap, inr, subst, sym}
use Rattle.std.specs.Global.{Vec}
use Rattle.std.specs.Vec.{vec_len}
use Rattle.order_laws.specs.Moves.{Seen}
use Rattle.state_search.specs.declared.moves.Reached.{Reached}
use Rattle.explored_runs.specs.Answering.{HasTriedKey, IsTried, ways, with_each, working}
use Rattle.replayed_runs.specs.Replays.{seen_of}
use Rattle.explored_runs.specs.declared.runs.Tried.{Tried}
use Rattle.explored_runs.proofs.Keying.{keys_more}
use Rattle.explored_runs.proofs.Nexts.{asked_idle, asked_made, empty_of, more_not_empty, none_asked, not_empty}
use Rattle.explored_runs.proofs.runs.Runs.with_last.Goals as goal

-- where the calls of all processes up to the last that may work were asked, those of all were
all_asked : (n : ℕ) (s : Seen) (ps : List ℕ) (rs : List (Reached (Vec ℕ))) (last : ℕ) → ways rs ≡ with_each ps (working n s last)
    → working n s (length s.sync.processes) ≡ working n s last → ways rs ≡ with_each ps (working n s (length s.sync.processes))
all_asked n s ps rs last asked after = asked ∙ ap (λ (qs : List ℕ). with_each ps qs) (sym after)

before_last : (last : ℕ) → 0 < last → last ≡ suc (last - 1)
before_last last some = omega arith

pub returns-then-is_empty-clause-next : goal.returns-then-is_empty-clause-next
returns-then-is_empty-clause-next c =
    let n = c.args.self.now.instructions in
    let s = seen_of c.args.replay.core in
    let ps = c.args.calls.now in
    let rs = c.args.reached.items in
    let last = c.args.last in
    let tried = subst (λ m. IsTried m s ps last c.in_ok-try_call.field-0) c.requires.limit c.in_ok-try_call.ensures.tried in
    let idle = subst (λ (t : Tried). IsTried n s ps last t) c.in-Idle.is tried in
    let all = all_asked n s ps rs last (asked_idle n s ps rs (last - 1) c.requires.asked last (before_last last c.requires.some) idle) c.requires.none_after in
    let size : vec_len c.args.reached ≡ length rs = search rules in
    let none = empty_of rs (vec_len c.args.reached) size (sym c.is_empty.ensures ∙ c.if-is_empty.true) in
    (none_asked n s ps rs all none, c.in_ok-outcome_of-in-Idle.ensures)

pub returns-in-Idle-clause-next : goal.returns-in-Idle-clause-next
returns-in-Idle-clause-next c =
    let n = c.args.self.now.instructions in
    let s = seen_of c.args.replay.core in
    let ps = c.args.calls.now in
    let rs = c.args.reached.items in
    let last = c.args.last in
    let tried = subst (λ m. IsTried m s ps last c.in_ok-try_call.field-0) c.requires.limit c.in_ok-try_call.ensures.tried in
    let idle = subst (λ (t : Tried). IsTried n s ps last t) c.in-Idle.is tried in
    let all = all_asked n s ps rs last (asked_idle n s ps rs (last - 1) c.requires.asked last (before_last last c.requires.some) idle) c.requires.none_after in
    let size : vec_len c.args.reached ≡ length rs = search rules in
    (inr all, not_empty rs (vec_len c.args.reached) size (sym c.is_empty.ensures ∙ c.if-is_empty.false))

pub returns-in-Made-clause-next : goal.returns-in-Made-clause-next
returns-in-Made-clause-next c =
    let n = c.args.self.now.instructions in
    let s = seen_of c.args.replay.core in
    let ps = c.args.calls.now in
    let rs = c.args.reached.items in
    let last = c.args.last in
    let own = c.in-Made.own in
    let tried = subst (λ m. IsTried m s ps last c.in_ok-try_call.field-0) c.requires.limit c.in_ok-try_call.ensures.tried in
    let made = subst (λ (t : Tried). IsTried n s ps last t) c.in-Made.is tried in
    let asked = asked_made n s ps rs (last - 1) c.requires.asked last (before_last last c.requires.some) own made.0 made.1 in
    rw c.in_ok-push-in-Made.ensures.items (inr (all_asked n s ps (rs ++ own ∷ []) last asked c.requires.none_after), more_not_empty rs own)

pub returns-in-Made-clause-keys : goal.returns-in-Made-clause-keys
returns-in-Made-clause-keys c = λ run keys.
    let own = c.in-Made.own in
    let key = subst (λ (t : Tried). HasTriedKey c.args.self.now t) c.in-Made.is (c.in_ok-try_call.ensures.key run) in
    rw c.in_ok-push-in-Made.ensures.items (keys_more c.args.self.now c.args.reached.items own keys key)
