-- One process more was asked.
use Rattle.std.proofs.Common.{arith, ◌≡◌, ◌∙◌, ◌+◌, suc, ap, subst, sym}
use Rattle.std.proofs.lemmas.Bool.{false≢true}
use Rattle.explored_runs.specs.Answering.{HasTriedKey, IsTried, is_idle, ways, with_each, working}
use Rattle.replayed_runs.specs.Replays.{seen_of}
use Rattle.explored_runs.specs.declared.runs.Tried.{Tried}
use Rattle.explored_runs.proofs.Keying.{copy_is, keys_more}
use Rattle.explored_runs.proofs.Nexts.{asked_idle, asked_made, tried_in}
use Rattle.explored_runs.proofs.runs.Runs.try_each.Goals as goal
use Rattle.explored_runs.proofs.runs.Runs.try_each.Goals.{in-Idle, in-Made+in_ok-push-in-Made}

pub loop-place-preserved : goal.loop-place-preserved
loop-place-preserved c =
    let n = c.args.self.now.instructions in
    let run = c.args.replay.now in
    let s = seen_of run.core in
    let ps = c.args.calls.now in
    let rs = c.loop-place.reached.items in
    let k = c.loop-place.place in
    let asked = c.loop-place.invariant.asked in
    let stands = c.in_ok-copy-2.ensures in
    let next : k + 1 ≡ suc k = omega arith in
    let tried = tried_in n run c.in_ok-copy-2.copy ps (k + 1) c.in_ok-try_call.field-0 c.requires stands c.in_ok-try_call.ensures.tried in
    record {
      asked = elim c.match-branch-4.branch [
        | in-Idle w ↦
            let idle = subst (λ (t : Tried). IsTried n s ps (k + 1) t) w.in-Idle.is tried in
            rw w.reached-is (asked_idle n s ps rs k asked (k + 1) next idle)
        | in-Made+in_ok-push-in-Made w ↦
            let made = subst (λ (t : Tried). IsTried n s ps (k + 1) t) w.in-Made.is tried in
            rw (w.reached-is, w.in_ok-push-in-Made.ensures.items) (asked_made n s ps rs k asked (k + 1) next w.in-Made.run' made.0 made.1)
      ];
      keys = elim c.match-branch-4.branch [
        | in-Idle w ↦ λ run. rw w.reached-is (c.loop-place.invariant.keys run)
        | in-Made+in_ok-push-in-Made w ↦ λ run.
            let copied = copy_is c.args.self.now ps c.args.replay.now c.in_ok-copy-2.copy run stands in
            let key = subst (λ (t : Tried). HasTriedKey c.args.self.now t) w.in-Made.is (c.in_ok-try_call.ensures.key copied) in
            rw (w.reached-is, w.in_ok-push-in-Made.ensures.items) (keys_more c.args.self.now rs w.in-Made.run' (c.loop-place.invariant.keys run) key)
      ];
      copy = elim c.match-branch-4.branch [
        | in-Idle w ↦ λ _.
            let idle = ap is_idle w.in-Idle.is in
            record { seen = c.in_ok-try_call.ensures.idle idle ∙ stands.seen; limit = c.in_ok-try_call.ensures.limit idle ∙ stands.limit }
        | in-Made+in_ok-push-in-Made w ↦ λ unused. absurd (false≢true (sym unused ∙ w.is_used-is))
      ];
    }

pub returns-in-Private-clause-keys : goal.returns-in-Private-clause-keys
returns-in-Private-clause-keys c = λ run.
    let copied = copy_is c.args.self.now c.args.calls.now c.args.replay.now c.in_ok-copy-2.copy run c.in_ok-copy-2.ensures in
    subst (λ (t : Tried). HasTriedKey c.args.self.now t) c.in-Private.is (c.in_ok-try_call.ensures.key copied)

pub returns-clause-tried : goal.returns-clause-tried
returns-clause-tried c =
    let last : c.loop-place.place ≡ c.args.most = omega (arith, c.loop-place-test.false, c.loop-place.auto.place-end) in
    subst (λ k. ways c.loop-place.reached.items ≡ with_each c.args.calls.now (working c.args.self.now.instructions (seen_of c.args.replay.now.core) k)) last c.loop-place.invariant.asked
