-- One more state is the part's own, or another's.
use Rattle.std.proofs.Common.{◌∙◌, ◌++◌, ◌∷◌, [], List, ap, sym}
use Rattle.std.proofs.lemmas.Bool.{eq-eqb, ne_eqb}
use Rattle.state_search.specs.Sharing.{next_turn}
use Rattle.state_search.specs.declared.moves.Found.{Found}
use Rattle.state_search.proofs.Parting.{one-other, one-own, others_more, others_still, own_more, own_still, turn_next}
use Rattle.state_search.proofs.parts.Part.share_out.Goals as goal
use Rattle.state_search.proofs.parts.Part.share_out.Goals.{then-turn-self+in_ok-push, else-turn-self+in_ok-push-2}

pub loop-found-preserved : goal.loop-found-preserved
loop-found-preserved g c =
    let f = c.in-Some.found in
    let number = c.args.self.number in
    let of = c.args.self.of in
    let before = c.loop-found in
    let was = before.invariant in
    record {
      parted = elim c.if-turn-self.branch [
        | then-turn-self+in_ok-push w ↦
            let all = one-own before.yielded before.own.items before.others.items f was.parted in
            rw (w.own-is, w.others-is, w.in_ok-push.ensures.items) all
        | else-turn-self+in_ok-push-2 w ↦
            let all = one-other before.yielded before.own.items before.others.items f was.parted in
            rw (w.own-is, w.others-is, w.in_ok-push-2.ensures.items) all
      ];
      own = elim c.if-turn-self.branch [
        | then-turn-self+in_ok-push w ↦
            let all = ap (λ (fs : List (Found g.row.S.Denot)). fs ++ f ∷ []) was.own ∙ sym (own_more number of 1 before.yielded f (eq-eqb _ number (sym was.turn ∙ w.if-turn-self.true))) in
            rw (w.own-is, w.in_ok-push.ensures.items) all
        | else-turn-self+in_ok-push-2 w ↦
            let all = was.own ∙ sym (own_still number of 1 before.yielded f (ne_eqb _ number (λ is. w.if-turn-self.false (was.turn ∙ is)))) in
            rw w.own-is all
      ];
      others = elim c.if-turn-self.branch [
        | then-turn-self+in_ok-push w ↦
            let all = was.others ∙ sym (others_still number of 1 before.yielded f (eq-eqb _ number (sym was.turn ∙ w.if-turn-self.true))) in
            rw w.others-is all
        | else-turn-self+in_ok-push-2 w ↦
            let all = ap (λ (fs : List (Found g.row.S.Denot)). fs ++ f ∷ []) was.others ∙ sym (others_more number of 1 before.yielded f (ne_eqb _ number (λ is. w.if-turn-self.false (was.turn ∙ is)))) in
            rw (w.others-is, w.in_ok-push-2.ensures.items) all
      ];
      turn = c.next_turn-turn.ensures ∙ ap (λ n. next_turn of n) was.turn ∙ sym (turn_next of 1 before.yielded f);
    }
