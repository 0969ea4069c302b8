-- One run more.
use Rattle.std.proofs.Common.{ℕ, ◌<◌, sym, ap, ◌∙◌, map, length, slice_index_or, arith}
use Rattle.std.proofs.lemmas.List.{length-map}
use Rattle.std.proofs.Math.ListN.{get_or-map}
use Rattle.memory.specs.Pages.{Pages}
use Rattle.memory.proofs.Putting.{next-run}
use Rattle.memory.proofs.place.next_start_shared.Goals as goal

pub loop-part-preserved : goal.loop-part-preserved
loop-part-preserved c =
    let i : ℕ = c.loop-part.part-index in
    let below : i < length (map (λ a. a.value) c.args.parts.now) = omega (arith, c.loop-part-test.true, length-map c.args.parts.now (λ a. a.value)) in
    record {
      past = c.next_start-next.ensures.past;
      within = omega (arith, c.next_start-next.ensures.within, c.loop-part.invariant.within);
      none = next-run (map (λ a. a.value) c.args.parts.now) c.args.n c.loop-part.next c.next_start-next.result i c.deref.result.now
          (c.deref.ensures ∙ ap (λ a. a.value) c.part-item.is ∙ sym (get_or-map (λ a. a.value) c.args.parts.now i c.part-item.result) ∙ ap (λ (p : Pages). slice_index_or (map (λ a. a.value) c.args.parts.now) i p) (sym c.deref.ensures))
          below c.next_start-next.ensures.within c.next_start-next.ensures.none c.loop-part.invariant.none;
    }
