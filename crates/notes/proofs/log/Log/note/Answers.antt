-- The exchange adds the entry where nothing else was added.
use Rattle.std.proofs.Common.{sym, ◌∙◌, ap, length}
use Rattle.notes.proofs.Adding.{adds_moves}
use Rattle.notes.proofs.log.Log.note.Goals as goal

pub compare_exchange-found-requires : goal.compare_exchange-found-requires
compare_exchange-found-requires g c =
    let h = c.self.invariant.2 in
    let seen = c.again-seen.ensures in
    let offer = c.plain-offer.ensures in
    let pen = c.no_pen-pen.ensures in (
      ap (λ w. w.tracked) h,
      ap (λ s. s.book) seen ∙ (c.self.invariant.1 ∙ sym (ap (λ w. w.book) h)),
      pen.0 ∙ (ap (λ s. s.book) seen ∙ (c.self.invariant.1 ∙ sym (ap (λ w. w.book) h))),
      offer.0,
      rw (ap (λ w. w.key) h, pen.1, offer.3) (adds_moves c.again-seen.result.log c.plain-offer.result.ask c.self.inside.len (ap (λ s. length s.log) seen ∙ sym c.self.invariant.0)),
    )
