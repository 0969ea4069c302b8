-- A core's pair never falls.
use Rattle.std.proofs.Common.{◌≡◌, ℕ, ◌≤◌, List, [], ◌∷◌, Option, Some, None, Result, Ok, Err, sym, ap, subst, ◌∙◌}
use Rattle.kernel_model.specs.Answers.{Kernel, now, committed, changes, with_event, with_events}
use Rattle.kernel_model.specs.Loans.{LoanOut, LoanResult, Lends, returned, events_of, settled}
use Rattle.kernel_model.specs.World.{World}
use Rattle.kernel_step.specs.Loaned.{LendsAgain}
use Rattle.kernel_model.specs.declared.answer.Refused.{Refused}
use Rattle.kernel_model.specs.declared.event.Event.{Event}
use Rattle.board.specs.declared.board.View.{View}
use Rattle.board.specs.Pairs.{pair_of}
use Rattle.bursts.specs.declared.totals.Totals.{Totals}
use Rattle.bursts.specs.Totals.{history_totals}

-- the pair of a later core is no less than the one published
rises : (v : View) (old new : Kernel) → pair_of v ≡ (committed (now old), changes (now old)) → committed (now old) ≤ committed (now new) → changes (now old) ≤ changes (now new)
    → (v.committed ≤ committed (now new)) × (v.changes ≤ changes (now new))
rises v old new shown c n = (
  subst (λ (k : ℕ). k ≤ committed (now new)) (sym (ap (λ (p : ℕ × ℕ). p.0) shown)) c,
  subst (λ (k : ℕ). k ≤ changes (now new)) (sym (ap (λ (p : ℕ × ℕ). p.1) shown)) n,
)

-- no events lower a count of changes
abbrev pub NeverFalls : (World → ℕ) → Type 0
NeverFalls count = (k : Kernel) (es : List Event) → count (now k) ≤ count (now (with_events k es))

-- so it is after an event
pub event_rises : NeverFalls committed → NeverFalls changes → (v : View) (old new : Kernel) (e : Event) → pair_of v ≡ (committed (now old), changes (now old)) → new ≡ with_event old e
    → (v.committed ≤ committed (now new)) × (v.changes ≤ changes (now new))
event_rises c n v old new e shown is =
    subst (λ (k : Kernel). (v.committed ≤ committed (now k)) × (v.changes ≤ changes (now k))) (sym is)
    (rises v old (with_event old e) shown (c old (e ∷ [])) (n old (e ∷ [])))

-- and after a result that is taken back
pub result_rises : NeverFalls committed → NeverFalls changes → (v : View) (old new : Kernel) (r : LoanResult) → pair_of v ≡ (committed (now old), changes (now old)) → new ≡ settled old r
    → (v.committed ≤ committed (now new)) × (v.changes ≤ changes (now new))
result_rises c n v old new r shown is =
    let k = returned old r.process in
    subst (λ (k : Kernel). (v.committed ≤ committed (now k)) × (v.changes ≤ changes (now k))) (sym is)
    (rises v old (settled old r) shown (c k (events_of r)) (n k (events_of r)))

-- a loan moves neither what is committed nor the totals
pub lend_keeps : (v : View) (books : Totals) (old new : Kernel) (quantum : ℕ) (result : Result (Option LoanOut) Refused) → Lends old quantum new result
    → pair_of v ≡ (committed (now old), changes (now old)) → books ≡ history_totals old
    → (pair_of v ≡ (committed (now new), changes (now new))) × (books ≡ history_totals new)
lend_keeps v books old new quantum result h shown here =
    let same = same_run old new quantum result h in
    (shown ∙ sym (ap (λ (w : World). (committed w, changes w)) same.0), here ∙ sym same.1)
  where
    same_run : (old new : Kernel) (quantum : ℕ) (result : Result (Option LoanOut) Refused) → Lends old quantum new result
        → (now new ≡ now old) × (history_totals new ≡ history_totals old)
    same_run old new quantum (Ok (Some loan)) h = (ap now h.1.noted, ap history_totals h.1.noted)
    same_run old new quantum (Ok None) h = (ap now h.1.1, ap history_totals h.1.1)
    same_run old new quantum (Err why) h = (ap now h.2, ap history_totals h.2)

-- nor does one that lends a process again
pub again_keeps : (v : View) (books : Totals) (old new : Kernel) (pid quantum : ℕ) (given : Option LoanOut) → LendsAgain old pid quantum new given
    → pair_of v ≡ (committed (now old), changes (now old)) → books ≡ history_totals old
    → (pair_of v ≡ (committed (now new), changes (now new))) × (books ≡ history_totals new)
again_keeps v books old new pid quantum None h shown here =
    (shown ∙ sym (ap (λ (w : World). (committed w, changes w)) (ap now h)), here ∙ sym (ap history_totals h))
again_keeps v books old new pid quantum (Some loan) h shown here =
    (shown ∙ sym (ap (λ (w : World). (committed w, changes w)) (ap now h.1.noted)), here ∙ sym (ap history_totals h.1.noted))
