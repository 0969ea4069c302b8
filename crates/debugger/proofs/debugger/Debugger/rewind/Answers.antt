-- Back from what is kept.
use Rattle.std.proofs.Common.{◌≡◌, ℕ, ◌-◌, ◌*◌, ◌/◌, ◌%◌, ◌≤◌, List, length, None, sym, ap, subst, ◌∙◌, arith, rules}
use Rattle.machine_model.specs.declared.reply.Reply.{Reply}
use Rattle.debugger.specs.Sessions.{Session}
use Rattle.debugger.specs.Traces.{along, halt_of, next_of}
use Rattle.debugger.specs.Ways.{traced_at, Leads}
use Rattle.debugger.specs.Keeping.{session_of, IsKept}
use Rattle.debugger.proofs.Arriving.{onward-from}
use Rattle.debugger.proofs.Holding.{kept-found, kept-back}
use Rattle.debugger.proofs.debugger.Debugger.rewind.Goals as goal

pub advance_to-requires-clause-ahead : goal.advance_to-requires-clause-ahead
advance_to-requires-clause-ahead c =
    let there : c.count.result ≡ c.self.inside.place.machine.count = c.count.ensures in
    let small : c.args.n ≤ c.self.inside.place.machine.count = omega arith in
    let found : IsKept c.self.inside.image c.self.inside.replies.items (c.args.n / 1024) c.in_ok-place.place = kept-found c.self.inside.image c.self.inside.replies.items c.self.inside.place c.self.inside.kept.items c.self.inside.breaks c.args.n c.index-kept.result.now c.in_ok-place.place c.self.invariant small c.index-kept.ensures c.in_ok-place.ensures in
    let counts : c.in_ok-place.place.machine.count ≡ 1024 * (c.args.n / 1024) = found.counts in
    omega arith

pub advance_to-requires-clause-near : goal.advance_to-requires-clause-near
advance_to-requires-clause-near c =
    let there : c.count.result ≡ c.self.inside.place.machine.count = c.count.ensures in
    let small : c.args.n ≤ c.self.inside.place.machine.count = omega arith in
    let found : IsKept c.self.inside.image c.self.inside.replies.items (c.args.n / 1024) c.in_ok-place.place = kept-found c.self.inside.image c.self.inside.replies.items c.self.inside.place c.self.inside.kept.items c.self.inside.breaks c.args.n c.index-kept.result.now c.in_ok-place.place c.self.invariant small c.index-kept.ensures c.in_ok-place.ensures in
    let counts : c.in_ok-place.place.machine.count ≡ 1024 * (c.args.n / 1024) = found.counts in
    omega arith

pub advance_to-requires-clause-onward : goal.advance_to-requires-clause-onward
advance_to-requires-clause-onward c =
    let there : c.count.result ≡ c.self.inside.place.machine.count = c.count.ensures in
    let small : c.args.n ≤ c.self.inside.place.machine.count = omega arith in
    let found : IsKept c.self.inside.image c.self.inside.replies.items (c.args.n / 1024) c.in_ok-place.place = kept-found c.self.inside.image c.self.inside.replies.items c.self.inside.place c.self.inside.kept.items c.self.inside.breaks c.args.n c.index-kept.result.now c.in_ok-place.place c.self.invariant small c.index-kept.ensures c.in_ok-place.ensures in
    λ k less. subst (λ (rs : List Reply). halt_of (next_of (along k (traced_at rs c.in_ok-place.place))) ≡ None) (sym c.as_slice.ensures.value)
    (onward-from c.self.inside.image c.self.inside.replies.items c.self.inside.place c.in_ok-place.place k c.self.invariant.there found.there (omega arith))

pub invariant_of-self : goal.invariant_of-self
invariant_of-self c =
    let there : c.count.result ≡ c.self.inside.place.machine.count = c.count.ensures in
    let small : c.args.n ≤ c.self.inside.place.machine.count = omega arith in
    let found : IsKept c.self.inside.image c.self.inside.replies.items (c.args.n / 1024) c.in_ok-place.place = kept-found c.self.inside.image c.self.inside.replies.items c.self.inside.place c.self.inside.kept.items c.self.inside.breaks c.args.n c.index-kept.result.now c.in_ok-place.place c.self.invariant small c.index-kept.ensures c.in_ok-place.ensures in
    (kept-back c.self.inside.image c.self.inside.replies.items c.self.inside.place c.in_ok-place.place c.advance_to.new.self c.self.inside.kept.items c.self.inside.breaks c.args.n c.self.invariant small found
    (subst (λ (rs : List Reply). Leads (c.args.n - c.in_ok-place.place.machine.count) (traced_at rs c.in_ok-place.place) (traced_at rs c.advance_to.new.self)) c.as_slice.ensures.value c.in_ok-advance_to.ensures.leads)
    (subst (λ (rs : List Reply). c.in_ok-place.place.taken ≤ length rs → c.advance_to.new.self.taken ≤ length rs) c.as_slice.ensures.value c.in_ok-advance_to.ensures.bound)).1

pub returns-clause-back : goal.returns-clause-back
returns-clause-back c =
    let there : c.count.result ≡ c.self.inside.place.machine.count = c.count.ensures in
    let small : c.args.n ≤ c.self.inside.place.machine.count = omega arith in
    let found : IsKept c.self.inside.image c.self.inside.replies.items (c.args.n / 1024) c.in_ok-place.place = kept-found c.self.inside.image c.self.inside.replies.items c.self.inside.place c.self.inside.kept.items c.self.inside.breaks c.args.n c.index-kept.result.now c.in_ok-place.place c.self.invariant small c.index-kept.ensures c.in_ok-place.ensures in
    let back : c.advance_to.new.self.machine.count ≡ c.args.n = (kept-back c.self.inside.image c.self.inside.replies.items c.self.inside.place c.in_ok-place.place c.advance_to.new.self c.self.inside.kept.items c.self.inside.breaks c.args.n c.self.invariant small found
    (subst (λ (rs : List Reply). Leads (c.args.n - c.in_ok-place.place.machine.count) (traced_at rs c.in_ok-place.place) (traced_at rs c.advance_to.new.self)) c.as_slice.ensures.value c.in_ok-advance_to.ensures.leads)
    (subst (λ (rs : List Reply). c.in_ok-place.place.taken ≤ length rs → c.advance_to.new.self.taken ≤ length rs) c.as_slice.ensures.value c.in_ok-advance_to.ensures.bound)).0 in
    let counts : c.in_ok-place.place.machine.count ≡ 1024 * (c.args.n / 1024) = found.counts in
    let first : c.count-from.result ≡ c.in_ok-place.place.machine.count = c.count-from.ensures in
    let last : c.count-2.result ≡ c.advance_to.new.self.machine.count = c.count-2.ensures in
    let again : c.count-2.result - c.count-from.result ≡ c.args.n % 1024 = omega arith in
    let before : Session = session_of c.self.inside.image c.self.inside.replies.items c.self.inside.place c.self.inside.breaks c.self.inside.reran in
    ap (λ (n : ℕ). record before { count = n; reran = c.count-2.result - c.count-from.result }) back
    ∙ ap (λ (n : ℕ). record before { count = c.args.n; reran = n }) again
    ∙ ap (λ (s : Session). record s { count = c.args.n; reran = c.args.n % 1024 }) c.self.view_is

-- Without an answer this would be proved too; with one, an edit that breaks it is refused sooner.
pub returns-then-count-n-clause-past : goal.returns-then-count-n-clause-past
returns-then-count-n-clause-past c = search rules
