-- Each goal's answer is direct, since the search for one takes long here.
use Rattle.std.proofs.Common.{◌≡◌, ℕ, suc, ◌+◌, ◌<◌, ◌≤◌, ◌∙◌, List, [], ◌∷◌, ◌++◌, length, refl, sym, ap, subst, append_assoc, arith, Ok, Err}
use Rattle.std.proofs.lemmas.List.{append-nil, length-reverse, length-map}
use Rattle.std.specs.Prelude.{Result, OnErr}
use borrow.Author.Count.{falls}
use Rattle.pool.specs.Deques.{AtDeque}
use Rattle.pool.specs.Seats.{AtEach, IsNew}
use Rattle.pool.specs.Seating.{IsUnused, ids_of, AreOthers}
use Rattle.pool.proofs.Fresh.{at_each_none, at_each_more, at_each_last, all_last, by_worker, seat_is_new}
use Rattle.pool.proofs.pools.Pool.seats.Goals as goal

-- of numbers: of workers w, of seats k that were made so far, of deques, lists or parts n, of seats there may be m, and of parts at first s
at_first : (n w : ℕ) → n ≡ w → n + 0 ≡ w
at_first n w is = omega arith

one_there : (n k w : ℕ) → n + k ≡ w → k < w → 0 < n
one_there n k w is below = omega arith

two_there : (n k w s : ℕ) → n + k ≡ s → k < w → w < s → 1 < n
two_there n k w s is below more = omega arith

room : (n k m w : ℕ) → n ≡ k → m ≡ w → k < w → n < m
room n k m w is has below = omega arith

one_fewer : (m n k w : ℕ) → m + 1 ≡ n → n + k ≡ w → m + (k + 1) ≡ w
one_fewer m n k w less is = omega arith

one_more : (m n k : ℕ) → m ≡ n + 1 → n ≡ k → m ≡ k + 1
one_more m n k more is = omega arith

both_fewer : (a m b n k w : ℕ) → a + 1 ≡ m → m + k ≡ w → b + 1 ≡ n → n + k ≡ w → a ≡ b
both_fewer a m b n k w less is fewer also = omega arith

one_gone : (n k : ℕ) → n ≡ k → suc n ≡ k + 1
one_gone n k is = omega arith

at_last : (k w : ℕ) → k ≤ w → w ≤ k → k ≡ w
at_last k w below above = omega arith

pub loop-init : goal.loop-init
loop-init g c =
    let workers : length c.deref.result.now ≡ c.args.self.now.workers = c.deref.ensures.len ∙ c.in_ok-deques.ensures.len in (
      c.in_ok-deques.deques.items,
      [],
      sym (append-nil c.in_ok-deques.deques.items),
      refl,
      ap length (sym c.deref.ensures.value) ∙ workers,
      at_first _ _ c.in_ok-deques.ensures.len,
      at_first _ _ (c.in_ok-all.ensures.len ∙ workers),
      c.in_ok-seats.ensures.len,
      c.in_ok-seats.ensures.exact,
      at_first _ _ refl,
      refl,
      refl,
      c.in_ok-deques.ensures.unused,
      subst (λ (ds : List AtDeque). AtEach (λ place others. AreOthers ds place others.items) c.in_ok-all.all.items) c.deref.ensures.value c.in_ok-all.ensures.others,
      at_each_none _ _ c.in_ok-seats.ensures.items,
    )

pub last_of-own-requires : goal.last_of-own-requires
last_of-own-requires g c = one_there _ _ _ c.loop.invariant.5 c.loop-test.true

pub last_of-others-requires : goal.last_of-others-requires
last_of-others-requires g c = one_there _ _ _ c.loop.invariant.6 c.loop-test.true

pub part_of-requires : goal.part_of-requires
part_of-requires g c = two_there _ _ _ _ c.loop.invariant.9 c.loop-test.true c.requires

pub push_reserved-requires : goal.push_reserved-requires
push_reserved-requires g c = room _ _ _ _ c.loop.invariant.7 c.loop.invariant.8 c.loop-test.true

pub loop-smaller : goal.loop-smaller
loop-smaller g c = falls _ _ c.loop-test.true

pub loop-preserved : goal.loop-preserved
loop-preserved g c =
    let i = c.loop.invariant in
    let whole : i.0 ≡ c.last_of-own.new.list.items ++ c.last_of-own.result ∷ i.1 = i.2 ∙ ap (λ l. l ++ i.1) c.last_of-own.ensures.items ∙ append_assoc c.last_of-own.new.list.items (c.last_of-own.result ∷ []) i.1 in
    let last = at_each_last _ _ c.last_of-others.new.list.items _ c.last_of-others.ensures.items i.13 in
    let unused = all_last IsUnused _ _ _ c.last_of-own.ensures.items i.12 in
    let same : length c.last_of-own.new.list.items ≡ length c.last_of-others.new.list.items =
    sym c.last_of-own.new.list.ok.0 ∙ both_fewer _ _ _ _ _ _ c.last_of-own.ensures.len i.5 c.last_of-others.ensures.len i.6 ∙ c.last_of-others.new.list.ok.0
    in (
      i.0,
      c.last_of-own.result ∷ i.1,
      whole,
      one_gone _ _ i.3,
      i.4,
      one_fewer _ _ _ _ c.last_of-own.ensures.len i.5,
      one_fewer _ _ _ _ c.last_of-others.ensures.len i.6,
      one_more _ _ _ c.push_reserved.ensures.len i.7,
      c.push_reserved.ensures.capacity ∙ i.8,
      one_fewer _ _ _ _ c.part_of.ensures.parts i.9,
      c.part_of.ensures.totals.0 ∙ i.10,
      c.part_of.ensures.totals.1 ∙ i.11,
      unused.0,
      last.0,
      at_each_more (IsNew (by_worker i.0)) _ _ _ _ c.push_reserved.ensures.items i.14 (sym c.loop.seats.ok.0 ∙ i.7) (seat_is_new i.0 _ i.1 c.last_of-others.result.items c.last_of-own.result c.part_of.result _ _ c.loop.counter whole i.3 same last.1 unused.1 c.part_of.ensures.part c.seat_at.ensures),
    )

pub returns-clause-len : goal.returns-clause-len
returns-clause-len g c = c.loop.invariant.7 ∙ at_last _ _ c.loop.auto.counter-end c.loop-test.false

pub returns-clause-fresh : goal.returns-clause-fresh
returns-clause-fresh g c = (by_worker c.loop.invariant.0, length-reverse (ids_of c.loop.invariant.0) ∙ length-map c.loop.invariant.0 (λ (d : AtDeque). d.deque) ∙ c.loop.invariant.4, c.loop.invariant.14)

pub returns-clause-parts : goal.returns-clause-parts
returns-clause-parts g c = subst (λ (k : ℕ). c.loop.share.parts + k ≡ c.args.share.now.parts) (at_last _ _ c.loop.auto.counter-end c.loop-test.false) c.loop.invariant.9

pub returns-clause-totals : goal.returns-clause-totals
returns-clause-totals g c = (c.loop.invariant.10, c.loop.invariant.11)

on_err : {X E : Type 0} {P : Type 0} (r : Result X E) → P → OnErr r P
on_err (Ok x) p = tt
on_err (Err e) p = p

pub returns-in_err-deques-clause-refused : goal.returns-in_err-deques-clause-refused
returns-in_err-deques-clause-refused g c = on_err _ refl

pub returns-in_err-all-clause-refused : goal.returns-in_err-all-clause-refused
returns-in_err-all-clause-refused g c = on_err _ refl

pub returns-in_err-seats-clause-refused : goal.returns-in_err-seats-clause-refused
returns-in_err-seats-clause-refused g c = on_err _ refl
