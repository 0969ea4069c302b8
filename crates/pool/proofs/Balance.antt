-- Each step of a queue or a deque keeps the balance.
use Rattle.std.proofs.Common.{◌≡◌, ℕ, zero, suc, ◌+◌, refl, sym, ap, List, [], ◌∷◌, ◌++◌, map, set, arith}
use mathlib.Core.Option.{some, some-ne-none, some-injective}
use lib.ListN.{get_elem?}
use Rattle.crossbeam_queue.specs.Fifo.{Pushes, Pops, Admits}
use Rattle.crossbeam_deque.specs.Tasks as deque
use Rattle.bursts.specs.declared.loan_id.LoanId.{LoanId}
use Rattle.pool.specs.declared.hand.Hand.{Hand}
use Rattle.pool.specs.Hands.{hand, no_hand, gave, took, weigh, total, Balanced}

-- the total after a change of one pass
total_set : (f : Hand → ℕ) (views : List Hand) (port : ℕ) (v w : Hand) → get_elem? views port ≡ some v → total f (set views port w) + f v ≡ total f views + f w
total_set f [] port v w at = absurd (some-ne-none v (sym at))
total_set f (u ∷ vs) zero v w at = let e = ap f (some-injective _ _ at) in omega arith
total_set f (u ∷ vs) (suc port) v w at = let step = total_set f vs port v w at in omega arith

total_more : (f : Hand → ℕ) (views : List Hand) (w : Hand) → total f (views ++ w ∷ []) ≡ total f views + f w
total_more f [] w = omega arith
total_more f (v ∷ vs) w = let step = total_more f vs w in omega arith

weigh_append : (h : LoanId → ℕ) (xs ys : List LoanId) → weigh h (xs ++ ys) ≡ weigh h xs + weigh h ys
weigh_append h [] ys = omega arith
weigh_append h (x ∷ xs) ys = let step = weigh_append h xs ys in omega arith

weigh_ids : {T : Type 0} (id : T → LoanId) (h : LoanId → ℕ) (xs : List T) (x : T) → weigh h (map id (xs ++ x ∷ [])) ≡ weigh h (map id xs) + h (id x)
weigh_ids id h [] x = omega arith
weigh_ids id h (y ∷ ys) x = let step = weigh_ids id h ys x in omega arith

pub puts : {T : Type 0} (id : T → LoanId) (n port : ℕ) (v : Hand) (x : T) → Pushes (Balanced id) n port v x (λ w. w ≡ gave v (id x))
puts id n port v x items views room b at =
    let w = gave v (id x) in (
      w,
      (λ h.
          let s = total_set (λ u. weigh h u.put) views port v w at in
          let t = total_set (λ u. weigh h u.taken) views port v w at in
          let p = weigh_append h v.put (id x ∷ []) in
          let q = weigh_ids id h items x in
          let r = b h in
          omega arith),
      refl,
    )

pub takes : {T : Type 0} (id : T → LoanId) (port : ℕ) (v : Hand) → Pops (Balanced id) port v (λ x w. w ≡ took v (id x))
takes id port v x items views b at =
    let w = took v (id x) in (
      w,
      (λ h.
          let s = total_set (λ u. weigh h u.put) views port v w at in
          let t = total_set (λ u. weigh h u.taken) views port v w at in
          let p = weigh_append h v.taken (id x ∷ []) in
          let r = b h in
          omega arith),
      refl,
    )

pub admits : {T : Type 0} (id : T → LoanId) → Admits (Balanced id) no_hand
admits id items views b h =
    let s = total_more (λ u. weigh h u.put) views (hand [] []) in
    let t = total_more (λ u. weigh h u.taken) views (hand [] []) in
    let r = b h in
    omega arith

weigh_map : {T : Type 0} (id : T → LoanId) (h : LoanId → ℕ) (xs ys : List T) → weigh h (map id (xs ++ ys)) ≡ weigh h (map id xs) + weigh h (map id ys)
weigh_map id h [] ys = omega arith
weigh_map id h (x ∷ xs) ys = let step = weigh_map id h xs ys in omega arith

-- the same of a deque
pub pushes : {T : Type 0} (id : T → LoanId) (port : ℕ) (v : Hand) (xs : List T) → deque.Pushes (Balanced id) port v xs (λ w. w ≡ hand (v.put ++ map id xs) v.taken)
pushes id port v xs items views b at =
    let w = hand (v.put ++ map id xs) v.taken in (
      w,
      (λ h.
          let s = total_set (λ u. weigh h u.put) views port v w at in
          let t = total_set (λ u. weigh h u.taken) views port v w at in
          let p = weigh_append h v.put (map id xs) in
          let q = weigh_map id h items xs in
          let r = b h in
          omega arith),
      refl,
    )

pub takes_one : {T : Type 0} (id : T → LoanId) (port : ℕ) (v : Hand) → deque.Takes (Balanced id) port v 1 (λ xs w. w ≡ hand v.put (v.taken ++ map id xs))
takes_one id port v xs items views least few b at =
    let w = hand v.put (v.taken ++ map id xs) in (
      w,
      (λ h.
          let s = total_set (λ u. weigh h u.put) views port v w at in
          let t = total_set (λ u. weigh h u.taken) views port v w at in
          let p = weigh_append h v.taken (map id xs) in
          let q = weigh_map id h xs items in
          let r = b h in
          omega arith),
      refl,
    )
