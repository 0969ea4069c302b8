-- Places of a program with its trace, by their counts.
use Rattle.std.proofs.Common.{◌≡◌, ℕ, suc, zero, ◌+◌, ◌*◌, ◌<◌, ◌≤◌, List, [], ◌∷◌, ◌++◌, length, drop, None, refl, sym, ap, subst, ◌∙◌, arith, inl, inr}
use Rattle.std.specs.Prelude.{Option}
use Rattle.std.proofs.lemmas.Option.{same_Some, none-some}
use Rattle.machine_model.proofs.Lists.{slice_get-push}
use Rattle.slab.specs.Slab.{Slab}
use Rattle.machine_model.specs.First.{first_state}
use Rattle.machine_model.specs.Images.{Program}
use Rattle.machine_model.specs.States.{State}
use Rattle.machine_model.specs.declared.reply.Reply.{Reply}
use Rattle.debugger.specs.Traces.{Traced, traced, next_of, along, reached, halt_of}
use Rattle.debugger.specs.Ways.{traced_at, Leads, Came}
use Rattle.debugger.specs.Keeping.{session_of, IsAt, IsKept, AreKept, Advances}
use Rattle.debugger.specs.declared.halt.Halt.{Halt}
use Rattle.debugger.specs.declared.place.Place.{Place}
use Rattle.debugger.proofs.Along.{along-zero, along-add, along-onward}

reached-along : (p : Program) (rs : List Reply) (n : ℕ) → reached p rs n ≡ along n (traced (first_state p) rs)
unfolding reached
reached-along p rs n = refl

-- after none it is at its first state
pub reached-zero : (p : Program) (rs : List Reply) → reached p rs 0 ≡ traced (first_state p) rs
reached-zero p rs = reached-along p rs 0 ∙ along-zero (traced (first_state p) rs)

-- after some, and then more
pub reached-add : (p : Program) (rs : List Reply) (m n : ℕ) → reached p rs (m + n) ≡ along n (reached p rs m)
reached-add p rs m n =
    reached-along p rs (m + n) ∙ along-add m n (traced (first_state p) rs) ∙ ap (along n) (sym (reached-along p rs m))

-- the first place
pub is_at-first : (p : Program) (rs : List Reply) (a : Place) → a.machine ≡ first_state p → a.taken ≡ 0 → IsAt p rs a
is_at-first p rs a first none =
    ap (λ (n : ℕ). reached p rs n) (ap (λ (s : State). s.count) first) ∙ reached-zero p rs
    ∙ ap (λ (s : State). traced s rs) (sym first) ∙ ap (λ (n : ℕ). traced a.machine (drop n rs)) (sym none)

-- a place that moves lead to
pub is_at-leads : (p : Program) (rs : List Reply) (a b : Place) (n : ℕ) → IsAt p rs a → Leads n (traced_at rs a) (traced_at rs b) → IsAt p rs b
is_at-leads p rs a b n at leads =
    ap (λ (k : ℕ). reached p rs k) leads.counts ∙ reached-add p rs a.machine.count n ∙ ap (along n) at ∙ leads.moves

-- a place that is the same
pub is_at-same : (p : Program) (rs : List Reply) (a b : Place) → b ≡ a → IsAt p rs a → IsAt p rs b
is_at-same p rs a b same at = subst (λ (c : Place). IsAt p rs c) (sym same) at

first-count : (p : Program) (rs : List Reply) (a : Place) → IsAt p rs a → (along a.machine.count (traced (first_state p) rs)).state.count ≡ (traced (first_state p) rs).state.count + a.machine.count
first-count p rs a at =
    let same : (along a.machine.count (traced (first_state p) rs)).state.count ≡ a.machine.count = ap (λ (t : Traced). t.state.count) (sym (reached-along p rs a.machine.count) ∙ at) in
    let from : (traced (first_state p) rs).state.count ≡ 0 = refl in
    omega arith

-- before a place nothing keeps the machine from going on
pub onward-before : (p : Program) (rs : List Reply) (a : Place) (n : ℕ) → IsAt p rs a → n < a.machine.count → halt_of (next_of (reached p rs n)) ≡ None
onward-before p rs a n at less =
    ap (λ (t : Traced). halt_of (next_of t)) (reached-along p rs n) ∙ along-onward a.machine.count n (traced (first_state p) rs) (first-count p rs a at) less

-- at a place it is what keeps that from going on
pub halt-there : (p : Program) (rs : List Reply) (a : Place) → IsAt p rs a → halt_of (next_of (reached p rs a.machine.count)) ≡ halt_of (next_of (traced_at rs a))
halt-there p rs a at = ap (λ (t : Traced). halt_of (next_of t)) at

-- a session whose place went on
pub advances-came : (p : Program) (rs : List Reply) (a b : Place) (breaks : Slab ℕ) (reran most max : ℕ) (halt : Option Halt) → IsAt p rs a → IsAt p rs b → 0 < most → most ≤ max → Came most (traced_at rs a) halt (traced_at rs b)
    → Advances (session_of p rs a breaks reran) max halt (session_of p rs b breaks reran)
advances-came p rs a b breaks reran most max halt from to some few came =
    let counts : b.machine.count ≡ a.machine.count + came.done = came.leads.counts in
    let within : came.done ≤ most = came.within in
    record {
      on = omega arith;
      within = omega arith;
      past = λ n _ less. onward-before p rs b n to less;
      progress = λ none. (let some : 0 < came.done = came.progress none in omega arith);
      short = λ not. (let less : came.done < most = came.short not in omega arith);
      stands = λ why is. halt-there p rs b to ∙ came.stands why is;
      rest = refl;
    }

-- a session that went on by one
pub advances-one : (p : Program) (rs : List Reply) (a b : Place) (breaks : Slab ℕ) (reran max : ℕ) → IsAt p rs b → 0 < max → Leads 1 (traced_at rs a) (traced_at rs b)
    → Advances (session_of p rs a breaks reran) max None (session_of p rs b breaks reran)
advances-one p rs a b breaks reran max to some leads =
    let counts : b.machine.count ≡ a.machine.count + 1 = leads.counts in
    record {
      on = omega arith;
      within = omega arith;
      past = λ n _ less. onward-before p rs b n to less;
      progress = λ _. omega arith;
      short = λ not. absurd (not refl);
      stands = λ why is. absurd (none-some why is);
      rest = refl;
    }

-- from an earlier place up to a later one nothing keeps the machine from going on
pub onward-from : (p : Program) (rs : List Reply) (now kept : Place) (k : ℕ) → IsAt p rs now → IsAt p rs kept → kept.machine.count + k < now.machine.count → halt_of (next_of (along k (traced_at rs kept))) ≡ None
onward-from p rs now kept k at from less =
    ap (λ (t : Traced). halt_of (next_of (along k t))) (sym from)
    ∙ sym (ap (λ (t : Traced). halt_of (next_of t)) (reached-add p rs kept.machine.count k))
    ∙ onward-before p rs now (kept.machine.count + k) at less

-- one place is kept
pub kept-first : (p : Program) (rs : List Reply) (a : Place) → a.machine.count ≡ 0 → IsAt p rs a → a.taken ≤ length rs → AreKept p rs (a ∷ [])
kept-first p rs a counts at bound zero b e =
    let same : a ≡ b = same_Some a b e in
    subst (λ (c : Place). IsKept p rs 0 c) same (record { counts = counts; there = at; bound = bound })
kept-first p rs a counts at bound (suc k) b e = absurd (none-some b e)

-- one more is kept
pub kept-push : (p : Program) (rs : List Reply) (kept : List Place) (a : Place) → AreKept p rs kept → a.machine.count ≡ 1024 * length kept → IsAt p rs a → a.taken ≤ length rs → AreKept p rs (kept ++ a ∷ [])
kept-push p rs kept a are counts at bound k b e =
    elim (slice_get-push kept a b k e) [
      | inl there ↦ are k b there
      | inr last ↦ (
          let count : b.machine.count ≡ 1024 * k = ap (λ (c : Place). c.machine.count) (sym last.1) ∙ counts ∙ ap (λ (n : ℕ). 1024 * n) (sym last.0) in
          let there : IsAt p rs b = subst (λ (c : Place). IsAt p rs c) last.1 at in
          let took : b.taken ≤ length rs = subst (λ (c : Place). c.taken ≤ length rs) last.1 bound in
          record { counts = count; there = there; bound = took }
          )
    ]
