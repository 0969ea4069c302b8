-- Moves along a trace, one after the other.
use Rattle.std.proofs.Common.{◌≡◌, ℕ, suc, zero, ◌+◌, ◌-◌, ◌<◌, ◌≤◌, Bool, true, false, cond, List, [], ◌∷◌, ◌++◌, length, Some, None, refl, sym, ap, subst, ◌∙◌, arith}
use Rattle.std.specs.Prelude.{Option}
use Rattle.memory_model.specs.Access.{is_writable}
use Rattle.machine_model.specs.States.{State, Stepped, Goes, Halts, next}
use Rattle.machine_model.specs.Images.{Program}
use Rattle.machine_model.specs.Replies.{replied, replied_by}
use Rattle.machine_model.specs.declared.reply.Reply.{Reply}
use Rattle.machine_model.specs.declared.stop.Stop.TheVariants.{Limit, Call, Trap}
use Rattle.machine_model.proofs.Running.{next-count}
use Rattle.debugger.specs.Traces.{Traced, traced, Next, Moves, Rests, next_at_call, next_by, next_of, by_next, along, halt_of, reached}
use Rattle.machine_model.specs.First.{first_state}
use Rattle.debugger.specs.declared.halt.Halt.{Halt}
use Rattle.debugger.specs.declared.halt.Halt.TheVariants as halt
use Rattle.debugger.specs.Ways.{Leads}

pub same_move : (t u : Traced) → Moves t ≡ Moves u → t ≡ u
same_move t u e = cc

pub rests_not : (why : Halt) (u : Traced) → Rests why ≡ Moves u → ⊥
rests_not why u e = cc

-- a reply counts as one instruction
replied-count : (s : State) (r : Reply) → (replied s r).count ≡ s.count + 1
replied-count s r = by r.image
  where
    by : (o : Option Program) → (replied_by s r o).count ≡ s.count + 1
    by None = refl
    by (Some p) = refl

call-count : (s : State) (left : List Reply) (u : Traced) → next_at_call s left ≡ Moves u → u.state.count ≡ s.count + 1
call-count s [] u e = absurd (rests_not halt.EndOfTrace u e)
call-count s (r ∷ rs) u e = by (is_writable s.architectural.memory r.at (length r.bytes)) e
  where
    by : (b : Bool) → cond b (Moves (traced (replied s r) rs)) (Rests halt.EndOfTrace) ≡ Moves u → u.state.count ≡ s.count + 1
    by true e = sym (ap (λ (v : Traced). v.state.count) (same_move (traced (replied s r) rs) u e)) ∙ replied-count s r
    by false e = absurd (rests_not halt.EndOfTrace u e)

-- a move counts
pub next_of-count : (t u : Traced) → next_of t ≡ Moves u → u.state.count ≡ t.state.count + 1
unfolding next_of
next_of-count t u = by (next t.state) refl
  where
    by : (x : Stepped) → next t.state ≡ x → next_by t x ≡ Moves u → u.state.count ≡ t.state.count + 1
    by (Goes s) is e = sym (ap (λ (v : Traced). v.state.count) (same_move (traced s t.left) u e)) ∙ next-count t.state s is
    by (Halts (Trap cause)) is e = absurd (rests_not (halt.Trap cause) u e)
    by (Halts Call) is e = call-count t.state t.left u e
    by (Halts Limit) is e = absurd (rests_not halt.EndOfTrace u e)

pub along-zero : (t : Traced) → along zero t ≡ t
unfolding along
along-zero t = refl

pub along-moves : (n : ℕ) (t u : Traced) → next_of t ≡ Moves u → along (suc n) t ≡ along n u
unfolding along
along-moves n t u e = ap (λ (x : Next). by_next x (λ v. along n v) t) e

pub along-rests : (n : ℕ) (t : Traced) (why : Halt) → next_of t ≡ Rests why → along n t ≡ t
unfolding along
along-rests zero t why e = refl
along-rests (suc n) t why e = ap (λ (x : Next). by_next x (λ v. along n v) t) e

-- some moves, and then more
pub along-add : (m n : ℕ) (t : Traced) → along (m + n) t ≡ along n (along m t)
along-add zero n t =
    let none : zero + n ≡ n = omega arith in
    ap (λ (k : ℕ). along k t) none ∙ sym (ap (along n) (along-zero t))
along-add (suc m) n t = by (λ u. along-add m n u) (next_of t) refl
  where
    later : suc m + n ≡ suc (m + n)
    later = omega arith

    by : ((u : Traced) → along (m + n) u ≡ along n (along m u)) → (x : Next) → next_of t ≡ x → along (suc m + n) t ≡ along n (along (suc m) t)
    by rest (Moves u) is =
        ap (λ (k : ℕ). along k t) later ∙ along-moves (m + n) t u is ∙ rest u ∙ sym (ap (along n) (along-moves m t u is))
    by rest (Rests why) is =
        along-rests (suc m + n) t why is ∙ sym (along-rests n t why is) ∙ sym (ap (along n) (along-rests (suc m) t why is))

-- n moves count n at most
pub along-within : (n : ℕ) (t : Traced) → (along n t).state.count ≤ t.state.count + n
along-within zero t = let same : (along zero t).state.count ≡ t.state.count = ap (λ (v : Traced). v.state.count) (along-zero t) in omega arith
along-within (suc n) t = by (λ u. along-within n u) (next_of t) refl
  where
    by : ((u : Traced) → (along n u).state.count ≤ u.state.count + n) → (x : Next) → next_of t ≡ x → (along (suc n) t).state.count ≤ t.state.count + suc n
    by later (Moves u) is =
        let same : (along (suc n) t).state.count ≡ (along n u).state.count = ap (λ (v : Traced). v.state.count) (along-moves n t u is) in
        let more : u.state.count ≡ t.state.count + 1 = next_of-count t u is in
        let rest : (along n u).state.count ≤ u.state.count + n = later u in
        omega arith
    by later (Rests why) is =
        let same : (along (suc n) t).state.count ≡ t.state.count = ap (λ (v : Traced). v.state.count) (along-rests (suc n) t why is) in
        omega arith

-- and nothing keeps them from going on
pub along-onward : (n k : ℕ) (t : Traced) → (along n t).state.count ≡ t.state.count + n → k < n → halt_of (next_of (along k t)) ≡ None
along-onward n k t all few = by (next_of (along k t)) refl
  where
    by : (x : Next) → next_of (along k t) ≡ x → halt_of x ≡ None
    by (Moves u) is = refl
    by (Rests why) is =
        let split : n ≡ k + (n - k) = omega (arith, few) in
        let same : (along n t).state.count ≡ (along (n - k) (along k t)).state.count = ap (λ (j : ℕ). (along j t).state.count) split ∙ ap (λ (v : Traced). v.state.count) (along-add k (n - k) t) in
        let stays : (along (n - k) (along k t)).state.count ≡ (along k t).state.count = ap (λ (v : Traced). v.state.count) (along-rests (n - k) (along k t) why is) in
        let most : (along k t).state.count ≤ t.state.count + k = along-within k t in
        absurd (omega arith)

pub leads-none : (t : Traced) → Leads 0 t t
leads-none t = record { moves = along-zero t; counts = omega arith }

pub leads-one : (t u : Traced) → next_of t ≡ Moves u → Leads 1 t u
leads-one t u e = record { moves = along-moves 0 t u e ∙ along-zero u; counts = next_of-count t u e }

pub leads-then : (m n : ℕ) (f g h : Traced) → Leads m f g → Leads n g h → Leads (m + n) f h
leads-then m n f g h a b =
    let first : g.state.count ≡ f.state.count + m = a.counts in
    let second : h.state.count ≡ g.state.count + n = b.counts in
    record { moves = along-add m n f ∙ ap (along n) a.moves ∙ b.moves; counts = omega arith }

-- as many in all
pub leads-same : (m n : ℕ) (f g : Traced) → m ≡ n → Leads m f g → Leads n f g
leads-same m n f g e a = subst (λ (k : ℕ). Leads k f g) e a

-- what lies ahead of a state lies ahead of a later one
pub onward-later : (n k : ℕ) (f g : Traced) → Leads n f g → halt_of (next_of (along (n + k) f)) ≡ None → halt_of (next_of (along k g)) ≡ None
onward-later n k f g leads e =
    ap (λ (t : Traced). halt_of (next_of (along k t))) (sym leads.moves) ∙ sym (ap (λ (t : Traced). halt_of (next_of t)) (along-add n k f)) ∙ e

-- with more replies at the end of its trace
abbrev pub longer : Traced → List Reply → Traced
longer t more = traced t.state (t.left ++ more)

call-more : (s : State) (left : List Reply) (u : Traced) (more : List Reply) → next_at_call s left ≡ Moves u → next_at_call s (left ++ more) ≡ Moves (longer u more)
call-more s [] u more e = absurd (rests_not halt.EndOfTrace u e)
call-more s (r ∷ rs) u more e = by (is_writable s.architectural.memory r.at (length r.bytes)) e
  where
    by : (b : Bool) → cond b (Moves (traced (replied s r) rs)) (Rests halt.EndOfTrace) ≡ Moves u → cond b (Moves (traced (replied s r) (rs ++ more))) (Rests halt.EndOfTrace) ≡ Moves (longer u more)
    by true e = ap (λ (v : Traced). Moves (longer v more)) (same_move (traced (replied s r) rs) u e)
    by false e = absurd (rests_not halt.EndOfTrace u e)

-- a move stays a move
pub next_of-more : (t u : Traced) (more : List Reply) → next_of t ≡ Moves u → next_of (longer t more) ≡ Moves (longer u more)
unfolding next_of
next_of-more t u more = by (next t.state)
  where
    by : (x : Stepped) → next_by t x ≡ Moves u → next_by (longer t more) x ≡ Moves (longer u more)
    by (Goes s) e = ap (λ (v : Traced). Moves (longer v more)) (same_move (traced s t.left) u e)
    by (Halts (Trap cause)) e = absurd (rests_not (halt.Trap cause) u e)
    by (Halts Call) e = call-more t.state t.left u more e
    by (Halts Limit) e = absurd (rests_not halt.EndOfTrace u e)

-- what was reached stays
pub along-more : (n : ℕ) (t : Traced) (more : List Reply) → (along n t).state.count ≡ t.state.count + n → along n (longer t more) ≡ longer (along n t) more
along-more zero t more all = along-zero (longer t more) ∙ sym (ap (λ (v : Traced). longer v more) (along-zero t))
along-more (suc n) t more all = by (λ u. along-more n u more) (next_of t) refl
  where
    by : ((u : Traced) → (along n u).state.count ≡ u.state.count + n → along n (longer u more) ≡ longer (along n u) more) → (x : Next) → next_of t ≡ x → along (suc n) (longer t more) ≡ longer (along (suc n) t) more
    by later (Moves u) is =
        let same : (along (suc n) t).state.count ≡ (along n u).state.count = ap (λ (v : Traced). v.state.count) (along-moves n t u is) in
        let one : u.state.count ≡ t.state.count + 1 = next_of-count t u is in
        along-moves n (longer t more) (longer u more) (next_of-more t u more is)
        ∙ later u (omega arith)
        ∙ sym (ap (λ (v : Traced). longer v more) (along-moves n t u is))
    by later (Rests why) is =
        let same : (along (suc n) t).state.count ≡ t.state.count = ap (λ (v : Traced). v.state.count) (along-rests (suc n) t why is) in
        absurd (omega arith)

-- a program's states stay where its trace grows
pub reached-more : (p : Program) (rs more : List Reply) (n : ℕ) → (first_state p).count ≡ 0 → (reached p rs n).state.count ≡ n → reached p (rs ++ more) n ≡ longer (reached p rs n) more
unfolding reached
reached-more p rs more n first all = along-more n (traced (first_state p) rs) more (omega (arith, first, all))

-- and so do those before
pub state-before : (p : Program) (rs more : List Reply) (m n : ℕ) → (first_state p).count ≡ 0 → (reached p rs m).state.count ≡ m → n ≤ m → (reached p (rs ++ more) n).state ≡ (reached p rs n).state
unfolding reached
state-before p rs more m n first all within =
    let here : (along m (traced (first_state p) rs)).state.count ≡ m = all in
    let split : m ≡ n + (m - n) = omega (arith, within) in
    let whole : (along (m - n) (along n (traced (first_state p) rs))).state.count ≡ m = ap (λ (t : Traced). t.state.count) (sym (along-add n (m - n) (traced (first_state p) rs))) ∙ ap (λ (k : ℕ). (along k (traced (first_state p) rs)).state.count) (sym split) ∙ here in
    let most : (along (m - n) (along n (traced (first_state p) rs))).state.count ≤ (along n (traced (first_state p) rs)).state.count + (m - n) = along-within (m - n) (along n (traced (first_state p) rs)) in
    let few : (along n (traced (first_state p) rs)).state.count ≤ (first_state p).count + n = along-within n (traced (first_state p) rs) in
    ap (λ (t : Traced). t.state) (along-more n (traced (first_state p) rs) more (omega (arith, first, within, whole, most, few)))
