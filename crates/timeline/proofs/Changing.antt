-- One instruction more, and what it makes of the changes that were found so far.
use Rattle.std.proofs.Common.{◌≡◌, ℕ, ◌+◌, ◌-◌, ◌^◌, ◌<◌, ◌≤◌, Bool, true, false, cond, List, Some, None, refl, sym, ap, subst, ◌∙◌, arith, inl, inr}
use Rattle.std.specs.Prelude.{◌==◌, ◌≢◌, Option, Ok, Err}
use Rattle.std.proofs.lemmas.Bool.Decides.{leb_tells}
use Rattle.machine_model.specs.First.{first_state}
use Rattle.debugger.specs.Backward.{break_after}
use Rattle.debugger.specs.Sessions.{Session, halt_at, place_at}
use Rattle.debugger.specs.Stops.{after_step, answer_at, answer_of}
use Rattle.debugger.specs.Traces.{traced, reached}
use Rattle.debugger.specs.declared.fault.DebugFault.TheVariants as fault
use Rattle.debugger.specs.declared.halt.Halt.{Halt}
use Rattle.debugger.specs.declared.stops.Stepped.{Stepped}
use Rattle.debugger.specs.declared.stops.Stepped.TheVariants as stepped
use Rattle.debugger.specs.declared.stops.Stopped.{Stopped}
use Rattle.debugger.specs.declared.stops.Stopped.TheVariants.{Break}
use Rattle.debugger.proofs.Along.{along-onward}
use Rattle.timeline.specs.Changes.{ChangesAt, IsLastChange, NoneChanges, RunsToChange, held_at}
use Rattle.timeline.specs.declared.location.Location.{Location}

-- nothing keeps a session from going on below the count at which it stands
pub onward : (s : Session) (n : ℕ) → (place_at s s.count).state.count ≡ s.count → n < s.count → halt_at s n ≡ None
unfolding reached
onward s n there less =
    let first : (first_state s.program).count ≡ 0 = refl in
    along-onward s.count n (traced (first_state s.program) s.replies) (omega (arith, first, there)) less

-- where nothing keeps it, a step that answers went on
pub went : (s : Session) (how : Stepped) → halt_at s s.count ≡ None → answer_of s ≡ Ok how → after_step s (Ok how) ≡ record s { count = s.count + 1 }
went s how none = by (s.count == 2 ^ 40) (halt_at s s.count) none how
  where
    by : (b : Bool) (o : Option Halt) → o ≡ None → (how : Stepped) → cond b (Err fault.Budget) (answer_at o) ≡ Ok how → after_step s (Ok how) ≡ record s { count = s.count + 1 }
    by true o e how is = absurd (let no : ⊥ = cc in no)
    by false (Some why) e how is = absurd (let no : ⊥ = cc in no)
    by false None e stepped.Went is = refl
    by false None e (stepped.Trap cause) is = absurd (let no : ⊥ = cc in no)

-- what is so from a number on, and below another, is so below the next, if it is so of the number
below_next : (P : ℕ → Type 0) (from n : ℕ) → ((u : ℕ) → from ≤ u → u < n → P u) → P n → (u : ℕ) → from ≤ u → u < n + 1 → P u
below_next P from n each last u le lt =
    elim (leb_tells (u + 1) n) [
      | inl f ↦ each u le (omega (arith, f.1))
      | inr f ↦
          let same : u ≡ n = omega (arith, f.1, lt) in
          subst P (sym same) last
    ]

-- an instruction more that changes nothing
pub none-more : (s : Session) (locations : List Location) (from end : ℕ) → NoneChanges s locations from end → held_at s locations (end + 1) ≡ held_at s locations end → NoneChanges s locations from (end + 1)
none-more s locations from end none same = below_next (λ (n : ℕ). held_at s locations (n + 1) ≡ held_at s locations n) from end none same

pub last-kept : (s : Session) (locations : List Location) (from end : ℕ) (found : Option ℕ) → IsLastChange s locations from end found → held_at s locations (end + 1) ≡ held_at s locations end → IsLastChange s locations from (end + 1) found
last-kept s locations from end None last same = none-more s locations from end last same
last-kept s locations from end (Some n) last same = (last.0, omega (arith, last.1), last.2, none-more s locations (n + 1) end last.3 same)

-- one that changes something
pub last-new : (s : Session) (locations : List Location) (from end : ℕ) → from ≤ end → ChangesAt s locations end → IsLastChange s locations from (end + 1) (Some end)
last-new s locations from end le changes = (le, omega arith, changes, λ n above below. absurd (omega (arith, above, below)))

-- before a count there is none
pub last-none : (s : Session) (locations : List Location) (from : ℕ) → IsLastChange s locations from from None
last-none s locations from n above below = absurd (omega (arith, above, below))

-- two ways on, of which the later has none
pub none-joined : (s : Session) (locations : List Location) (from middle end : ℕ) → NoneChanges s locations from middle → NoneChanges s locations middle end → NoneChanges s locations from end
none-joined s locations from middle end first later n above below =
    elim (leb_tells (n + 1) middle) [
      | inl f ↦ first n above (omega (arith, f.1))
      | inr f ↦ later n (omega (arith, f.1)) below
    ]

-- the last change of a part of the way is that of the whole way, where none comes after the part
pub last-joined : (s : Session) (locations : List Location) (low end count n : ℕ) → IsLastChange s locations low end (Some n) → end ≤ count → NoneChanges s locations end count → IsLastChange s locations 0 count (Some n)
last-joined s locations low end count n last le none =
    (omega arith, omega (arith, last.1, le), last.2, none-joined s locations (n + 1) end count last.3 none)

-- a session at some count
pub rest-kept : (s t : Session) (count reran : ℕ) → t ≡ record s { count = count; reran = reran } → t ≡ record s { count = t.count; reran = t.reran }
rest-kept s t count reran e = e ∙ sym (ap (λ (u : Session). record s { count = u.count; reran = u.reran }) e)

-- A run so far: nothing changed on it, and it passed no breakpoint; none stands where it is.
pub record Unchanged (old : Session) (locations : List Location) (now : Session) : Type 0 where
  pub on : old.count ≤ now.count
  pub none : NoneChanges old locations old.count now.count
  pub unbroken : (n : ℕ) → old.count < n → n ≤ now.count → break_after old n ≡ None
  pub rest : now ≡ record old { count = now.count }

pub unchanged-first : (s : Session) (locations : List Location) → Unchanged s locations s
unchanged-first s locations = record {
  on = omega arith;
  none = λ n above below. absurd (omega (arith, above, below));
  unbroken = λ n above below. absurd (omega (arith, above, below));
  rest = refl;
}

-- it ends here, and not at a breakpoint
pub ends-here : (old now : Session) (locations : List Location) (why : Stopped) → Unchanged old locations now → ((number : ℕ) → Some why ≢ Some (Break number)) → RunsToChange old locations (Some why) now
ends-here old now locations why so_far halts = record {
  on = so_far.on;
  change = so_far.none;
  unbroken = λ n above below. so_far.unbroken n above (omega (arith, below));
  here = λ number is. absurd (halts number is);
  rest = so_far.rest;
}

next-rest : (old now next : Session) → now ≡ record old { count = now.count } → next ≡ record now { count = now.count + 1 } → next ≡ record old { count = next.count }
next-rest old now next rest e =
    e ∙ ap (λ (s : Session). record s { count = now.count + 1 }) rest ∙ sym (ap (λ (s : Session). record old { count = s.count }) e)

-- an instruction more, which changes something
pub ends-changed : (old now next : Session) (locations : List Location) → Unchanged old locations now → next ≡ record now { count = now.count + 1 } → ChangesAt old locations now.count → RunsToChange old locations None next
ends-changed old now next locations so_far e changes =
    let counts : next.count ≡ now.count + 1 = ap (λ (s : Session). s.count) e in
    let before : now.count ≡ next.count - 1 = omega (arith, counts) in
    record {
      on = omega (arith, so_far.on, counts);
      change = (omega (arith, so_far.on, counts), subst (λ (n : ℕ). ChangesAt old locations n) before changes, subst (λ (n : ℕ). NoneChanges old locations old.count n) before so_far.none);
      unbroken = λ n above below. so_far.unbroken n above (omega (arith, below, counts));
      here = λ number is. absurd (let no : ⊥ = cc in no);
      rest = next-rest old now next so_far.rest e;
    }

-- one that changes nothing, after which a breakpoint stands
pub ends-broken : (old now next : Session) (locations : List Location) (number : ℕ) → Unchanged old locations now → next ≡ record now { count = now.count + 1 } → held_at old locations (now.count + 1) ≡ held_at old locations now.count
    → break_after old (now.count + 1) ≡ Some number → RunsToChange old locations (Some (Break number)) next
ends-broken old now next locations number so_far e same broken =
    let counts : next.count ≡ now.count + 1 = ap (λ (s : Session). s.count) e in
    record {
      on = omega (arith, so_far.on, counts);
      change = subst (λ (n : ℕ). NoneChanges old locations old.count n) (sym counts) (none-more old locations old.count now.count so_far.none same);
      unbroken = λ n above below. so_far.unbroken n above (omega (arith, below, counts));
      here = λ other is. ap (λ (n : ℕ). break_after old n) counts ∙ broken ∙ (let one : Some number ≡ Some other = cc in one);
      rest = next-rest old now next so_far.rest e;
    }

-- one that changes nothing, after which none stands
pub unchanged-more : (old now next : Session) (locations : List Location) → Unchanged old locations now → next ≡ record now { count = now.count + 1 } → held_at old locations (now.count + 1) ≡ held_at old locations now.count
    → break_after old (now.count + 1) ≡ None → Unchanged old locations next
unchanged-more old now next locations so_far e same free =
    let counts : next.count ≡ now.count + 1 = ap (λ (s : Session). s.count) e in
    record {
      on = omega (arith, so_far.on, counts);
      none = subst (λ (n : ℕ). NoneChanges old locations old.count n) (sym counts) (none-more old locations old.count now.count so_far.none same);
      unbroken = λ n above below. below_last n above below counts;
      rest = next-rest old now next so_far.rest e;
    }
  where
    below_last : (n : ℕ) → old.count < n → n ≤ next.count → next.count ≡ now.count + 1 → break_after old n ≡ None
    below_last n above below counts = elim (leb_tells n now.count) [
      | inl f ↦ so_far.unbroken n above f.1
      | inr f ↦
          let last : n ≡ now.count + 1 = omega (arith, f.1, below, counts) in
          ap (λ (k : ℕ). break_after old k) last ∙ free
    ]
