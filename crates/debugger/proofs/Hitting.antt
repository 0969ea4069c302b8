-- The last hits of the parts of a way, one after the other.
use Rattle.std.proofs.Common.{◌≡◌, ℕ, suc, zero, ◌+◌, ◌-◌, ◌*◌, ◌%◌, ◌<◌, ◌≤◌, List, Some, None, refl, sym, ap, subst, ◌∙◌, arith, inl, inr}
use Rattle.std.specs.Prelude.{Option}
use Rattle.std.specs.Option.{option_or}
use Rattle.std.proofs.lemmas.Bool.{cases_lt}
use Rattle.std.proofs.lemmas.Option.{same_Some, none-some}
use Rattle.slab.specs.Slab.{Slab}
use Rattle.machine_model.specs.Images.{Program}
use Rattle.machine_model.specs.declared.reply.Reply.{Reply}
use Rattle.debugger.specs.Traces.{Traced, along, reached}
use Rattle.debugger.specs.Sessions.{Session, place_at}
use Rattle.debugger.specs.Stops.{least_from}
use Rattle.debugger.specs.Ways.{Leads, traced_at}
use Rattle.debugger.specs.Keeping.{IsKept, session_of}
use Rattle.debugger.specs.declared.place.Place.{Place}
use Rattle.debugger.specs.Backward.{break_after, HasNone, GoesBack}
use Rattle.debugger.specs.Hits.{IsLast, hit_with, last_hit, last_below}
use Rattle.debugger.specs.declared.hits.Hit.{Hit}
use Rattle.debugger.proofs.Arriving.{reached-add}

pub last_hit-zero : (breaks : List (Option ℕ)) (t : Traced) (from : ℕ) → last_hit breaks t from zero ≡ None
unfolding last_hit
last_hit-zero breaks t from = refl

pub last_hit-suc : (breaks : List (Option ℕ)) (t : Traced) (from n : ℕ) → last_hit breaks t from (suc n) ≡ option_or (hit_with (from + n) (least_from 0 breaks (along n t).state.architectural.pc)) (last_hit breaks t from n)
unfolding last_hit
last_hit-suc breaks t from n = refl

last_below-zero : (s : Session) → last_below s zero ≡ None
unfolding last_below
last_below-zero s = refl

last_below-suc : (s : Session) (n : ℕ) → last_below s (suc n) ≡ option_or (hit_with n (break_after s n)) (last_below s n)
unfolding last_below
last_below-suc s n = refl

-- none among no states
pub last_hit-none : (breaks : List (Option ℕ)) (t : Traced) (from n : ℕ) → n ≡ 0 → last_hit breaks t from n ≡ None
last_hit-none breaks t from n e = ap (last_hit breaks t from) e ∙ last_hit-zero breaks t from

-- one state more
pub last_hit-more : (breaks : List (Option ℕ)) (f g : Traced) (done from to : ℕ) (last : Option Hit) → Leads done f g → from ≡ f.state.count → to ≡ from + done + 1 → last ≡ last_hit breaks f from done
    → option_or (hit_with g.state.count (least_from 0 breaks g.state.architectural.pc)) last ≡ last_hit breaks f from (to - from)
last_hit-more breaks f g done from to last leads same more is =
    let counts : g.state.count ≡ f.state.count + done = leads.counts in
    let here : from + done ≡ g.state.count = omega arith in
    let longer : to - from ≡ suc done = omega arith in
    sym (
    ap (last_hit breaks f from) longer
    ∙ last_hit-suc breaks f from done
    ∙ ap (λ (n : ℕ). option_or (hit_with n (least_from 0 breaks (along done f).state.architectural.pc)) (last_hit breaks f from done)) here
    ∙ ap (λ (t : Traced). option_or (hit_with g.state.count (least_from 0 breaks t.state.architectural.pc)) (last_hit breaks f from done)) leads.moves
    ∙ ap (λ (o : Option Hit). option_or (hit_with g.state.count (least_from 0 breaks g.state.architectural.pc)) o) (sym is)
    )

or-none : (a : Option Hit) → option_or None a ≡ a
or-none a = refl

or-or : (a b c : Option Hit) → option_or a (option_or b c) ≡ option_or (option_or a b) c
or-or None b c = refl
or-or (Some h) b c = refl

-- the last hit of a way is that of its last part, or else of the rest
last_below-add : (s : Session) (from k : ℕ) → last_below s (from + k) ≡ option_or (last_hit s.breaks (place_at s from) from k) (last_below s from)
last_below-add s from zero =
    let none : from + zero ≡ from = omega arith in
    ap (last_below s) none ∙ sym (ap (λ (o : Option Hit). option_or o (last_below s from)) (last_hit-zero s.breaks (place_at s from) from))
last_below-add s from (suc k) =
    let one : from + suc k ≡ suc (from + k) = omega arith in
    ap (last_below s) one
    ∙ last_below-suc s (from + k)
    ∙ ap (λ (o : Option Hit). option_or (hit_with (from + k) (break_after s (from + k))) o) (last_below-add s from k)
    ∙ or-or (hit_with (from + k) (break_after s (from + k))) (last_hit s.breaks (place_at s from) from k) (last_below s from)
    ∙ ap (λ (t : Traced). option_or (option_or (hit_with (from + k) (least_from 0 s.breaks t.state.architectural.pc)) (last_hit s.breaks (place_at s from) from k)) (last_below s from)) (reached-add s.program s.replies from k)
    ∙ sym (ap (λ (o : Option Hit). option_or o (last_below s from)) (last_hit-suc s.breaks (place_at s from) from k))

pub last_below-part : (s : Session) (t : Traced) (from end : ℕ) (hit : Option Hit) → from ≤ end → place_at s from ≡ t → hit ≡ last_hit s.breaks t from (end - from) → last_below s end ≡ option_or hit (last_below s from)
last_below-part s t from end hit before there is =
    let split : end ≡ from + (end - from) = omega (arith, before) in
    ap (last_below s) split
    ∙ last_below-add s from (end - from)
    ∙ ap (λ (u : Traced). option_or (last_hit s.breaks u from (end - from)) (last_below s from)) there
    ∙ sym (ap (λ (o : Option Hit). option_or o (last_below s from)) is)

-- what a part that begins at a kept place has
pub kept-part : (p : Program) (rs : List Reply) (a b : Place) (breaks : Slab ℕ) (reran k end : ℕ) (hit : Option Hit) → IsKept p rs k b → 1024 * k ≤ end
    → hit ≡ last_hit breaks.slots (traced_at rs b) b.machine.count (end - b.machine.count)
    → last_below (session_of p rs a breaks reran) end ≡ option_or hit (last_below (session_of p rs a breaks reran) (1024 * k))
kept-part p rs a b breaks reran k end hit kept before is =
    let counts : b.machine.count ≡ 1024 * k = kept.counts in
    last_below-part (session_of p rs a breaks reran) (traced_at rs b) (1024 * k) end hit before
    (ap (λ (n : ℕ). reached p rs n) (sym counts) ∙ kept.there)
    (is ∙ ap (λ (n : ℕ). last_hit breaks.slots (traced_at rs b) n (end - n)) counts)

-- a hit that is the last below a count
record IsLastBelow (s : Session) (n : ℕ) (h : Hit) : Type 0 where
  below : h.count < n
  here : break_after s h.count ≡ Some h.number
  past : (m : ℕ) → h.count < m → m < n → break_after s m ≡ None

last-later : (s : Session) (n : ℕ) (h : Hit) → break_after s n ≡ None → IsLastBelow s n h → IsLastBelow s (suc n) h
last-later s n h none l =
    let below : h.count < n = l.below in
    record {
      below = omega arith;
      here = l.here;
      past = λ m above less. elim (cases_lt m n) [
        | inl f ↦ l.past m above f
        | inr f ↦ (let same : m ≡ n = omega (arith, f, less) in ap (break_after s) same ∙ none)
      ];
    }

last-here : (s : Session) (n number : ℕ) → break_after s n ≡ Some number → IsLastBelow s (suc n) (record { count = n; number = number })
last-here s n number is = record {
  below = omega arith;
  here = is;
  past = λ m above less. absurd (omega (arith, above, less));
}

last_below-some : (s : Session) (n : ℕ) (h : Hit) → last_below s n ≡ Some h → IsLastBelow s n h
last_below-some s zero h e = absurd (none-some h (sym (last_below-zero s) ∙ e))
last_below-some s (suc n) h e = by (last_below-some s n h) (break_after s n) refl (sym (last_below-suc s n) ∙ e)
  where
    by : (last_below s n ≡ Some h → IsLastBelow s n h) → (o : Option ℕ) → break_after s n ≡ o → option_or (hit_with n (break_after s n)) (last_below s n) ≡ Some h → IsLastBelow s (suc n) h
    by before None is f = last-later s n h is (before (sym (ap (λ (o : Option ℕ). option_or (hit_with n o) (last_below s n)) is) ∙ f))
    by before (Some number) is f =
        let same : record { count = n; number = number } ≡ h = same_Some (record { count = n; number = number }) h (sym (ap (λ (o : Option ℕ). option_or (hit_with n o) (last_below s n)) is) ∙ f) in
        subst (λ (x : Hit). IsLastBelow s (suc n) x) same (last-here s n number is)

last_below-none : (s : Session) (n m : ℕ) → last_below s n ≡ None → m < n → break_after s m ≡ None
last_below-none s zero m e less = absurd (omega (arith, less))
last_below-none s (suc n) m e less = by (λ f lower. last_below-none s n m f lower) (break_after s n) refl (sym (last_below-suc s n) ∙ e)
  where
    by : (last_below s n ≡ None → m < n → break_after s m ≡ None) → (o : Option ℕ) → break_after s n ≡ o → option_or (hit_with n (break_after s n)) (last_below s n) ≡ None → break_after s m ≡ None
    by before None is f = elim (cases_lt m n) [
      | inl lower ↦ before (sym (ap (λ (o : Option ℕ). option_or (hit_with n o) (last_below s n)) is) ∙ f) lower
      | inr above ↦ (let same : m ≡ n = omega (arith, above, less) in ap (break_after s) same ∙ is)
    ]
    by before (Some number) is f = absurd (none-some (record { count = n; number = number }) (sym f ∙ ap (λ (o : Option ℕ). option_or (hit_with n o) (last_below s n)) is))

-- the last hit stands too low
pub none-above : (s : Session) (least : ℕ) (h : Hit) → last_below s s.count ≡ Some h → h.count < least → HasNone s least
none-above s least h last low n above less = (last_below-some s s.count h last).past n (omega (arith, low, above)) less

-- there is none from a low count on
pub none-from : (s : Session) (least end : ℕ) → last_below s s.count ≡ last_below s end → end ≤ least → HasNone s least
none-from s least end same low = by (last_below s end) refl
  where
    by : (o : Option Hit) → last_below s end ≡ o → HasNone s least
    by None is n above less = last_below-none s s.count n (same ∙ is) less
    by (Some h) is n above less = (let below : h.count < end = (last_below-some s end h is).below in none-above s least h (same ∙ is) (omega (arith, below, low)) n above less)

-- the last hit of a part is the last of all, where none stands after that part
pub is_last-hit : (s : Session) (least end : ℕ) (h : Hit) → last_below s s.count ≡ last_below s end → last_below s end ≡ Some h → least ≤ h.count → IsLast s least (Some h)
is_last-hit s least end h same is within = (same ∙ is, within, (last_below-some s s.count h (same ∙ is)).below)

-- back to the last hit
pub back-hit : (old new : Session) (least : ℕ) (h : Hit) → IsLast old least (Some h) → new ≡ record old { count = h.count; reran = h.count % 1024 } → GoesBack old least (Some h.number) new
back-hit old new least h last is =
    let l : IsLastBelow old old.count h = last_below-some old old.count h last.0 in
    subst (λ (s : Session). GoesBack old least (Some h.number) s) (sym is) (record {
      within = last.1;
      past = l.past;
      here = λ k e. (l.below, l.here ∙ e);
      none = λ e. absurd (none-some h.number (sym e));
      rest = refl;
    })

-- back to the least count
pub back-none : (old new : Session) (least : ℕ) → HasNone old least → new ≡ record old { count = least; reran = least % 1024 } → GoesBack old least None new
back-none old new least none is =
    subst (λ (s : Session). GoesBack old least None s) (sym is) (record {
      within = omega arith;
      past = λ n above less. none n (omega (arith, above)) less;
      here = λ k e. absurd (none-some k e);
      none = λ _. (refl, none);
      rest = refl;
    })
