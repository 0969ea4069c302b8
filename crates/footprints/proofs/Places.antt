-- The walk by the places of the history: how many Enters came before each, and which footprint is an event's.
use Rattle.std.proofs.Common.{◌≡◌, ℕ, zero, suc, ◌+◌, ◌-◌, ◌<◌, ◌≤◌, ◌||◌, true, false, List, [], ◌∷◌, ◌++◌, length, take, get_or, sym, ap, subst, ◌∙◌, arith}
use Rattle.std.proofs.lemmas.List.{take_more}
use Rattle.kernel_model.specs.Entries.{Entry, is_among, meets}
use Rattle.kernel_model.specs.declared.carrier.Carrier.{Carrier}
use Rattle.kernel_model.specs.declared.event.Event.{Event}
use Rattle.footprints.specs.Footprints.{enter_count, enters_among, footprint_by, footprints_after}
use Rattle.footprints.specs.Kept.{no_footprint}
use Rattle.footprints.proofs.Logs.{enters_next, enters_grown, after_length, footprint_at}
use Rattle.footprints.proofs.Walking.{IsWalked, walked_first, walked_found, walked_past}

-- so many Enters are among the events up to a place and the one there
enters_more : (es : List Event) (i : ℕ) (d : Event) → i < length es → enters_among (take (i + 1) es) ≡ enters_among (take i es) + enter_count (get_or es i d)
enters_more es i d h = ap enters_among (take_more es i d h) ∙ enters_grown (take i es) (get_or es i d)

enters_within : (i : ℕ) (es : List Event) → enters_among (take i es) ≤ enters_among es
enters_within zero es = omega arith
enters_within (suc i) [] = omega arith
enters_within (suc i) (e ∷ es) = omega (arith, enters_next e (take i es), enters_next e es, enters_within i es)

-- the events from a place on are walked, and so many Enters come before that place
pub record IsBack (events : List Event) (kept : List Entry) (n place enters : ℕ) (want : List Carrier) (found : List ℕ) : Type 0 where
  pub walked : IsWalked (footprints_after 0 events kept) n place want found
  pub before : enters ≡ enters_among (take place events)

-- the footprint of the event at a place, before which come so many Enters
here_is : (events : List Event) (kept : List Entry) (i enters : ℕ) (d : Event) → i < length events → enters ≡ enters_among (take i events)
    → get_or (footprints_after 0 events kept) i no_footprint ≡ footprint_by (get_or events i d) (get_or kept enters no_footprint)
here_is events kept i enters d less before =
    let place : 0 + enters_among (take i events) ≡ enters = omega (arith, before) in
    footprint_at events 0 kept i d less ∙ ap (λ (j : ℕ). footprint_by (get_or events i d) (get_or kept j no_footprint)) place

pub first_back : (events : List Event) (kept : List Entry) (n enters : ℕ) (d : Event) (none want : List Carrier) (found : List ℕ) → 1 ≤ n → n ≤ length events
    → enters ≡ enters_among (take (n - 1) events) → none ≡ []
    → ((c : Carrier) → is_among c want ≡ (is_among c none || is_among c (footprint_by (get_or events (n - 1) d) (get_or kept enters no_footprint)).reads)) → found ≡ n ∷ []
    → IsBack events kept n (n - 1) enters want found
first_back events kept n enters d none want found some there before is_none adds is = record {
  walked = walked_first (footprints_after 0 events kept) n none want found some (omega (arith, there, after_length events 0 kept)) is_none
      (λ c. adds c ∙ ap (λ (e : Entry). is_among c none || is_among c e.reads) (sym (here_is events kept (n - 1) enters d (omega (arith, some, there)) before))) is;
  before = before;
}

-- one more event back, with so many Enters before it
module _ (events : List Event) (kept : List Entry) (n place later enters : ℕ) (d : Event) (want : List Carrier) (found : List ℕ) (some : 0 < place) (most : place ≤ n - 1)
    (there : n ≤ length events) (back : IsBack events kept n place later want found) (count : enters + enter_count (get_or events (place - 1) d) ≡ later) where
  one_back : place - 1 + 1 ≡ place
  one_back = omega (arith, some)

  less : place - 1 < length events
  less = omega (arith, some, most, there)

  before_it : enters ≡ enters_among (take (place - 1) events)
  before_it =
      let upto : enters_among (take (place - 1 + 1) events) ≡ later = ap (λ (i : ℕ). enters_among (take i events)) one_back ∙ sym back.before in
      omega (arith, upto, count, enters_more events (place - 1) d less)

  it_is : get_or (footprints_after 0 events kept) (place - 1) no_footprint ≡ footprint_by (get_or events (place - 1) d) (get_or kept enters no_footprint)
  it_is = here_is events kept (place - 1) enters d less before_it

  long : n ≤ length (footprints_after 0 events kept)
  long = omega (arith, there, after_length events 0 kept)

  walked_here : IsWalked (footprints_after 0 events kept) n (place - 1 + 1) want found
  walked_here = subst (λ (i : ℕ). IsWalked (footprints_after 0 events kept) n i want found) (sym one_back) back.walked

  pub found_back : (more : List Carrier) (longer : List ℕ) → meets (footprint_by (get_or events (place - 1) d) (get_or kept enters no_footprint)).writes want ≡ true
      → ((c : Carrier) → is_among c more ≡ (is_among c want || is_among c (footprint_by (get_or events (place - 1) d) (get_or kept enters no_footprint)).reads))
      → longer ≡ found ++ (place - 1 + 1) ∷ [] → IsBack events kept n (place - 1) enters more longer
  found_back more longer met adds is = record {
    walked = walked_found (footprints_after 0 events kept) n (place - 1) (omega (arith, some, most)) long want more found longer walked_here
        (ap (λ (e : Entry). meets e.writes want) it_is ∙ met)
        (λ c. adds c ∙ ap (λ (e : Entry). is_among c want || is_among c e.reads) (sym it_is)) is;
    before = before_it;
  }

  pub past_back : meets (footprint_by (get_or events (place - 1) d) (get_or kept enters no_footprint)).writes want ≡ false → IsBack events kept n (place - 1) enters want found
  past_back met = record {
    walked = walked_past (footprints_after 0 events kept) n (place - 1) (omega (arith, some, most)) long want found walked_here (ap (λ (e : Entry). meets e.writes want) it_is ∙ met);
    before = before_it;
  }
