-- What a debugger keeps, from call to call.
use Rattle.std.proofs.Common.{◌≡◌, ℕ, ◌+◌, ◌-◌, ◌*◌, ◌/◌, ◌^◌, ◌<◌, ◌≤◌, List, [], ◌∷◌, ◌++◌, length, get_or, refl, sym, ap, subst, ◌∙◌, arith}
use Rattle.std.specs.Prelude.{Option}
use Rattle.std.proofs.lemmas.List.{length_push, length-append, drop-append-le}
use Rattle.std.proofs.lemmas.Option.{slice_get_read}
use Rattle.slab.specs.Slab.{Slab, slab_len}
use Rattle.machine_model.specs.First.{first_state}
use Rattle.machine_model.specs.Images.{Program}
use Rattle.machine_model.specs.States.{State}
use Rattle.machine_model.specs.declared.reply.Reply.{Reply}
use Rattle.debugger.specs.Ways.{traced_at, Leads}
use Rattle.debugger.specs.Keeping.{IsAt, IsKept, AreKept, Keeps}
use Rattle.debugger.specs.declared.place.Place.{Place}
use Rattle.debugger.specs.Traces.{Traced, traced}
use Rattle.debugger.proofs.Along.{longer, reached-more}
use Rattle.debugger.proofs.Arriving.{is_at-first, is_at-leads, is_at-same, kept-first, kept-push}

-- at its first place
pub keeps-first : (p : Program) (rs : List Reply) (a b : Place) (kept : List Place) (breaks : Slab ℕ) → a.machine ≡ first_state p → a.taken ≡ 0 → b ≡ a → kept ≡ b ∷ [] → breaks.slots ≡ [] → 64 ≤ breaks.capacity → Keeps p rs a kept breaks
keeps-first p rs a b kept breaks first none same one empty room =
    let at : IsAt p rs a = is_at-first p rs a first none in
    let counts : a.machine.count ≡ 0 = ap (λ (s : State). s.count) first in
    let copy : b.machine.count ≡ 0 = ap (λ (c : Place). c.machine.count) same ∙ counts in
    let long : length kept ≡ 1 = ap length one in
    let mine : a.taken ≤ length rs = omega (arith, none) in
    let copied : b.taken ≡ a.taken = ap (λ (c : Place). c.taken) same in
    let set : slab_len breaks ≡ 0 = ap (λ (slots : List (Option ℕ)). slab_len (record breaks { slots = slots })) empty in
    record {
      there = at;
      are_kept = subst (λ (places : List Place). AreKept p rs places) (sym one) (kept-first p rs b copy (is_at-same p rs a b same at) (omega (arith, mine, copied)));
      enough = omega (arith, counts, long);
      few = omega (arith, long);
      budget = omega (arith, counts);
      set = omega (arith, set);
      room = room;
      bound = mine;
    }

-- at another place that some place leads to
pub keeps-at : (p : Program) (rs : List Reply) (a b : Place) (kept : List Place) (breaks : Slab ℕ) → Keeps p rs a kept breaks → IsAt p rs b → b.machine.count < 1024 * length kept → b.machine.count ≤ 2 ^ 40 → b.taken ≤ length rs → Keeps p rs b kept breaks
keeps-at p rs a b kept breaks k at enough budget bound =
    record { there = at; are_kept = k.are_kept; enough = enough; few = k.few; budget = budget; set = k.set; room = k.room; bound = bound }

-- with one more that is kept
pub keeps-push : (p : Program) (rs : List Reply) (a b copy : Place) (kept more : List Place) (breaks : Slab ℕ) → Keeps p rs a kept breaks → Leads 1 (traced_at rs a) (traced_at rs b) → copy ≡ b → more ≡ kept ++ copy ∷ [] → a.machine.count + 1 ≡ 1024 * length kept → a.machine.count < 2 ^ 40 → b.taken ≤ length rs → Keeps p rs b more breaks
keeps-push p rs a b copy kept more breaks k leads same one last budget bound =
    let at : IsAt p rs b = is_at-leads p rs a b 1 k.there leads in
    let counts : b.machine.count ≡ a.machine.count + 1 = leads.counts in
    let copied : copy.machine.count ≡ b.machine.count = ap (λ (c : Place). c.machine.count) same in
    let took : copy.taken ≤ length rs = subst (λ (c : Place). c.taken ≤ length rs) (sym same) bound in
    let long : length more ≡ length kept + 1 = ap length one ∙ length_push kept copy in
    record {
      there = at;
      are_kept = subst (λ (places : List Place). AreKept p rs places) (sym one) (kept-push p rs kept copy k.are_kept (omega arith) (is_at-same p rs b copy same at) took);
      enough = omega arith;
      few = omega arith;
      budget = omega arith;
      set = k.set;
      room = k.room;
      bound = bound;
    }

-- the place that is kept at the greatest count not above another
pub kept-found : (p : Program) (rs : List Reply) (a : Place) (kept : List Place) (breaks : Slab ℕ) (n : ℕ) (q b : Place) → Keeps p rs a kept breaks → n ≤ a.machine.count → q ≡ get_or kept (n / 1024) q → b ≡ q → IsKept p rs (n / 1024) b
kept-found p rs a kept breaks n q b k small at same =
    let enough : a.machine.count < 1024 * length kept = k.enough in
    let below : n / 1024 < length kept = omega arith in
    let found = k.are_kept (n / 1024) q (slice_get_read kept (length kept) (n / 1024) q refl below at) in
    subst (λ (c : Place). IsKept p rs (n / 1024) c) (sym same) found

-- from there it comes to that count
pub kept-back : (p : Program) (rs : List Reply) (a b d : Place) (kept : List Place) (breaks : Slab ℕ) (n : ℕ) → Keeps p rs a kept breaks → n ≤ a.machine.count → IsKept p rs (n / 1024) b → Leads (n - b.machine.count) (traced_at rs b) (traced_at rs d)
    → (b.taken ≤ length rs → d.taken ≤ length rs) → (d.machine.count ≡ n) × Keeps p rs d kept breaks
kept-back p rs a b d kept breaks n k small from leads bound =
    let counts : b.machine.count ≡ 1024 * (n / 1024) = from.counts in
    let back : d.machine.count ≡ b.machine.count + (n - b.machine.count) = leads.counts in
    let enough : a.machine.count < 1024 * length kept = k.enough in
    let budget : a.machine.count ≤ 2 ^ 40 = k.budget in
    (omega arith, keeps-at p rs a d kept breaks k (is_at-leads p rs b d (n - b.machine.count) from.there leads) (omega arith) (omega arith) (bound from.bound))

-- a place stays where the trace grows
pub is_at-more : (p : Program) (rs more : List Reply) (a : Place) → IsAt p rs a → a.taken ≤ length rs → IsAt p (rs ++ more) a
is_at-more p rs more a at few =
    reached-more p rs more a.machine.count refl (ap (λ (t : Traced). t.state.count) at)
    ∙ ap (λ (t : Traced). longer t more) at
    ∙ ap (λ (left : List Reply). traced a.machine left) (sym (drop-append-le a.taken rs more few))

-- and so does all that is kept
pub keeps-more : (p : Program) (rs more all : List Reply) (a : Place) (kept : List Place) (breaks : Slab ℕ) → all ≡ rs ++ more → Keeps p rs a kept breaks → Keeps p all a kept breaks
keeps-more p rs more all a kept breaks grown k = subst (λ (trace : List Reply). Keeps p trace a kept breaks) (sym grown) (record {
  there = is_at-more p rs more a k.there k.bound;
  are_kept = λ i b e. (let was : IsKept p rs i b = k.are_kept i b e in record { counts = was.counts; there = is_at-more p rs more b was.there was.bound; bound = longer-bound b was.bound });
  enough = k.enough;
  few = k.few;
  budget = k.budget;
  set = k.set;
  room = k.room;
  bound = longer-bound a k.bound;
})
  where
    longer-bound : (b : Place) → b.taken ≤ length rs → b.taken ≤ length (rs ++ more)
    longer-bound b few = let size : length (rs ++ more) ≡ length rs + length more = length-append rs more in omega arith
