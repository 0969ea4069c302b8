-- What a process was handed only grows at its end, and so its trace does.
use Rattle.std.proofs.Common.{append-nil, subst, ◌≡◌, ℕ, zero, suc, ◌<◌, ◌≤◌, Bool, true, false, if◌then◌else◌, List, [], ◌∷◌, ◌++◌, length, drop, slice_get, Option, Some, None, is_some, refl, sym, ap, ◌∙◌, append_assoc, arith}
use Rattle.kernel_model.specs.Answers.{Kernel, now, committed, process_of, with_events}
use Rattle.kernel_model.specs.Entries.{Entry, Item, Got, End}
use Rattle.kernel_model.specs.Paths.{is_durable}
use Rattle.kernel_model.specs.Shown.{Given, end_in, given_by, handed, items_for, told, prefix, released, replies_in}
use Rattle.kernel_model.specs.State.{SyncState, Process, process_at}
use Rattle.kernel_model.specs.Steps.{step, zero_reply}
use Rattle.kernel_model.specs.Views.{contents}
use Rattle.kernel_model.specs.World.{World, first_world, happens, after}
use Rattle.kernel_model.specs.declared.event.Event.{Event}
use Rattle.machine_model.specs.declared.reply.Reply.{Reply}
use Rattle.kernel_model.proofs.Paths.{durable_from, durable_to}
use Rattle.kernel_model.proofs.Runs.{after-after, history-with_events, told-entry}
use Rattle.kernel_laws.proofs.Children.{step_not_made}
use Rattle.kernel_laws.proofs.Others.{step_length}
use Rattle.recorder.specs.Recording.{Grows, HasNone, Lengthens, Recording}
use Rattle.recorder.proofs.Growing.{boot-with_events}

-- ---- a process that is there stays
some_of : {A : Type 0} (o : Option A) → is_some o ≡ true → (x : A) × (o ≡ Some x)
some_of None h = absurd (let no : ⊥ = cc in no)
some_of (Some x) h = (x, refl)

get_there : (xs ys : List Process) (i : ℕ) → length xs ≤ length ys → is_some (slice_get xs i) ≡ true → is_some (slice_get ys i) ≡ true
get_there [] ys i le h = absurd (let no : ⊥ = cc in no)
get_there (x ∷ xs) [] i le h = absurd (omega (arith, le))
get_there (x ∷ xs) (y ∷ ys) zero le h = refl
get_there (x ∷ xs) (y ∷ ys) (suc i) le h = get_there xs ys i (omega (arith, le)) h

at_there : (xs ys : List Process) (p : ℕ) → length xs ≤ length ys → is_some (process_at xs p) ≡ true → is_some (process_at ys p) ≡ true
at_there xs ys zero le h = h
at_there xs ys (suc i) le h = get_there xs ys i le h

stays : (s : SyncState) (p : ℕ) (e : Event) → is_some (process_at s.processes p) ≡ true → is_some (process_at (step s e).state.processes p) ≡ true
stays s p e h = let all = step_length s e in at_there s.processes (step s e).state.processes p (omega (arith, all)) h

-- ---- what it was told comes first
told_one : (w : World) (p : ℕ) (e : Event) → is_some (process_at w.sync.processes p) ≡ true
    → told p (happens w e).log ≡ told p w.log ++ given_by w.log (step w.sync e).entry (items_for p (step w.sync e).entry)
told_one w p e there =
    let entry : Entry = (step w.sync e).entry in
    let y = some_of (process_at w.sync.processes p) there in
    told-entry p w.log entry
    ∙ ap (λ (b : Bool). if b then told entry.process w.log ++ given_by w.log entry (Got zero_reply ∷ []) else told p w.log ++ given_by w.log entry (items_for p entry))
    (step_not_made w.sync p y.0 e y.1)

told_grows : (es : List Event) (w : World) (p : ℕ) → is_some (process_at w.sync.processes p) ≡ true
    → (more : List (Given Item)) × (told p (after w es).log ≡ told p w.log ++ more)
told_grows [] w p there = ([], sym (append-nil (told p w.log)))
told_grows (e ∷ es) w p there =
    let entry : Entry = (step w.sync e).entry in
    let given : List (Given Item) = given_by w.log entry (items_for p entry) in
    let rest = told_grows es (happens w e) p (stays w.sync p e there) in (
      given ++ rest.0,
      rest.1
          ∙ ap (λ (xs : List (Given Item)). xs ++ rest.0) (told_one w p e there)
          ∙ append_assoc (told p w.log) given rest.0,
    )

-- ---- what was handed out comes first
durable_more : (c d : ℕ) (past : List Entry) (e : Entry) → c ≤ d → is_durable c past e ≡ true → is_durable d past e ≡ true
durable_more c d past e le h = durable_to d 0 past e (λ k rests. let below : k < c = durable_from c 0 past e h k rests in omega (arith, le, below))

released_grows : {A : Type 0} (c d : ℕ) → c ≤ d → (xs ys : List (Given A)) → (more : List A) × (released d (xs ++ ys) ≡ released c xs ++ more)
released_grows c d le [] ys = (released d ys, refl)
released_grows {A} c d le (x ∷ xs) ys = elim (is_durable c x.past x.entry) as (λ b. is_durable c x.past x.entry ≡ b
    → (more : List A) × (released d (x ∷ (xs ++ ys)) ≡ contents (if b then x ∷ prefix (λ y. is_durable c y.past y.entry) xs else []) ++ more)) [
      | true ↦ λ h. let rest = released_grows c d le xs ys in (
        rest.0,
        ap (λ (b : Bool). contents (if b then x ∷ prefix (λ y. is_durable d y.past y.entry) (xs ++ ys) else [])) (durable_more c d x.past x.entry le h)
            ∙ ap (λ zs. x.what ∷ zs) rest.1,
      )
      | false ↦ λ h. (released d (x ∷ (xs ++ ys)), refl)
    ] refl

replies_in-append : (xs ys : List Item) → replies_in (xs ++ ys) ≡ replies_in xs ++ replies_in ys
replies_in-append [] ys = refl
replies_in-append (Got r ∷ xs) ys = ap (λ rs. r ∷ rs) (replies_in-append xs ys)
replies_in-append (End status ∷ xs) ys = replies_in-append xs ys

-- ---- cores
-- one core comes from another by events
same_run : (j k : Kernel) → j.boot ≡ k.boot → j.history ≡ k.history → now j ≡ now k
same_run j k boot history = ap (λ b. after (first_world b) j.history) boot ∙ ap (λ (es : List Event). after (first_world k.boot) es) history

grown_run : (old new : Kernel) (g : Grows old new) → now new ≡ now (with_events old g.more)
grown_run old new g = same_run new (with_events old g.more) (g.boot ∙ sym (boot-with_events old g.more)) (g.history ∙ sym (history-with_events old g.more))

run_more : (old new : Kernel) (g : Grows old new) → now new ≡ after (now old) g.more
run_more old new g =
    ap (λ b. after (first_world b) new.history) g.boot ∙ ap (λ (es : List Event). after (first_world old.boot) es) g.history
    ∙ after-after (first_world old.boot) old.history g.more

-- so what it was handed begins as before
hands : ((k : Kernel) (es : List Event) → committed (now k) ≤ committed (now (with_events k es)))
    → (old new : Kernel) (p : ℕ) → Grows old new → is_some (process_of old p) ≡ true
    → (more : List Item) × (handed (now new) p ≡ handed (now old) p ++ more)
hands never_falls old new p g there =
    let same : committed (now new) ≡ committed (now (with_events old g.more)) = ap committed (grown_run old new g) in
    let rises : committed (now old) ≤ committed (now (with_events old g.more)) = never_falls old g.more in
    let le : committed (now old) ≤ committed (now new) = omega (arith, same, rises) in
    let t = told_grows g.more (now old) p there in
    let r = released_grows (committed (now old)) (committed (now new)) le (told p (now old).log) t.0 in (
      r.0,
      ap (λ (w : World). released (committed (now new)) (told p w.log)) (run_more old new g)
          ∙ ap (λ (xs : List (Given Item)). released (committed (now new)) xs) t.1
          ∙ r.1,
    )

-- and its trace
pub lengthens : ((k : Kernel) (es : List Event) → committed (now k) ≤ committed (now (with_events k es)))
    → (old new : Kernel) (p : ℕ) → Grows old new → Lengthens old new p
lengthens never_falls old new p g there =
    let h = hands never_falls old new p g there in (
      replies_in h.0,
      ap (λ (xs : List Item). replies_in xs) h.1 ∙ replies_in-append (handed (now old) p) h.0,
    )

-- ---- what was there before
stay : (es : List Event) (w : World) (p : ℕ) → is_some (process_at w.sync.processes p) ≡ true → is_some (process_at (after w es).sync.processes p) ≡ true
stay [] w p there = there
stay (e ∷ es) w p there = stay es (happens w e) p (stays w.sync p e there)

drop-less : (n : ℕ) (xs ys : List Reply) → drop n (xs ++ ys) ≡ [] → drop n xs ≡ []
drop-less zero [] ys none = refl
drop-less zero (x ∷ xs) ys none = absurd (let no : ⊥ = cc in no)
drop-less (suc n) [] ys none = refl
drop-less (suc n) (x ∷ xs) ys none = drop-less n xs ys none

end-less : (xs ys : List Item) → end_in (xs ++ ys) ≡ None → end_in xs ≡ None
end-less [] ys none = refl
end-less (Got r ∷ xs) ys none = end-less xs ys none
end-less (End status ∷ xs) ys none = absurd (let no : ⊥ = cc in no)

-- the same process with as many replies taken has nothing in the one core, where it has nothing in the other
none-before : ((k : Kernel) (es : List Event) → committed (now k) ≤ committed (now (with_events k es)))
    → (old new : Kernel) (p taken : ℕ) → Grows old new
    → HasNone (record { kernel = new; process = p; taken = taken }) → HasNone (record { kernel = old; process = p; taken = taken })
none-before never_falls old new p taken g none there =
    let h = hands never_falls old new p g there in
    let now_there : is_some (process_of new p) ≡ true =
    ap (λ (w : World). is_some (process_at w.sync.processes p)) (run_more old new g) ∙ stay g.more (now old) p there in
    let last = none now_there in
    let trace : replies_in (handed (now new) p) ≡ replies_in (handed (now old) p) ++ replies_in h.0 =
    ap (λ (xs : List Item). replies_in xs) h.1 ∙ replies_in-append (handed (now old) p) h.0 in (
      drop-less taken (replies_in (handed (now old) p)) (replies_in h.0) (sym (ap (λ (rs : List Reply). drop taken rs) trace) ∙ last.0),
      end-less (handed (now old) p) h.0 (sym (ap (λ (xs : List Item). end_in xs) h.1) ∙ last.1),
    )

pub had-none : ((k : Kernel) (es : List Event) → committed (now k) ≤ committed (now (with_events k es)))
    → (old new : Recording) → Grows old.kernel new.kernel → new.process ≡ old.process → new.taken ≡ old.taken → HasNone new → HasNone old
had-none never_falls old new g process taken none =
    none-before never_falls old.kernel new.kernel old.process old.taken g
    (subst (λ (n : ℕ). HasNone (record { kernel = new.kernel; process = old.process; taken = n })) taken
    (subst (λ (p : ℕ). HasNone (record { kernel = new.kernel; process = p; taken = new.taken })) process none))
