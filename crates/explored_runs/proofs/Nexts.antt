-- What is answered of runs are calls.
use Rattle.std.proofs.Common.{arith, ◌≡◌, ◌⊎◌, ◌∙◌, ◌++◌, ◌∷◌, [], ◌==◌, ◌<◌, ◌≤◌, ℕ, zero, suc, List, Bool, true, false, length, append-nil, refl, sym, ap, subst, inl, inr}
use Rattle.std.specs.Prelude.{if◌then◌else◌}
use Rattle.std.specs.Global.{Vec}
use Rattle.std.specs.List.{Contains}
use Rattle.std.proofs.lemmas.Bool.{cases_lt, eq-eqb, false≢true, ne_eqb}
use Rattle.std.proofs.lemmas.List.{map-append}
use Rattle.std.proofs.lemmas.List.Elements.{Contains-append_left, Contains-append_right, Contains-append_cases, Contains-push}
use Rattle.kernel_model.specs.Limits.{AreNumbered}
use Rattle.order_laws.specs.Moves.{Seen, calls}
use Rattle.order_laws.specs.Orders.{IsOver}
use Rattle.order_laws.specs.Privacy.{IsPrivate}
use Rattle.order_laws.proofs.Calls.{calls_commute}
use Rattle.order_laws.proofs.Choosing.{reached-append}
use Rattle.state_search.specs.Searches.{Answer}
use Rattle.state_search.specs.declared.moves.Found.{Found}
use Rattle.state_search.specs.declared.moves.Reached.{Reached}
use Rattle.explored_runs.specs.Answering.{AreAnswered, AreNext, Expands, IsCopyOf, IsTried, boot_in, seen_in_runs, seen_of_run, ways, with_each, working}
use Rattle.explored_runs.specs.CallSearches.{AnswersCalls, AreCalls, IsAnswered}
use Rattle.replayed_runs.specs.Replays.{seen_after_calls, seen_of}
use Rattle.replayed_runs.specs.declared.replay.Replay.{Replay}
use Rattle.explored_runs.specs.declared.runs.Runs.{Runs}
use Rattle.explored_runs.specs.declared.runs.Tried.{Tried}
use Rattle.explored_runs.proofs.Joining.{made, mapped, only}
use Rattle.replayed_runs.proofs.Owning.{works_there}

module _ (n : ℕ) (s : Seen) where
  abbrev pub works : ℕ → Bool
  works p = (calls n).works ((calls n).label s p)

  -- one more process, whose call does something or not
  pub working_more : (k : ℕ) → works (suc k) ≡ true → working n s (suc k) ≡ working n s k ++ suc k ∷ []
  working_more k is = ap (λ (b : Bool). working n s k ++ (if b then suc k ∷ [] else [])) is

  pub working_still : (k : ℕ) → works (suc k) ≡ false → working n s (suc k) ≡ working n s k ++ []
  working_still k is = ap (λ (b : Bool). working n s k ++ (if b then suc k ∷ [] else [])) is

  -- each process whose call does something is among them
  is_working : (k p : ℕ) → p < k → works (suc p) ≡ true → Contains (working n s k) (suc p)
  is_working zero p below is = absurd (let no : ⊥ = omega (arith, below) in no)
  is_working (suc k) p below is = by (is_working k p) (cases_lt p k)
    where
      by : (p < k → works (suc p) ≡ true → Contains (working n s k) (suc p)) → (p < k) ⊎ (k ≤ p) → Contains (working n s (suc k)) (suc p)
      by before (inl lower) = Contains-append_left (working n s k) (if works (suc k) then suc k ∷ [] else []) (suc p) (before lower is)
      by before (inr high) = let same : k ≡ p = omega (arith, high, below) in subst (λ q. Contains (working n s (suc k)) (suc q)) same
          (subst (λ (ps : List ℕ). Contains ps (suc k)) (sym (working_more k (subst (λ q. works (suc q) ≡ true) (sym same) is))) (Contains-push (working n s k) (suc k)))

  pub all_working : (p : ℕ) → works p ≡ true → Contains (working n s (length s.sync.processes)) p
  all_working zero is = absurd (false≢true is)
  all_working (suc p) is = let there = works_there s.sync (suc p) is in is_working (length s.sync.processes) p (omega (arith, there)) is

  -- after the last one that may work none does
  pub none_after : (last k : ℕ) → last ≤ k → ((p : ℕ) → last < p → works p ≡ false) → working n s k ≡ working n s last
  none_after last zero high idle = ap (λ j. working n s j) (let same : zero ≡ last = omega (arith, high) in same)
  none_after last (suc k) high idle = by (none_after last k) (cases_lt last (suc k))
    where
      by : (last ≤ k → ((p : ℕ) → last < p → works p ≡ false) → working n s k ≡ working n s last) → (last < suc k) ⊎ (suc k ≤ last) → working n s (suc k) ≡ working n s last
      by before (inl lower) = working_still k (idle (suc k) lower) ∙ append-nil (working n s k) ∙ before (omega (arith, lower)) idle
      by before (inr same) = ap (λ j. working n s j) (let is : suc k ≡ last = omega (arith, same, high) in is)

  -- where none works, it is over
  pub all_idle : ((p : ℕ) → 0 < p → works p ≡ false) → IsOver (calls n) s
  all_idle idle zero = refl
  all_idle idle (suc p) = idle (suc p) (omega arith)

  -- where none of them can be made, it is over
  pub is_over : working n s (length s.sync.processes) ≡ [] → IsOver (calls n) s
  is_over none p = by (works p) refl
    where
      by : (b : Bool) → works p ≡ b → works p ≡ false
      by false is = is
      by true is = absurd (let within = (subst (λ (ps : List ℕ). Contains ps p) none (all_working p is)).1 in let no : ⊥ = omega (arith, within) in no)

-- what was tried in a copy of a run was tried in the run
pub tried_in : (n : ℕ) (x y : Replay) (ps : List ℕ) (p : ℕ) (t : Tried) → x.limit ≡ n → IsCopyOf x y → IsTried y.limit (seen_of y.core) ps p t
    → IsTried n (seen_of x.core) ps p t
tried_in n x y ps p t limit copy is =
    subst (λ m. IsTried m (seen_of x.core) ps p t) (copy.limit ∙ limit) (subst (λ (s : Seen). IsTried y.limit s ps p t) copy.seen is)

module _ (n : ℕ) (s : Seen) (ps : List ℕ) (rs : List (Reached (Vec ℕ))) (k : ℕ) (asked : ways rs ≡ with_each ps (working n s k)) where
  -- one more process was asked, and its call does nothing
  idle_next : works n s (suc k) ≡ false → ways rs ≡ with_each ps (working n s (suc k))
  idle_next is = asked ∙ sym (ap (λ (qs : List ℕ). with_each ps qs) (working_still n s k is ∙ append-nil (working n s k)))

  pub asked_idle : (p : ℕ) → p ≡ suc k → works n s p ≡ false → ways rs ≡ with_each ps (working n s p)
  asked_idle p same is = subst (λ q. ways rs ≡ with_each ps (working n s q)) (sym same) (idle_next (subst (λ q. works n s q ≡ false) same is))

  -- or something
  made_next : (x : Reached (Vec ℕ)) → works n s (suc k) ≡ true → x.state.items ≡ ps ++ suc k ∷ [] → ways (rs ++ x ∷ []) ≡ with_each ps (working n s (suc k))
  made_next x is way =
      map-append (λ (y : Reached (Vec ℕ)). y.state.items) rs (x ∷ [])
      ∙ ap (λ (ws : List (List ℕ)). ws ++ x.state.items ∷ []) asked
      ∙ ap (λ (w : List ℕ). with_each ps (working n s k) ++ w ∷ []) way
      ∙ sym (map-append (λ q. ps ++ q ∷ []) (working n s k) (suc k ∷ []))
      ∙ sym (ap (λ (qs : List ℕ). with_each ps qs) (working_more n s k is))

  pub asked_made : (p : ℕ) → p ≡ suc k → (x : Reached (Vec ℕ)) → works n s p ≡ true → x.state.items ≡ ps ++ p ∷ [] → ways (rs ++ x ∷ []) ≡ with_each ps (working n s p)
  asked_made p same x is way =
      subst (λ q. ways (rs ++ x ∷ []) ≡ with_each ps (working n s q)) (sym same)
      (made_next x (subst (λ q. works n s q ≡ true) same is) (subst (λ q. x.state.items ≡ ps ++ q ∷ []) same way))

-- a list of so many elements is empty where these are none, and else not
pub empty_of : {X : Type 0} (xs : List X) (n : ℕ) → n ≡ length xs → (n == 0) ≡ true → xs ≡ []
empty_of [] n size is = refl
empty_of (x ∷ xs) n size is = absurd (false≢true (sym (ne_eqb n 0 (λ none. let no : ⊥ = omega (arith, size, none) in no)) ∙ is))

pub not_empty : {X : Type 0} (xs : List X) (n : ℕ) → n ≡ length xs → (n == 0) ≡ false → xs ≡ [] → ⊥
not_empty {X = X} xs n size is none = false≢true (sym is ∙ eq-eqb n 0 (size ∙ ap (λ (ys : List X). length ys) none))

-- nor is one where an element was put to others
pub more_not_empty : {X : Type 0} (xs : List X) (x : X) → xs ++ x ∷ [] ≡ [] → ⊥
more_not_empty [] x none = cc
more_not_empty (y ∷ xs) x none = cc

-- where no run was answered, no call does anything
pub none_asked : (n : ℕ) (s : Seen) (ps : List ℕ) (rs : List (Reached (Vec ℕ))) → ways rs ≡ with_each ps (working n s (length s.sync.processes)) → rs ≡ []
    → IsOver (calls n) s
none_asked n s ps rs asked none = is_over n s (no_map (working n s (length s.sync.processes)) (sym asked ∙ ap ways none))
  where
    no_map : (qs : List ℕ) → with_each ps qs ≡ [] → qs ≡ []
    no_map [] is = refl
    no_map (q ∷ qs) is = absurd cc

-- ---- a level that was answered was answered with calls
module _ (r : Runs) where
  abbrev n : ℕ
  n = r.instructions

  abbrev seen : Vec ℕ → Seen
  seen = seen_in_runs r

  abbrev way : Reached (Vec ℕ) → List ℕ
  way x = x.state.items

  -- one that was answered with these calls stands for what they come to
  stands_for : (f : Found (Vec ℕ)) (p : ℕ) (x : Reached (Vec ℕ)) → way x ≡ f.state.items ++ p ∷ [] → seen x.state ≡ (calls n).go (seen f.state) p
  stands_for f p x is =
      ap (λ (ps : List ℕ). seen_after_calls n (boot_in r) ps) is
      ∙ reached-append (calls n) (λ (s : Seen). AreNumbered s.sync.files) (calls_commute n) f.state.items (p ∷ []) (seen_after_calls n (boot_in r) [])

  -- one of these was answered for this process
  answered_for : (f : Found (Vec ℕ)) (own : List (Reached (Vec ℕ))) (qs : List ℕ) → ways own ≡ with_each f.state.items qs → (p : ℕ) → Contains qs p
      → IsAnswered seen own ((calls n).go (seen f.state) p)
  answered_for f own qs are p is =
      let there = subst (λ (w : List (List ℕ)). Contains w (f.state.items ++ p ∷ [])) (sym are) (mapped (λ q. f.state.items ++ q ∷ []) qs p is) in
      let one = made way own (f.state.items ++ p ∷ []) there in
      (one.0, one.1, stands_for f p one.0 one.2)

  abbrev Goes : Found (Vec ℕ) → List (Reached (Vec ℕ)) → Type 0
  Goes f next = ((p : ℕ) × IsPrivate (seen f.state) p × IsAnswered seen next ((calls n).go (seen f.state) p))
      ⊎ ((p : ℕ) → (calls n).works ((calls n).label (seen f.state) p) ≡ true → IsAnswered seen next ((calls n).go (seen f.state) p))

  goes : (f : Found (Vec ℕ)) (own : List (Reached (Vec ℕ))) → AreNext n (seen f.state) f.state.items own → Goes f own
  goes f own (inl one) = inl (one.0, one.1, answered_for f own (one.0 ∷ []) one.2 one.0 (Contains-push [] one.0))
  goes f own (inr each) = inr (λ p works. answered_for f own (working n (seen f.state) (length (seen f.state).sync.processes)) each p (all_working n (seen f.state) p works))

  -- and so where more was answered
  more_goes : (f : Found (Vec ℕ)) (own next : List (Reached (Vec ℕ))) → ((x : Reached (Vec ℕ)) → Contains own x → Contains next x) → Goes f own → Goes f next
  more_goes f own next among (inl one) = inl (one.0, one.1, (one.2.0, among one.2.0 one.2.1, one.2.2))
  more_goes f own next among (inr each) = inr (λ p works. let it = each p works in (it.0, among it.0 it.1, it.2))

  are_calls : (level : List (Found (Vec ℕ))) (next : List (Reached (Vec ℕ))) → AreAnswered r level next → AreCalls n seen level next
  are_calls [] next are f is = absurd (let within = is.1 in let no : ⊥ = omega (arith, within) in no)
  are_calls (g ∷ fs) next are f is =
      let own = are.0 in
      let rest = are.1 in
      let joined : next ≡ own ++ rest = are.4 in
      by own rest joined are.2 (are_calls fs rest are.5) (Contains-append_cases (g ∷ []) fs f is)
    where
      by : (own rest : List (Reached (Vec ℕ))) → next ≡ own ++ rest → AreNext n (seen g.state) g.state.items own → AreCalls n seen fs rest
          → Contains (g ∷ []) f ⊎ Contains fs f → Goes f next
      by own rest joined first later (inr there) = more_goes f rest next
          (λ x among. subst (λ (xs : List (Reached (Vec ℕ))). Contains xs x) (sym joined) (Contains-append_right own rest x among)) (later f there)
      by own rest joined first later (inl here) = more_goes f own next
          (λ x among. subst (λ (xs : List (Reached (Vec ℕ))). Contains xs x) (sym joined) (Contains-append_left own rest x among))
          (subst (λ (h : Found (Vec ℕ)). Goes h own) (only g f here) (goes g own first))

  -- so what was answered for a search of runs is of the calls of their boot
  pub answers_calls : (first : Reached (Vec ℕ)) (answers : List (Answer (Vec ℕ))) → first.state.items ≡ []
      → ((a : Answer (Vec ℕ)) → Contains answers a → Expands r a.level a.next a.is_whole) → AnswersCalls n (boot_in r) seen first answers
  answers_calls first answers none are = record {
    begins = ap (λ (ps : List ℕ). seen_of_run r ps) none;
    each = λ a is. are_calls a.level a.next (are a is).0;
    stand = λ a is. (are a is).1;
  }
