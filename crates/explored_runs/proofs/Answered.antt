-- A level is answered piece by piece.
use Rattle.std.proofs.Common.{arith, ◌≡◌, ◌∙◌, ◌++◌, ◌∷◌, [], ◌+◌, ◌<◌, ◌&&◌, ℕ, zero, suc, Bool, true, List, length, take, get_or, append-nil, refl, sym, ap, subst, inl, inr}
use Rattle.std.proofs.Math.Seq.{take-suc}
use Rattle.std.specs.Global.{Vec}
use Rattle.std.proofs.lemmas.Bool.{and_parts}
use Rattle.std.proofs.lemmas.List.{append_assoc, map-append}
use Rattle.std.proofs.lemmas.List.Elements.{Contains-append_cases}
use Rattle.order_laws.specs.Moves.{Seen, calls}
use Rattle.order_laws.specs.Orders.{IsOver}
use Rattle.order_laws.specs.Outcomes.{AllStand, Stand}
use Rattle.order_laws.specs.Searches.{FoundState}
use Rattle.state_search.specs.declared.moves.Found.{Found}
use Rattle.state_search.specs.declared.moves.Reached.{Reached}
use Rattle.explored_runs.specs.Answering.{AreAfter, AreAnswered, AreNext, Expands, IsAfter, IsNext, all_stand, reached_by_next, reached_in, seen_in_runs, with_each, working}
use Rattle.explored_runs.specs.CallSearches.{seen_in, state_in}
use Rattle.explored_runs.specs.declared.runs.After.{After}
use Rattle.explored_runs.specs.declared.runs.Next.{Next}
use Rattle.explored_runs.specs.declared.runs.Next.TheVariants.{More, Over}
use Rattle.explored_runs.specs.declared.runs.Runs.{Runs}
use Rattle.explored_runs.proofs.Joining.{only}
use Rattle.explored_runs.proofs.Nexts.{working_still}

-- where it is over no call does anything
none_working : (n : ℕ) (s : Seen) (k : ℕ) → IsOver (calls n) s → working n s k ≡ []
none_working n s zero over = refl
none_working n s (suc k) over = working_still n s k (over (suc k)) ∙ append-nil (working n s k) ∙ none_working n s k over

next_of : (n : ℕ) (s : Seen) (ps : List ℕ) (x : Next) → IsNext n s ps x → AreNext n s ps (reached_by_next x)
next_of n s ps (More rs) is = is.0
next_of n s ps (Over o) is = inr (sym (ap (λ (qs : List ℕ). with_each ps qs) (none_working n s (length s.sync.processes) is.0)))

-- where each process stands in these states, and in those, it does so in all
stand_in_both : (fs gs : List (FoundState Seen)) → AllStand fs → AllStand gs → AllStand (fs ++ gs)
stand_in_both fs gs one other f is = elim (Contains-append_cases fs gs f is) as (λ _. Stand f.state) [ inl here ↦ one f here | inr there ↦ other f there ]

module _ (r : Runs) where
  -- one more state
  pub one_more : (fs : List (Found (Vec ℕ))) (xs : List After) (f : Found (Vec ℕ)) (a : After) → AreAfter r fs xs → IsAfter r f.state.items a
      → AreAfter r (fs ++ f ∷ []) (xs ++ a ∷ [])
  one_more [] [] f a all next = (next, tt)
  one_more [] (b ∷ xs) f a all next = absurd all
  one_more (g ∷ fs) [] f a all next = absurd all
  one_more (g ∷ fs) (b ∷ xs) f a all next = (all.0, one_more fs xs f a all.1 next)

  -- two pieces
  pub together : (fs gs : List (Found (Vec ℕ))) (xs ys : List After) → AreAfter r fs xs → AreAfter r gs ys → AreAfter r (fs ++ gs) (xs ++ ys)
  together [] gs [] ys all more = more
  together [] gs (b ∷ xs) ys all more = absurd all
  together (g ∷ fs) gs [] ys all more = absurd all
  together (g ∷ fs) gs (b ∷ xs) ys all more = (all.0, together fs gs xs ys all.1 more)

  -- what came after them
  answered : (fs : List (Found (Vec ℕ))) (xs : List After) → AreAfter r fs xs → AreAnswered r fs (reached_in xs)
  answered [] [] all = refl
  answered [] (b ∷ xs) all = absurd all
  answered (f ∷ fs) [] all = absurd all
  answered (f ∷ fs) (a ∷ xs) all = (
    reached_by_next a.next,
    reached_in xs,
    next_of r.instructions (seen_in_runs r f.state) f.state.items a.next all.0.next,
    all.0.keys,
    refl,
    answered fs xs all.1,
  )

  -- each process stands in all these states, if each says so
  stand : (fs : List (Found (Vec ℕ))) (xs : List After) → AreAfter r fs xs → all_stand xs ≡ true → AllStand (seen_in (seen_in_runs r) fs)
  stand [] xs all is = λ g among. absurd (let within = among.1 in let no : ⊥ = omega (arith, within) in no)
  stand (f ∷ fs) [] all is = absurd all
  stand (f ∷ fs) (a ∷ xs) all is =
      let both = and_parts a.stands (all_stand xs) is in
      stand_in_both (state_in (seen_in_runs r) f ∷ []) (seen_in (seen_in_runs r) fs)
      (λ g among. subst (λ (h : FoundState Seen). Stand h.state) (only (state_in (seen_in_runs r) f) g among) (all.0.stands both.0)) (stand fs xs all.1 both.1)

  -- and after two pieces
  answered_more : (fs gs : List (Found (Vec ℕ))) (xs ys : List (Reached (Vec ℕ))) → AreAnswered r fs xs → AreAnswered r gs ys
      → AreAnswered r (fs ++ gs) (xs ++ ys)
  answered_more [] gs xs ys all more = subst (λ (zs : List (Reached (Vec ℕ))). AreAnswered r gs (zs ++ ys)) (sym all) more
  answered_more (f ∷ fs) gs xs ys all more = (
    all.0,
    all.1 ++ ys,
    all.2,
    all.3,
    ap (λ (zs : List (Reached (Vec ℕ))). zs ++ ys) all.4 ∙ append_assoc all.0 all.1 ys,
    answered_more fs gs all.1 ys all.5 more,
  )

-- a level is answered by what was found of each of its runs
pub answers : (r : Runs) (fs : List (Found (Vec ℕ))) (xs : List After) → AreAfter r fs xs
    → Expands r fs (reached_in xs) (all_stand xs)
answers r fs xs all = (answered r fs xs all, stand r fs xs all)

-- and by what was answered for two pieces of it
pub answers_both : (r : Runs) (fs gs : List (Found (Vec ℕ))) (xs ys : List (Reached (Vec ℕ))) (v w : Bool) → Expands r fs xs v → Expands r gs ys w
    → Expands r (fs ++ gs) (xs ++ ys) (v && w)
answers_both r fs gs xs ys v w a b =
    let seen = seen_in_runs r in (
      answered_more r fs gs xs ys a.0 b.0,
      λ is.
          let both = and_parts v w is in
          subst (λ (hs : List (FoundState Seen)). AllStand hs) (sym (map-append (state_in seen) fs gs)) (stand_in_both (seen_in seen fs) (seen_in seen gs) (a.1 both.0) (b.1 both.1)),
    )

-- no level, before any piece was answered
pub answers_none : (r : Runs) (xs : List (Reached (Vec ℕ))) → xs ≡ [] → Expands r [] xs true
answers_none r xs none = (none, λ _ g among. absurd (let within = among.1 in let no : ⊥ = omega (arith, within) in no))

-- one more of a list
pub next_taken : {X : Type 0} (xs : List X) (i : ℕ) (x : X) → i < length xs → x ≡ get_or xs i x → take (i + 1) xs ≡ take i xs ++ x ∷ []
next_taken {X = X} xs i x below is =
    ap (λ j. take j xs) (let next : i + 1 ≡ suc i = omega arith in next) ∙ take-suc xs i x below ∙ ap (λ (y : X). take i xs ++ y ∷ []) (sym is)
