-- The replies of a process, and its end, as one list of items.
use Rattle.std.proofs.Common.{◌≡◌, ℕ, suc, ◌<◌, ◌≤◌, ◌&&◌, not, Bool, true, false, if◌then◌else◌, List, [], ◌∷◌, ◌++◌, length, Option, Some, None, is_some, nat_le, nat_lt, refl, sym, ap, ◌∙◌, arith}
use Rattle.std.proofs.lemmas.List.{append-nil}
use Rattle.std.proofs.lemmas.Bool.{lt-ltb, le-ltb, ltb-true, ltb-false}
use Rattle.machine_model.specs.declared.reply.Reply.{Reply}
use Rattle.kernel_model.specs.Entries.{Item, Got, End}
use Rattle.kernel_model.specs.Shown.{prefix, replies_in, end_in}
use Rattle.held_output.specs.Withheld.{Held, all_held, whats}
use Rattle.held_output.specs.Traces.{ending_items, as_items}
use Rattle.held_output.specs.declared.trace.Ending.{Ending}

-- the end of a process, if there is one, is its last item
pub end-in : (rs : List (Held Reply)) (ending : Option Ending) → is_some (end_in (whats (as_items rs ++ ending_items ending))) ≡ is_some ending
end-in [] None = refl
end-in [] (Some e) = refl
end-in (r ∷ rs) ending = end-in rs ending

-- a process that has not ended has no end
no-end : (rs : List (Held Reply)) (ending : Option Ending) → end_in (whats (as_items rs ++ ending_items ending)) ≡ None → ending ≡ None
no-end [] None h = refl
no-end [] (Some e) h = cc
no-end (r ∷ rs) ending h = no-end rs ending h

-- replies that are all the items of a trace, which has no end
pub record AreAll (replies : List (Held Reply)) (ending : Option Ending) (items : List (Held Item)) : Type 0 where
  pub none : ending ≡ None
  pub same : as_items replies ≡ items

-- of a process that has not ended they are
pub are-all : (replies : List (Held Reply)) (ending : Option Ending) (items : List (Held Item)) → as_items replies ++ ending_items ending ≡ items
    → end_in (whats items) ≡ None → AreAll replies ending items
are-all replies ending items is running =
    let none : ending ≡ None = no-end replies ending (ap (λ hs. end_in (whats hs)) is ∙ running) in
    record {
      none = none;
      same = sym (append-nil (as_items replies)) ∙ ap (λ (o : Option Ending). as_items replies ++ ending_items o) (sym none) ∙ is;
    }

-- one reply more
pub reply-more : (rs : List (Held Reply)) (mark : ℕ) (reply : Reply)
    → as_items (rs ++ all_held mark (reply ∷ [])) ≡ as_items rs ++ all_held mark (Got reply ∷ [])
reply-more [] mark reply = refl
reply-more (r ∷ rs) mark reply = ap (λ is. record { what = Got r.what; mark = r.mark } ∷ is) (reply-more rs mark reply)

-- the replies among the items are the replies
pub replies-all : (rs : List (Held Reply)) (ending : Option Ending) → whats rs ≡ replies_in (whats (as_items rs ++ ending_items ending))
replies-all [] None = refl
replies-all [] (Some e) = refl
replies-all (r ∷ rs) ending = ap (λ xs. r.what ∷ xs) (replies-all rs ending)

-- the end alone has no reply
replies-of-end : (c : ℕ) (ending : Option Ending) → replies_in (whats (prefix (λ h. nat_le h.mark c) (ending_items ending))) ≡ []
replies-of-end c None = refl
replies-of-end c (Some e) = by (nat_le e.mark c)
  where
    by : (b : Bool) → replies_in (whats (if b then (record { what = End e.status; mark = e.mark }) ∷ [] else [])) ≡ []
    by true = refl
    by false = refl

-- the replies among what is released are the replies that are released
pub replies-released : (c : ℕ) (rs : List (Held Reply)) (ending : Option Ending)
    → whats (prefix (λ h. nat_le h.mark c) rs) ≡ replies_in (whats (prefix (λ h. nat_le h.mark c) (as_items rs ++ ending_items ending)))
replies-released c [] ending = sym (replies-of-end c ending)
replies-released c (r ∷ rs) ending = by (nat_le r.mark c) (replies-released c rs ending)
  where
    by : (b : Bool) → whats (prefix (λ (h : Held Reply). nat_le h.mark c) rs) ≡ replies_in (whats (prefix (λ (h : Held Item). nat_le h.mark c) (as_items rs ++ ending_items ending)))
        → whats (if b then r ∷ prefix (λ (h : Held Reply). nat_le h.mark c) rs else [])
        ≡ replies_in (whats (if b then record { what = Got r.what; mark = r.mark } ∷ prefix (λ (h : Held Item). nat_le h.mark c) (as_items rs ++ ending_items ending) else []))
    by true rest = ap (λ xs. r.what ∷ xs) rest
    by false rest = refl

-- the status of an end, where that may be handed out
abbrev pub status_if : Bool → Ending → Option ℕ
status_if b e = if b then Some e.status else None

-- as many more on both sides
pub lt-suc : (a b : ℕ) → nat_lt (suc a) (suc b) ≡ nat_lt a b
lt-suc a b = elim (nat_lt a b) as (λ (x : Bool). nat_lt a b ≡ x → nat_lt (suc a) (suc b) ≡ x) [
  | true ↦ λ e. (let less : a < b = ltb-true a b e in lt-ltb (suc a) (suc b) (omega (arith, less)))
  | false ↦ λ e. (let more : b ≤ a = ltb-false a b e in le-ltb (suc a) (suc b) (omega (arith, more)))
] refl

-- the end is released where no reply is held back and its mark is committed
pub end-released : (c : ℕ) (rs : List (Held Reply)) (e : Ending)
    → status_if (not (nat_lt (length (whats (prefix (λ h. nat_le h.mark c) rs))) (length rs)) && nat_le e.mark c) e
    ≡ end_in (whats (prefix (λ h. nat_le h.mark c) (as_items rs ++ ending_items (Some e))))
end-released c [] e = by (nat_le e.mark c)
  where
    by : (b : Bool) → status_if b e ≡ end_in (whats (if b then (record { what = End e.status; mark = e.mark }) ∷ [] else []))
    by true = refl
    by false = refl
end-released c (r ∷ rs) e = by (nat_le r.mark c) (end-released c rs e)
  where
    by : (b : Bool) → status_if (not (nat_lt (length (whats (prefix (λ (h : Held Reply). nat_le h.mark c) rs))) (length rs)) && nat_le e.mark c) e
        ≡ end_in (whats (prefix (λ (h : Held Item). nat_le h.mark c) (as_items rs ++ ending_items (Some e))))
        → status_if (not (nat_lt (length (whats (if b then r ∷ prefix (λ (h : Held Reply). nat_le h.mark c) rs else []))) (suc (length rs))) && nat_le e.mark c) e
        ≡ end_in (whats (if b then record { what = Got r.what; mark = r.mark } ∷ prefix (λ (h : Held Item). nat_le h.mark c) (as_items rs ++ ending_items (Some e)) else []))
    by true rest =
        ap (λ b. status_if (not b && nat_le e.mark c) e) (lt-suc (length (whats (prefix (λ (h : Held Reply). nat_le h.mark c) rs))) (length rs)) ∙ rest
    by false rest = ap (λ b. status_if (not b && nat_le e.mark c) e) (lt-ltb 0 (suc (length rs)) (omega arith))

pub none-released : (c : ℕ) (rs : List (Held Reply)) → None ≡ end_in (whats (prefix (λ h. nat_le h.mark c) (as_items rs ++ [])))
none-released c [] = refl
none-released c (r ∷ rs) = by (nat_le r.mark c) (none-released c rs)
  where
    by : (b : Bool) → None ≡ end_in (whats (prefix (λ (h : Held Item). nat_le h.mark c) (as_items rs ++ [])))
        → None ≡ end_in (whats (if b then record { what = Got r.what; mark = r.mark } ∷ prefix (λ (h : Held Item). nat_le h.mark c) (as_items rs ++ []) else []))
    by true rest = rest
    by false rest = refl
