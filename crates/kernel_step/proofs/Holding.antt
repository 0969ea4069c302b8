-- Whether some terminal holds bytes back.
use Rattle.std.proofs.Common.{◌≡◌, ℕ, zero, suc, ◌∙◌, Bool, ◌||◌, nat_lt, List, [], ◌∷◌, length, slice_get, Some, refl, ap, arith}
use Rattle.std.specs.List.{list_any}
use Rattle.kernel_model.specs.Answers.{is_held_back, terminals}
use Rattle.kernel_model.specs.Shown.{printed, shown}
use Rattle.kernel_model.specs.World.{World}
use Rattle.held_output.specs.Withheld.{Withheld, holds_back}
use Rattle.kernel_step.specs.Seen.{Withholds, AreScreens}
use Rattle.kernel_step.proofs.Releasing.{released-is, marked-length}

screen-holds : (w : World) (t : ℕ) (s : Withheld ℕ) → Withholds w.storage.committed (printed t w.log) s → holds_back s ≡ is_held_back w t
screen-holds w t s h =
    ap (λ (bs : List ℕ). nat_lt (length bs) (length s.items)) (released-is w.storage.committed (printed t w.log) s h)
    ∙ ap (λ (n : ℕ). nat_lt (length (shown w t)) n) (marked-length (printed t w.log) s.items h.marked)

-- two tests that agree at each place of two lists
any-same : {A B : Type 0} (f : A → Bool) (g : B → Bool) (xs : List A) (ys : List B) → length xs ≡ length ys
    → ((i : ℕ) (x : A) (y : B) → slice_get xs i ≡ Some x → slice_get ys i ≡ Some y → f x ≡ g y) → list_any f xs ≡ list_any g ys
any-same f g [] [] size each = refl
any-same f g [] (y ∷ ys) size each = absurd (omega arith)
any-same f g (x ∷ xs) [] size each = absurd (omega arith)
any-same f g (x ∷ xs) (y ∷ ys) size each =
    ap (λ b. b || list_any f xs) (each 0 x y refl refl)
    ∙ ap (λ b. g y || b) (any-same f g xs ys (omega arith) (λ i u v at by. each (suc i) u v at by))

terminal-at : (i n : ℕ) → slice_get terminals i ≡ Some n → i ≡ n
terminal-at zero n e = cc
terminal-at (suc zero) n e = cc
terminal-at (suc (suc zero)) n e = cc
terminal-at (suc (suc (suc zero))) n e = cc
terminal-at (suc (suc (suc (suc zero)))) n e = cc
terminal-at (suc (suc (suc (suc (suc zero))))) n e = cc
terminal-at (suc (suc (suc (suc (suc (suc zero)))))) n e = cc
terminal-at (suc (suc (suc (suc (suc (suc (suc zero))))))) n e = cc
terminal-at (suc (suc (suc (suc (suc (suc (suc (suc i)))))))) n e = cc

pub held-back : (w : World) (screens : List (Withheld ℕ)) → AreScreens w.storage.committed w.log screens
    → list_any holds_back screens ≡ list_any (is_held_back w) terminals
held-back w screens h =
    any-same holds_back (is_held_back w) screens terminals h.count (λ t s n there number.
    screen-holds w t s (h.each t s there) ∙ ap (is_held_back w) (terminal-at t n number))
