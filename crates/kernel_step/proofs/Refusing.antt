-- What a refusal that is not there says.
use Rattle.std.proofs.Common.{◌≡◌, ℕ, ◌+◌, ◌^◌, ◌≤◌, Bool, true, false, ◌||◌, [], ◌∷◌, Some, None, is_some, nat_lt, refl}
use Rattle.std.proofs.lemmas.Bool.{ltb-false, or_parts}
use Rattle.kernel_model.specs.declared.answer.Refused.{Refused}
use Rattle.kernel_model.specs.declared.answer.Refused.TheVariants as refused
use Rattle.kernel_model.specs.State.{Process}
use Rattle.kernel_model.specs.Answers.{first_of, ◌⇒◌, turn_refusal, limit}

-- no test of three, four or five holds where there is no refusal
pub none-of-four : (a b c d : Bool) (r s t u : Refused) → first_of ((a ⇒ r) ∷ (b ⇒ s) ∷ (c ⇒ t) ∷ (d ⇒ u) ∷ []) ≡ None
    → (a ≡ false) × (b ≡ false) × (c ≡ false) × (d ≡ false)
none-of-four true b c d r s t u h = cc
none-of-four false true c d r s t u h = cc
none-of-four false false true d r s t u h = cc
none-of-four false false false true r s t u h = cc
none-of-four false false false false r s t u h = (refl, refl, refl, refl)

pub none-of-two : (a b : Bool) (r s : Refused) → first_of ((a ⇒ r) ∷ (b ⇒ s) ∷ []) ≡ None → (a ≡ false) × (b ≡ false)
none-of-two true b r s h = cc
none-of-two false true r s h = cc
none-of-two false false r s h = (refl, refl)

-- a Turn that is not refused
pub record IsFineTurn (p : Process) (lent full : Bool) (n : ℕ) : Type 0 where
  pub running : is_some p.status ≡ false
  pub here : lent ≡ false
  pub few : p.state.count + n ≤ 2 ^ 40
  pub room : full ≡ false

pub turn-fine : (p : Process) (lent full : Bool) (n : ℕ) → turn_refusal (Some p) lent full n ≡ None → IsFineTurn p lent full n
turn-fine p lent full n h =
    let all = none-of-four false (is_some p.status) lent (nat_lt limit (p.state.count + n) || full)
    refused.NoProcess refused.Ended refused.Lent refused.Budget h in
    let last = or_parts (nat_lt limit (p.state.count + n)) full all.3 in
    record {
      running = all.1;
      here = all.2;
      few = ltb-false limit (p.state.count + n) last.0;
      room = last.1;
    }
