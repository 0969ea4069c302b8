-- A private call may be made first: in each complete order it could be.
use Rattle.std.proofs.Common.{◌≡◌, ℕ, ◌==◌, ◌⊎◌, inl, inr, ◌||◌, Bool, true, false, List, [], ◌∷◌, Option, Some, None, IfSome, refl, sym, ap, subst, ◌∙◌}
use Rattle.std.specs.Prelude.{if◌then◌else◌, option_to_list}
use Rattle.std.specs.List.{AllByRecursion}
use Rattle.std.proofs.lemmas.Bool.{eqb-true, ne_eqb, false≢true}
use Rattle.disk_model.proofs.Lists.{each_more}
use Rattle.kernel_model.specs.Entries.{is_same, is_among, meets}
use Rattle.kernel_model.specs.Limits.{AreNumbered}
use Rattle.kernel_model.specs.Steps.{step}
use Rattle.kernel_model.specs.declared.carrier.Carrier.{Carrier}
use Rattle.kernel_model.specs.declared.carrier.Carrier.TheVariants as carrier
use Rattle.kernel_model.specs.declared.effect.Output.{Output}
use Rattle.kernel_model.specs.declared.event.Event.TheVariants.{Turn, Enter}
use Rattle.kernel_laws.specs.Agreement.{Agree}
use Rattle.kernel_laws.proofs.Coned.{agree_all}
use Rattle.kernel_laws.proofs.ConeLaws.{is_framed}
use Rattle.kernel_model.proofs.Meets.{same_is}
use Rattle.kernel_laws.proofs.Selected.{passed, step_numbered}
use Rattle.kernel_laws.proofs.Written.{step_reads}
use Rattle.order_laws.specs.Moves.{Seen, Label, label_in, is_one_terminal, are_independent, writes_some, seen_after, wrote, turns, call_after, calls}
use Rattle.order_laws.specs.Privacy.{Claim, is_claimed, IsClaimed, IsPrivate}
use Rattle.order_laws.proofs.Calls.{run, Past, AreOff, turns_later}
use Rattle.order_laws.proofs.Choosing.{StaysPrivate}
use Rattle.order_laws.proofs.Claims.{Spares, enter_spares, turn_claimed}
use Rattle.order_laws.proofs.Commuting.{from_parts}
use Rattle.order_laws.proofs.Swapping.{at_one, not_read, same_label, agree_syms}
use Rattle.order_laws.proofs.Unclaimed.{AreFree, is_claimed_output}

-- carriers that are claimed, and others that are not, have none in common
parted : (c : Claim) (a b : Bool) → (a ≡ b → ⊥) → (ws rs : List Carrier) → AllByRecursion (λ (x : Carrier). is_claimed c x ≡ a) ws → AllByRecursion (λ (x : Carrier). is_claimed c x ≡ b) rs
    → meets ws rs ≡ false
parted c a b differ [] rs here there = refl
parted c a b differ (w ∷ ws) rs here there = ap (λ (t : Bool). t || meets ws rs) (one rs there) ∙ parted c a b differ ws rs here.1 there
  where
    one : (rs : List Carrier) → AllByRecursion (λ (x : Carrier). is_claimed c x ≡ b) rs → is_among w rs ≡ false
    one [] h = refl
    one (r ∷ rs) h = ap (λ (t : Bool). t || is_among w rs) (other (is_same w r) refl) ∙ one rs h.1
      where
        other : (t : Bool) → is_same w r ≡ t → is_same w r ≡ false
        other true is = absurd (differ (sym here.0 ∙ ap (is_claimed c) (same_is w r is) ∙ h.0))
        other false is = is

terminals_parted : (c : Claim) (a b : Option Output) → is_claimed_output c a ≡ false → IfSome b (λ o. c.terminals o.terminal ≡ true) → is_one_terminal a b ≡ false
terminals_parted c None b free claimed = refl
terminals_parted c (Some a) None free claimed = refl
terminals_parted c (Some a) (Some b) free claimed =
    ne_eqb a.terminal b.terminal (λ (is : a.terminal ≡ b.terminal). false≢true (sym free ∙ ap c.terminals is ∙ claimed))

module _ (n : ℕ) where
  abbrev label : Seen → ℕ → Label
  label s p = label_in s (Enter p)

  -- Turns leave claimed what is
  turns_claimed : (c : Claim) (rs : List ℕ) (s : Seen) → IsClaimed c s.sync → IsClaimed c (run n s (turns n rs)).sync
  turns_claimed c [] s claimed = claimed
  turns_claimed c (r ∷ rs) s claimed = turns_claimed c rs (seen_after s (Turn r n)) (turn_claimed c s.sync r n claimed)

  module _ (s : Seen) (m x : ℕ) (are : AreNumbered s.sync.files) (v : IsPrivate s m) (other : (x == m) ≡ false) where
    abbrev c : Claim
    c = v.claim

    off_owner : (x == c.owner) ≡ false
    off_owner = ap (λ (k : ℕ). x == k) v.owner ∙ other

    spares : Spares c (step s.sync (Enter x))
    spares = enter_spares c s.sync x are off_owner v.claimed

    writes_free : AreFree c (label s x).writes
    writes_free = each_more (λ (w : Carrier). is_among w (label s x).reads ≡ true) (λ (w : Carrier). is_claimed c w ≡ false)
        (λ w is. at_one (λ (r : Carrier). is_claimed c r ≡ false) w (label s x).reads spares.reads is) (label s x).writes (step_reads s.sync (Enter x))

    off : meets (label s x).writes (label s m).reads ≡ false
    off = parted c false true false≢true (label s x).writes (label s m).reads writes_free v.reads

    abbrev one : Seen
    one = seen_after s (Enter x)

    one_numbered : AreNumbered one.sync.files
    one_numbered = step_numbered s.sync (Enter x) are

    -- the private call stands as it stood
    after_enter_same : label one m ≡ label s m
    after_enter_same =
        let agree : Agree s.sync one.sync (label s m).reads = agree_syms one.sync s.sync (label s m).reads (passed s.sync s.sync (Enter x) (label s m).reads are off (agree_all s.sync (label s m).reads)) in
        sym (same_label (step s.sync (Enter m)).entry (step one.sync (Enter m)).entry ((is_framed s.sync one.sync (Enter m) are one_numbered).does agree))

    abbrev rs : List ℕ
    rs = wrote (label s x) (x ∷ option_to_list (label s x).child)

    rs_off : (ps : List ℕ) → AreOff n (wrote (label s x) ps) (label s m).reads
    rs_off [] = tt
    rs_off (p ∷ ps) = elim (is_among (carrier.Proc p) (label s x).writes) as (λ b. is_among (carrier.Proc p) (label s x).writes ≡ b
        → AreOff n (if b then p ∷ wrote (label s x) ps else wrote (label s x) ps) (label s m).reads) [
          | true ↦ λ is. (not_read (label s x).writes (label s m).reads (carrier.Proc p) off is, rs_off ps)
          | false ↦ λ is. rs_off ps
        ] refl

    past : Past n one rs (Enter m)
    past = turns_later n rs one (Enter m) one_numbered (subst (λ (l : Label). AreOff n rs l.reads) (sym after_enter_same) (rs_off (x ∷ option_to_list (label s x).child)))

    stands : label (call_after n s x) m ≡ label s m
    stands = past.label ∙ after_enter_same

    back : meets (label s m).writes (label s x).reads ≡ false
    back = parted c true false (λ e. false≢true (sym e)) (label s m).writes (label s x).reads
        (each_more (λ (w : Carrier). is_among w (label s m).reads ≡ true) (λ (w : Carrier). is_claimed c w ≡ true)
        (λ w is. at_one (λ (r : Carrier). is_claimed c r ≡ true) w (label s m).reads v.reads is) (label s m).writes (step_reads s.sync (Enter m))) spares.reads

    pub independent_of : are_independent (label s x) (label (call_after n s x) m) ≡ true
    independent_of = ap (λ (l : Label). are_independent (label s x) l) stands
        ∙ from_parts (label s x) (label s m) (record { off = off; back = back; terminals = terminals_parted c (label s x).output (label s m).output spares.output v.output })

    pub stays : IsPrivate (call_after n s x) m
    stays = record {
      claim = c;
      owner = v.owner;
      claimed = turns_claimed c rs one spares.claimed;
      reads = subst (λ (l : Label). AllByRecursion (λ (r : Carrier). is_claimed c r ≡ true) l.reads) (sym stands) v.reads;
      output = subst (λ (l : Label). IfSome l.output (λ o. c.terminals o.terminal ≡ true)) (sym stands) v.output;
      works = ap writes_some stands ∙ v.works;
    }

  pub stays_private : StaysPrivate (calls n) (λ s. AreNumbered s.sync.files) IsPrivate
  stays_private = record {
    works = λ s m are v. v.works;
    others = λ s m x are v works. by s m x are v (x == m) refl;
  }
    where
      by : (s : Seen) (m x : ℕ) (are : AreNumbered s.sync.files) (v : IsPrivate s m) (b : Bool) → (x == m) ≡ b
          → (x ≡ m) ⊎ ((are_independent (label s x) (label (call_after n s x) m) ≡ true) × IsPrivate (call_after n s x) m)
      by s m x are v true is = inl (eqb-true x m is)
      by s m x are v false is = inr (independent_of s m x are v is, stays s m x are v is)
