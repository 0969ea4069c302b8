-- What a core is told, piece by piece.
use Rattle.std.proofs.Common.{◌≡◌, ℕ, ◌+◌, ◌<◌, ◌≤◌, Bool, List, [], ◌∷◌, ◌++◌, length, drop, get_or, append-nil, append_assoc, refl, sym, ap, ◌∙◌, zero, suc, arith}
use Rattle.std.proofs.lemmas.List.{drop_more}
use Rattle.disk_model.specs.declared.change.Piece.{Piece}
use Rattle.durable_disk.specs.Stages.{completes, call_of_end, end_of, left_after, ends_of, left_after_all, IsToldAll, IsToldSome}
use Rattle.durable_disk.specs.declared.core_call.CoreCall.{CoreCall}

past_end : (all : List Piece) (i : ℕ) → length all ≤ i → drop i all ≡ []
past_end [] zero le = refl
past_end [] (suc i) le = refl
past_end (p ∷ ps) zero le = absurd (omega arith)
past_end (p ∷ ps) (suc i) le = past_end ps i (omega arith)

-- Of the pieces before this one the core was told. `old` and `left` were at the start, `now` and `left_now` are before this piece.
pub record Telling (is_stored : Bool) (all : List Piece) (old : List CoreCall) (left : ℕ) (now : List CoreCall) (left_now : ℕ) (i : ℕ) : Type 0 where
  pub told : List CoreCall
  pub now_is : now ≡ old ++ told
  pub whole : told ++ ends_of is_stored left_now (drop i all) ≡ ends_of is_stored left all
  pub last : left_after_all is_stored left_now (drop i all) ≡ left_after_all is_stored left all

pub none_told : (is_stored : Bool) (all : List Piece) (old : List CoreCall) (left : ℕ) → Telling is_stored all old left old left 0
none_told is_stored all old left = record { told = []; now_is = sym (append-nil old); whole = refl; last = refl }

module _ (is_stored : Bool) (all : List Piece) (old : List CoreCall) (left : ℕ) (now : List CoreCall) (left_now : ℕ) (i : ℕ) where
  pub one_more : (new : List CoreCall) (left_new : ℕ) (p : Piece) (is_complete : Bool) → i < length all → get_or all i p ≡ p
      → Telling is_stored all old left now left_now i → is_complete ≡ completes is_stored left_now → new ≡ now ++ call_of_end is_complete p.at ∷ []
      → left_new ≡ left_after is_stored left_now → Telling is_stored all old left new left_new (i + 1)
  one_more new left_new p is_complete lt at h by told_it less =
      let is : new ≡ now ++ end_of is_stored left_now p.at ∷ [] = told_it ∙ ap (λ (b : Bool). now ++ call_of_end b p.at ∷ []) by in
      let rest : drop i all ≡ p ∷ drop (i + 1) all = drop_more all i p lt ∙ ap (λ (x : Piece). x ∷ drop (i + 1) all) at in
      let end : CoreCall = end_of is_stored left_now p.at in
      record {
        told = h.told ++ end ∷ [];
        now_is = is ∙ ap (λ (cs : List CoreCall). cs ++ end ∷ []) h.now_is ∙ append_assoc old h.told (end ∷ []);
        whole = append_assoc h.told (end ∷ []) (ends_of is_stored left_new (drop (i + 1) all))
            ∙ ap (λ (n : ℕ). h.told ++ end ∷ ends_of is_stored n (drop (i + 1) all)) less
            ∙ sym (ap (λ (ps : List Piece). h.told ++ ends_of is_stored left_now ps) rest) ∙ h.whole;
        last = ap (λ (n : ℕ). left_after_all is_stored n (drop (i + 1) all)) less
            ∙ sym (ap (left_after_all is_stored left_now) rest) ∙ h.last;
      }

  pub some_told : (new : List CoreCall) → Telling is_stored all old left now left_now i → new ≡ now → IsToldSome is_stored all old left new
  some_told new h same = record { told = h.told; rest = ends_of is_stored left_now (drop i all); first = h.whole; new_is = same ∙ h.now_is }

  pub all_told : length all ≤ i → Telling is_stored all old left now left_now i → IsToldAll is_stored all old left now left_now
  all_told le h =
      let end : drop i all ≡ [] = past_end all i le in (
        h.now_is ∙ ap (λ (cs : List CoreCall). old ++ cs) (sym (append-nil h.told) ∙ sym (ap (λ (ps : List Piece). h.told ++ ends_of is_stored left_now ps) end) ∙ h.whole),
        sym (ap (left_after_all is_stored left_now) end) ∙ h.last,
      )
