-- Whole runs.
use Rattle.std.proofs.Common.{◌≡◌, ℕ, ◌+◌, ◌<◌, ◌≤◌, inl, inr, Bool, true, false, not, List, [], ◌∷◌, ◌++◌, length, take, drop, Option, Some, None, refl, sym, ap, subst, ◌∙◌, arith, length-append, append_assoc, take-append-drop}
use Rattle.std.specs.Prelude.{if◌then◌else◌}
use Rattle.std.proofs.lemmas.Bool.{cases_lt, ltb-true}
use Rattle.std.proofs.lemmas.List.{length-take, length-drop, take_all, take-append-le, append-nil, drop-take, take-take}
use Rattle.disk_model.specs.declared.change.Change.{Change}
use Rattle.disk_model.specs.declared.change.NamedFile.{NamedFile}
use Rattle.disk_model.specs.Files.{Follow, files_after}
use Rattle.disk_model.specs.Spelling.{gate_after}
use Rattle.disk_model.specs.Held.{joined, start_of, end_of, IsHeldTo, IsHeld}
use Rattle.disk_model.specs.Rebuild.{rebuild, CanBeRebuilt}
use Rattle.disk_model.specs.declared.change.Piece.{Piece}
use Rattle.disk_model.specs.Storage.{Storage, is_quiet, fits, group, group_of, checkpoint, group_or_checkpoint, cut, completed, failed, failed_by, piece_at}
use Rattle.disk_model.specs.Crash.{IsCrashOf}
use Rattle.disk_model.specs.Runs.{Move, Comes, Cuts, Completes, Fails, Run, first_storage, first_run, moved, run_after, changes_in_moves}
use Rattle.disk_model.proofs.Reading.{files_after-append, follow_both, follow_split}
use Rattle.disk_model.proofs.Stages.{group_ready, checkpoint_ready}
use Rattle.disk_model.proofs.Machine.{Resting, Sound, Goes, sound_crash, failed_sound, completed_goes, submitted_sound}
use Rattle.disk_model.proofs.Rebuilding.{rebuilt}

-- ---- lists

take_plus : (m n : ℕ) (xs : List Change) → take (m + n) xs ≡ take m xs ++ take n (drop m xs)
take_plus m n xs =
    sym (take-append-drop m (take (m + n) xs))
    ∙ ap (λ (l : List Change). l ++ drop m (take (m + n) xs)) (take-take m (m + n) xs (omega arith))
    ∙ ap (λ (l : List Change). take m xs ++ l) (drop-take m n xs)

prefix : (n : ℕ) (xs : List Change) → take (length (take n xs)) xs ≡ take n xs
prefix n xs = elim (cases_lt n (length xs)) as (λ _. take (length (take n xs)) xs ≡ take n xs) [
  | inl lt ↦ ap (λ (k : ℕ). take k xs) (omega (arith, length-take n xs))
  | inr le ↦ ap (λ (l : List Change). take (length l) xs) (take_all n xs le) ∙ take_all (length xs) xs (omega arith) ∙ sym (take_all n xs le)
]

group_prefix : (cs : List Change) → take (length (group_of cs)) cs ≡ group_of cs
unfolding group_of
group_prefix cs = prefix 64 cs

pub group_short : (cs : List Change) → length (group_of cs) ≤ length cs
group_short cs = omega (arith, ap length (group_prefix cs), length-take (length (group_of cs)) cs)

-- ---- what holds all along

-- the files after the first k of the changes
abbrev files_at : List NamedFile → List Change → ℕ → List NamedFile
files_at files cs k = files_after files (take k cs)

pub record Kept (files : List NamedFile) (cs : List Change) (st : Storage) : Type 0 where
  pub order : st.committed ≤ st.next_committed
  pub among : st.next_committed ≤ length cs
  pub sound : Sound st (files_at files cs st.committed) (files_at files cs st.next_committed)

kept_more : (files : List NamedFile) (cs more : List Change) (st : Storage) → Kept files cs st → Kept files (cs ++ more) st
kept_more files cs more st k =
    let o = k.order in let a = k.among in record {
      order = o;
      among = omega (arith, length-append cs more);
      sound = subst (λ (l : List Change). Sound st (files_after files l) (files_at files (cs ++ more) st.next_committed)) (sym (take-append-le st.committed cs more (omega arith)))
          (subst (λ (l : List Change). Sound st (files_at files cs st.committed) (files_after files l)) (sym (take-append-le st.next_committed cs more a)) k.sound);
    }

kept_failed : (files : List NamedFile) (cs : List Change) (st : Storage) (at : ℕ) → Kept files cs st → Kept files cs (failed st at)
kept_failed files cs st at k =
    go (piece_at st.device.in_flight at) (failed_sound st (files_at files cs st.committed) (files_at files cs st.next_committed) at k.sound)
  where
    go : (o : Option Piece) → Sound (failed_by st at o) (files_at files cs st.committed) (files_at files cs st.next_committed) → Kept files cs (failed_by st at o)
    go None s = k
    go (Some p) s = record { order = k.order; among = k.among; sound = s }

kept_completed : (files : List NamedFile) (cs : List Change) (st : Storage) (at : ℕ) → Kept files cs st → Kept files cs (completed st at)
kept_completed files cs st at k =
    go (completed st at) (completed_goes st (files_at files cs st.committed) (files_at files cs st.next_committed) at k.sound)
  where
    go : (to : Storage) → Goes st to (files_at files cs st.committed) (files_at files cs st.next_committed) → Kept files cs to
    go to (inl (s, c, n)) = let o = k.order in let a = k.among in record {
      order = omega arith;
      among = omega arith;
      sound = subst (λ (m : ℕ). Sound to (files_at files cs m) (files_at files cs to.next_committed)) (sym c) (subst (λ (m : ℕ). Sound to (files_at files cs st.committed) (files_at files cs m)) (sym n) s);
    }
    go to (inr (rest, c, n)) = let o = k.order in let a = k.among in record {
      order = omega arith;
      among = omega arith;
      sound = inl (subst (λ (m : ℕ). Resting to (files_at files cs m)) (sym c) rest);
    }

-- ---- a cut
kept_cut : (all : List Change) (files : List NamedFile) (cs : List Change) (st : Storage) → Follow [] all → files ≡ files_after [] all → Follow files cs
    → Kept files cs st → Kept files cs (cut st (drop st.committed cs) (files_after files cs))
kept_cut all files cs st possible makes follow k = go (drop st.committed cs) refl
  where
    old : List NamedFile
    old = files_at files cs st.committed

    parts : Follow files (take st.committed cs) × Follow (files_after files (take st.committed cs)) (drop st.committed cs)
    parts = follow_split files (take st.committed cs) (drop st.committed cs) (subst (λ (l : List Change). Follow files l) (sym (take-append-drop st.committed cs)) follow)

    whole : CanBeRebuilt (files_after files cs)
    whole =
        let join : files_after files cs ≡ files_after [] (all ++ cs) = ap (λ (fs : List NamedFile). files_after fs cs) makes ∙ sym (files_after-append [] all cs) in
        subst CanBeRebuilt (sym join) (rebuilt (all ++ cs) (follow_both [] all cs possible (subst (λ (fs : List NamedFile). Follow fs cs) makes follow)))

    group_kept : Resting st (files_at files cs st.committed) → (ds : List Change) → drop st.committed cs ≡ ds → gate_after st.gate (group_of ds) < end_of st.half → Kept files cs (group st (group_of ds))
    group_kept rest ds is within =
        let prefix_is = group_prefix ds in
        let split = follow_split (files_at files cs st.committed) (take (length (group_of ds)) ds) (drop (length (group_of ds)) ds)
        (subst (λ (l : List Change). Follow (files_at files cs st.committed) l) (is ∙ sym (take-append-drop (length (group_of ds)) ds)) parts.1) in
        let fol : Follow (files_at files cs st.committed) (group_of ds) = subst (λ (l : List Change). Follow (files_at files cs st.committed) l) prefix_is split.0 in
        let new_is : files_after (files_at files cs st.committed) (group_of ds) ≡ files_at files cs (st.committed + length (group_of ds)) =
        ap (files_after (files_at files cs st.committed)) (sym prefix_is ∙ ap (take (length (group_of ds))) (sym is))
        ∙ sym (files_after-append files (take st.committed cs) (take (length (group_of ds)) (drop st.committed cs)))
        ∙ ap (files_after files) (sym (take_plus st.committed (length (group_of ds)) cs)) in
        let st1 : Storage = record st { next_half = st.half; next_gate = gate_after st.gate (group_of ds); next_committed = st.committed + length (group_of ds) } in
        let o = k.order in let a = k.among in record {
          order = omega arith;
          among = omega (arith, group_short ds, ap length is, length-drop st.committed cs);
          sound = subst (λ (fs : List NamedFile). Sound (group st (group_of ds)) (files_at files cs st.committed) fs) new_is
              (submitted_sound st1 (files_at files cs st.committed) (files_after (files_at files cs st.committed) (group_of ds)) rest.failed _ _
              (group_ready st.device.disk st.half st.gate (files_at files cs st.committed) (group_of ds) rest.at_rest fol within));
        }

    checkpoint_kept : Resting st (files_at files cs st.committed) → (ds : List Change) → drop st.committed cs ≡ ds → Kept files cs (checkpoint st (length ds) (rebuild (files_after files cs)))
    checkpoint_kept rest ds is =
        let o = k.order in let a = k.among in
        let count : st.committed + length ds ≡ length cs = omega (arith, ap length is, length-drop st.committed cs) in
        let new_is : files_after [] (rebuild (files_after files cs)) ≡ files_at files cs (st.committed + length ds) =
        whole.makes ∙ ap (files_after files) (sym (take_all (st.committed + length ds) cs (omega arith))) in
        let st1 : Storage = record st { next_half = not st.half; next_gate = gate_after (start_of (not st.half)) (rebuild (files_after files cs)); next_committed = st.committed + length ds } in
        record {
          order = omega arith;
          among = omega arith;
          sound = subst (λ (fs : List NamedFile). Sound (checkpoint st (length ds) (rebuild (files_after files cs))) (files_at files cs st.committed) fs) new_is
              (submitted_sound st1 (files_at files cs st.committed) (files_after [] (rebuild (files_after files cs))) rest.failed _ _
              (checkpoint_ready st.device.disk st.half st.gate (files_at files cs st.committed) (rebuild (files_after files cs)) rest.at_rest whole.possible (whole.fits (not st.half))));
        }

    begins : Resting st (files_at files cs st.committed) → (ds : List Change) → drop st.committed cs ≡ ds → Kept files cs (group_or_checkpoint st ds (files_after files cs))
    begins rest ds is = on (fits st (group_of ds)) refl
      where
        on : (b : Bool) → fits st (group_of ds) ≡ b → Kept files cs (if b then group st (group_of ds) else checkpoint st (length ds) (rebuild (files_after files cs)))
        on true e = group_kept rest ds is (ltb-true _ _ e)
        on false e = checkpoint_kept rest ds is

    go : (ds : List Change) → drop st.committed cs ≡ ds → Kept files cs (cut st ds (files_after files cs))
    go [] is = k
    go (d ∷ ds) is = on (is_quiet st.device) refl k.sound
      where
        on : (b : Bool) → is_quiet st.device ≡ b → Sound st (files_at files cs st.committed) (files_at files cs st.next_committed) → Kept files cs (if b then group_or_checkpoint st (d ∷ ds) (files_after files cs) else st)
        on false e s = k
        on true e (inl rest) = begins rest (d ∷ ds) is
        on true e (inr (goal, w)) = let b = w.busy in absurd cc

-- ---- a run
kept_run : (all : List Change) (files : List NamedFile) → Follow [] all → files ≡ files_after [] all → (ms : List Move) (r : Run) → Follow files (r.changes ++ changes_in_moves ms) → Kept files r.changes r.storage
    → Kept files (r.changes ++ changes_in_moves ms) (run_after files r ms).storage
kept_run all files possible makes [] r follow k = subst (λ (l : List Change). Kept files l r.storage) (sym (append-nil r.changes)) k
kept_run all files possible makes (Comes c ∷ ms) r follow k =
    subst (λ (l : List Change). Kept files l (run_after files (moved files r (Comes c)) ms).storage) (append_assoc r.changes (c ∷ []) (changes_in_moves ms))
    (kept_run all files possible makes ms (moved files r (Comes c)) (subst (λ (l : List Change). Follow files l) (sym (append_assoc r.changes (c ∷ []) (changes_in_moves ms))) follow) (kept_more files r.changes (c ∷ []) r.storage k))
kept_run all files possible makes (Cuts ∷ ms) r follow k =
    kept_run all files possible makes ms (moved files r Cuts) follow (kept_cut all files r.changes r.storage possible makes (follow_split files r.changes (changes_in_moves ms) follow).0 k)
kept_run all files possible makes (Completes at ∷ ms) r follow k = kept_run all files possible makes ms (moved files r (Completes at)) follow (kept_completed files r.changes r.storage at k)
kept_run all files possible makes (Fails at ∷ ms) r follow k = kept_run all files possible makes ms (moved files r (Fails at)) follow (kept_failed files r.changes r.storage at k)

pub crashes_hold : (disk : List ℕ) (gate : ℕ) (files : List NamedFile) → IsHeldTo disk gate files
    → (moves : List Move) → Follow files (changes_in_moves moves)
    → (left : List ℕ) → IsCrashOf (run_after files (first_run disk gate) moves).storage.device left
    → (k : ℕ) × ((run_after files (first_run disk gate) moves).storage.committed ≤ k) × (k ≤ length (changes_in_moves moves)) × IsHeld left (files_after files (take k (changes_in_moves moves)))
crashes_hold disk gate files held moves follow left crash =
    let start : Kept files [] (first_storage disk gate) = record {
      order = omega arith;
      among = omega arith;
      sound = inl (record { in_flight = refl; failed = refl; at_rest = record { held = held; selects = refl } });
    } in
    let k = kept_run (joined held.reads.groups) files held.reads.possible held.reads.makes moves (first_run disk gate) follow start in
    elim (sound_crash (run_after files (first_run disk gate) moves).storage _ _ k.sound left crash) [
      | inl h ↦ ((run_after files (first_run disk gate) moves).storage.committed, omega arith, (let o = k.order in let a = k.among in omega arith), h)
      | inr h ↦ ((run_after files (first_run disk gate) moves).storage.next_committed, k.order, k.among, h)
    ]
