-- The changes of a checkpoint make the files.
use Rattle.std.proofs.Common.{◌≡◌, ℕ, zero, suc, ◌+◌, ◌-◌, ◌*◌, ◌<◌, ◌≤◌, inl, inr, List, [], ◌∷◌, ◌++◌, length, take, drop, replicate, Option, refl, sym, ap, subst, Bool, true, false, ◌∙◌, arith, length-append, append_assoc, take-append-drop}
use Rattle.std.specs.List.{AllByRecursion}
use Rattle.std.proofs.lemmas.Bool.{cases_lt}
use Rattle.std.proofs.lemmas.List.{length-take, length-drop, take_all, drop_all, set_at, append-nil}
use Rattle.disk_model.specs.declared.change.Change.{Change}
use Rattle.disk_model.specs.declared.change.Change.TheVariants.{Write}
use Rattle.disk_model.specs.declared.change.NamedFile.{NamedFile}
use Rattle.disk_model.specs.Files.{Follow, IsMade, changed, files_after, with_bytes, patched}
use Rattle.disk_model.specs.Spelling.{body_of, spelling, gate_after}
use Rattle.disk_model.specs.Held.{start_of, end_of}
use Rattle.disk_model.specs.Rebuild.{rebuild, rebuild_from, changes_making, writes_from, CanBeRebuilt}
use Rattle.disk_model.proofs.Reading.{files_after-append, follow_both}
use Rattle.disk_model.proofs.Naming.{Distinct, names}
use Rattle.disk_model.proofs.Tidy.{IsTidy, IsTidyFile, tidy_after, IsByte}
use Rattle.disk_model.proofs.Lists.{each_take, each_drop, slice_get-last}

body_append : (xs ys : List Change) → length (body_of (xs ++ ys)) ≡ length (body_of xs) + length (body_of ys)
unfolding body_of
body_append [] ys = omega arith
body_append (x ∷ xs) ys = omega (arith, length-append (spelling x) (body_of (xs ++ ys)), length-append (spelling x) (body_of xs), body_append xs ys)

-- ---- the last file gets its bytes

abbrev named : List ℕ → List ℕ → NamedFile
named name bytes = record { name = name; bytes = bytes }

patched_end : (old bytes : List ℕ) → patched old (length old) bytes ≡ old ++ bytes
patched_end old bytes =
    ap (λ (l : List ℕ). l ++ replicate (length old - length old) 0 ++ bytes ++ drop (length old + length bytes) old) (take_all (length old) old (omega arith))
    ∙ ap (λ (k : ℕ). old ++ replicate k 0 ++ bytes ++ drop (length old + length bytes) old) (let z : length old - length old ≡ 0 = omega arith in z)
    ∙ ap (λ (l : List ℕ). l ++ bytes ++ drop (length old + length bytes) old) (append-nil old)
    ∙ ap (λ (l : List ℕ). old ++ bytes ++ l) (drop_all (length old + length bytes) old (omega arith))
    ∙ append-nil (old ++ bytes)

changed_last : (fs : List NamedFile) (name old bytes : List ℕ) (n offset : ℕ) → n ≡ length fs → offset ≡ length old
    → changed (fs ++ named name old ∷ []) (Write n offset bytes) ≡ fs ++ named name (old ++ bytes) ∷ []
changed_last fs name old bytes n offset here at =
    ap (λ (k : ℕ). changed (fs ++ named name old ∷ []) (Write k offset bytes)) here
    ∙ ap (λ (o : Option NamedFile). with_bytes (fs ++ named name old ∷ []) (length fs) o (λ was. patched was offset bytes)) (slice_get-last fs (named name old))
    ∙ set_at fs (named name old) [] (named name (patched old offset bytes)) (length fs) refl
    ∙ ap (λ (l : List ℕ). fs ++ named name l ∷ []) (ap (λ (k : ℕ). patched old k bytes) at ∙ patched_end old bytes)

record Made (fs : List NamedFile) (cs : List Change) (new : List NamedFile) : Type 0 where
  pub follow : Follow fs cs
  pub makes : files_after fs cs ≡ new

writes_made : (k size : ℕ) (fs : List NamedFile) (name old bytes : List ℕ) (n offset : ℕ) → length bytes ≤ k → 1 ≤ size → size ≤ 1024 → n ≡ length fs → n < 32 → (1 ≤ length bytes → offset ≡ length old)
    → length old + length bytes ≤ 16384 → AllByRecursion IsByte bytes
    → Made (fs ++ named name old ∷ []) (writes_from k size n offset bytes) (fs ++ named name (old ++ bytes) ∷ [])
writes_made zero size fs name old [] n offset enough some most here few at room fine = record { follow = tt; makes = ap (λ (l : List ℕ). fs ++ named name l ∷ []) (sym (append-nil old)) }
writes_made zero size fs name old (b ∷ bytes) n offset enough some most here few at room fine = absurd (omega arith)
writes_made (suc k) size fs name old [] n offset enough some most here few at room fine = record { follow = tt; makes = ap (λ (l : List ℕ). fs ++ named name l ∷ []) (sym (append-nil old)) }
writes_made (suc k) size fs name old (b ∷ bytes) n offset enough some most here few at room fine =
    let whole = b ∷ bytes in
    let chunk = take size whole in
    let rest = drop size whole in
    let is_at : offset ≡ length old = at (omega arith) in
    let t = length-take size whole in let d = length-drop size whole in
    let step : changed (fs ++ named name old ∷ []) (Write n offset chunk) ≡ fs ++ named name (old ++ chunk) ∷ [] = changed_last fs name old chunk n offset here is_at in
    let r = writes_made k size fs name (old ++ chunk) rest n (offset + size) (omega arith) some most here few (λ more. omega (arith, length-append old chunk)) (omega (arith, length-append old chunk)) (each_drop IsByte size whole fine) in
    record {
      follow = (
        (omega arith, omega arith, omega arith, omega arith, each_take IsByte size whole fine),
        (omega (arith, length-append fs (named name old ∷ [])), omega arith),
        subst (λ (l : List NamedFile). Follow l (writes_from k size n (offset + size) rest)) (sym step) r.follow,
      );
      makes = ap (λ (l : List NamedFile). files_after l (writes_from k size n (offset + size) rest)) step ∙ r.makes
          ∙ ap (λ (l : List ℕ). fs ++ named name l ∷ []) (append_assoc old chunk rest ∙ ap (λ (l : List ℕ). old ++ l) (take-append-drop size whole));
    }

-- how long their spelling is
writes_none : (k size n offset : ℕ) → length (body_of (writes_from k size n offset [])) ≡ 0
unfolding body_of
writes_none zero size n offset = refl
writes_none (suc k) size n offset = refl

writes_length : (k size n offset : ℕ) (bytes : List ℕ) → size ≡ 1024 → 1024 * length (body_of (writes_from k size n offset bytes)) ≤ 1033 * length bytes + 9207
unfolding body_of
writes_length zero size n offset bytes is = omega arith
writes_length (suc k) size n offset [] is = omega arith
writes_length (suc k) size n offset (b ∷ bytes) is =
    let whole = b ∷ bytes in
    let r = writes_length k size n (offset + size) (drop size whole) is in
    let t = length-take size whole in let d = length-drop size whole in
    let one : length (spelling (Write n offset (take size whole))) ≡ 9 + length (take size whole) = omega arith in
    let both = length-append (spelling (Write n offset (take size whole))) (body_of (writes_from k size n (offset + size) (drop size whole))) in
    elim (cases_lt (length whole) size) as (λ _. 1024 * length (body_of (writes_from (suc k) size n offset (b ∷ bytes))) ≤ 1033 * length whole + 9207) [
      | inl less ↦ (
          let none : drop size whole ≡ [] = drop_all size whole (omega arith) in
          let nothing : length (body_of (writes_from k size n (offset + size) (drop size whole))) ≡ 0 = ap (λ (l : List ℕ). length (body_of (writes_from k size n (offset + size) l))) none ∙ writes_none k size n (offset + size) in
          omega arith
          )
      | inr full ↦ omega arith
    ]

-- ---- a whole file

making_made : (fs : List NamedFile) (f : NamedFile) (n : ℕ) → n ≡ length fs → n < 32 → IsTidyFile f → AllByRecursion (λ (g : NamedFile). g.name ≡ f.name → ⊥) fs → Made fs (changes_making n f) (fs ++ f ∷ [])
unfolding changes_making
making_made fs f n here few tidy others =
    let w = writes_made (length f.bytes) 1024 fs f.name [] f.bytes n 0 (omega arith) (omega arith) (omega arith) here few (λ some. refl) (let s = tidy.short in omega arith) tidy.bytes in
    record { follow = (tidy.name, (others, omega arith), w.follow); makes = w.makes }

making_length : (n : ℕ) (f : NamedFile) → IsTidyFile f → length (body_of (changes_making n f)) ≤ 16571
unfolding changes_making body_of
making_length n f tidy =
    let w = writes_length (length f.bytes) 1024 n 0 f.bytes refl in
    let s = tidy.short in let m = tidy.name in
    omega (arith, length-append f.name (body_of (writes_from (length f.bytes) 1024 n 0 f.bytes)))

-- ---- all files

Made_then : (a b c : List NamedFile) (xs ys : List Change) → Made a xs b → Made b ys c → Made a (xs ++ ys) c
Made_then a b c xs ys p q = record {
  follow = follow_both a xs ys p.follow (subst (λ (l : List NamedFile). Follow l ys) (sym p.makes) q.follow);
  makes = files_after-append a xs ys ∙ ap (λ (l : List NamedFile). files_after l ys) p.makes ∙ q.makes;
}

all_mid : (P : List ℕ → Type 0) (pre : List NamedFile) (f : NamedFile) (rest : List NamedFile) → AllByRecursion P (names (pre ++ f ∷ rest)) → P f.name
all_mid P [] f rest h = h.0
all_mid P (g ∷ pre) f rest h = all_mid P pre f rest h.1

each_mid : (pre : List NamedFile) (f : NamedFile) (rest : List NamedFile) → AllByRecursion IsTidyFile (pre ++ f ∷ rest) → IsTidyFile f
each_mid [] f rest h = h.0
each_mid (g ∷ pre) f rest h = each_mid pre f rest h.1

others_mid : (pre : List NamedFile) (f : NamedFile) (rest : List NamedFile) → Distinct (names (pre ++ f ∷ rest)) → AllByRecursion (λ (g : NamedFile). g.name ≡ f.name → ⊥) pre
others_mid [] f rest h = tt
others_mid (g ∷ pre) f rest h = ((λ e. all_mid (λ (m : List ℕ). m ≡ g.name → ⊥) pre f rest h.0 (sym e)), others_mid pre f rest h.1)

all_made : (pre rest : List NamedFile) (n : ℕ) → n ≡ length pre → IsTidy (pre ++ rest) → Made pre (rebuild_from n rest) (pre ++ rest)
all_made pre [] n here tidy = record { follow = tt; makes = sym (append-nil pre) }
all_made pre (f ∷ rest) n here tidy =
    let few = tidy.few in let l = length-append pre (f ∷ rest) in
    let again : pre ++ f ∷ [] ++ rest ≡ pre ++ f ∷ rest = append_assoc pre (f ∷ []) rest in
    subst (λ (fs : List NamedFile). Made pre (changes_making n f ++ rebuild_from (n + 1) rest) fs) again
    (Made_then pre (pre ++ f ∷ []) (pre ++ f ∷ [] ++ rest) (changes_making n f) (rebuild_from (n + 1) rest)
    (making_made pre f n here (omega arith) (each_mid pre f rest tidy.each) (others_mid pre f rest tidy.distinct))
    (all_made (pre ++ f ∷ []) rest (n + 1) (omega (arith, length-append pre (f ∷ []))) (subst IsTidy (sym again) tidy)))

none_length : length (body_of []) ≡ 0
unfolding body_of
none_length = refl

all_length : (n : ℕ) (fs : List NamedFile) → AllByRecursion IsTidyFile fs → length (body_of (rebuild_from n fs)) ≤ 16571 * length fs
all_length n [] each = omega (arith, none_length)
all_length n (f ∷ fs) each = omega (arith, body_append (changes_making n f) (rebuild_from (n + 1) fs), making_length n f each.0, all_length (n + 1) fs each.1)

each_short : (fs : List NamedFile) → AllByRecursion IsTidyFile fs → AllByRecursion (λ (f : NamedFile). length f.bytes ≤ 16384) fs
each_short [] each = tt
each_short (f ∷ fs) each = (each.0.short, each_short fs each.1)

half_room : (half : Bool) (cs : List Change) → length (body_of cs) < 1048507 → gate_after (start_of half) cs < end_of half
half_room false cs lt = omega arith
half_room true cs lt = omega arith

pub rebuilt : (all : List Change) → Follow [] all → CanBeRebuilt (files_after [] all)
unfolding rebuild
rebuilt all follow =
    let tidy = tidy_after all follow in
    let remade = all_made [] (files_after [] all) 0 refl tidy in
    record {
      few = tidy.few;
      short = each_short (files_after [] all) tidy.each;
      possible = remade.follow;
      makes = remade.makes;
      fits = λ half. half_room half (rebuild_from 0 (files_after [] all)) (let few = tidy.few in omega (arith, all_length 0 (files_after [] all) tidy.each));
    }

pub made_rebuilt : (files : List NamedFile) → IsMade files → CanBeRebuilt files
made_rebuilt files made = subst CanBeRebuilt (sym made.2) (rebuilt made.0 made.1)
