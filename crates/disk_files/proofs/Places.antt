-- The file of a name, by its place.
use Rattle.std.proofs.Common.{◌≡◌, ℕ, zero, suc, ◌+◌, ◌-◌, ◌≤◌, ◌<◌, true, false, cond, List, [], ◌∷◌, ◌++◌, length, take, drop, replicate, Option, Some, None, refl, sym, ap, ◌∙◌, subst, arith, length-take}
use Rattle.std.specs.Prelude.{IfSome, slice_get, slice_set}
use Rattle.std.specs.List.{position_from}
use Rattle.std.specs.Str.{bytes_eq}
use Rattle.std.proofs.lemmas.Iterator.Adapters.{position_from-zero}
use Rattle.std.proofs.lemmas.List.{append-nil, drop_all, take_all}
use lib.Seq.{take-add}
use Rattle.disk_model.specs.declared.change.Change.TheVariants.{Create, Empty, Write}
use Rattle.disk_model.specs.declared.change.NamedFile.{NamedFile}
use Rattle.disk_model.specs.Files.{changed, patched, place_named, with_bytes}
use Rattle.disk_model.proofs.Lists.{get_same, set_same, slice_get-last}
use Rattle.disk_files.specs.Putting.{with_file}

-- the file at a place gets these bytes
abbrev rewritten : List NamedFile → ℕ → List ℕ → List NamedFile
rewritten files place bytes = with_bytes files place (slice_get files place) (λ _. bytes)

-- a file that is not the first is that of the rest
later : (f : NamedFile) (fs : List NamedFile) (k : ℕ) (o : Option NamedFile) (bytes : List ℕ)
    → with_bytes (f ∷ fs) (suc k) o (λ _. bytes) ≡ f ∷ with_bytes fs k o (λ _. bytes)
later f fs k None bytes = refl
later f fs k (Some g) bytes = refl

-- the first file of the name is there
abbrev IsFirst : List NamedFile → List ℕ → ℕ → Type 0
IsFirst [] name k = ⊥
IsFirst (f ∷ fs) name zero = bytes_eq f.name name ≡ true
IsFirst (f ∷ fs) name (suc k) = (bytes_eq f.name name ≡ false) × IsFirst fs name k

first_from : (n : ℕ) (fs : List NamedFile) (name : List ℕ) (p : ℕ) → position_from (λ (f : NamedFile). bytes_eq f.name name) n fs ≡ Some p
    → (k : ℕ) × (p ≡ n + k) × IsFirst fs name k
first_from n [] name p e = absurd (let no : ⊥ = cc in no)
first_from n (f ∷ fs) name p e =
    elim (bytes_eq f.name name) as (λ b. bytes_eq f.name name ≡ b
    → cond b (Some n) (position_from (λ (g : NamedFile). bytes_eq g.name name) (n + 1) fs) ≡ Some p
    → (k : ℕ) × (p ≡ n + k) × IsFirst (f ∷ fs) name k) [
      | true ↦ λ is found. let same : n ≡ p = cc in (0, omega arith, is)
      | false ↦ λ is found. let r = first_from (n + 1) fs name p found in (suc r.0, omega (arith, r.1), (is, r.2))
    ] refl e

first_at : (fs : List NamedFile) (name : List ℕ) (p : ℕ) → place_named fs name ≡ Some p → IsFirst fs name p
first_at fs name p e =
    let r = first_from 0 fs name p (sym (position_from-zero (λ (f : NamedFile). bytes_eq f.name name) fs) ∙ e) in
    let same : r.0 ≡ p = omega (arith, r.1) in
    subst (IsFirst fs name) same r.2

-- the file of the name, emptied, gets bytes
refilled : (fs : List NamedFile) (name bytes : List ℕ) (k : ℕ) → IsFirst fs name k → rewritten (rewritten fs k []) k bytes ≡ with_file fs name bytes
refilled [] name bytes k first = absurd first
refilled (f ∷ fs) name bytes zero first = rw first refl
refilled (f ∷ fs) name bytes (suc k) first =
    rw first.0 (ap (λ (l : List NamedFile). rewritten l (suc k) bytes) (later f fs k (slice_get fs k) [])
    ∙ later f (rewritten fs k []) k (slice_get (rewritten fs k []) k) bytes
    ∙ ap (λ (l : List NamedFile). f ∷ l) (refilled fs name bytes k first.1))

pub emptied : (fs new : List NamedFile) (name bytes : List ℕ) (place file : ℕ) → place_named fs name ≡ Some place → file ≡ place → new ≡ changed fs (Empty file)
    → with_bytes new file (slice_get new file) (λ _. bytes) ≡ with_file fs name bytes
emptied fs new name bytes place file found at is =
    ap (λ (l : List NamedFile). rewritten l file bytes) is
    ∙ ap (λ (k : ℕ). rewritten (rewritten fs k []) k bytes) at
    ∙ refilled fs name bytes place (first_at fs name place found)

-- a file that is added gets bytes
filled : (n : ℕ) (fs : List NamedFile) (name bytes : List ℕ) → position_from (λ (f : NamedFile). bytes_eq f.name name) n fs ≡ None
    → rewritten (fs ++ record { name = name; bytes = [] } ∷ []) (length fs) bytes ≡ with_file fs name bytes
filled n [] name bytes none = refl
filled n (f ∷ fs) name bytes none =
    elim (bytes_eq f.name name) as (λ b. bytes_eq f.name name ≡ b
    → cond b (Some n) (position_from (λ (g : NamedFile). bytes_eq g.name name) (n + 1) fs) ≡ None
    → rewritten (f ∷ fs ++ record { name = name; bytes = [] } ∷ []) (suc (length fs)) bytes ≡ with_file (f ∷ fs) name bytes) [
      | true ↦ λ is found. let no : ⊥ = cc in absurd no
      | false ↦ λ is found. rw is (later f (fs ++ record { name = name; bytes = [] } ∷ []) (length fs) (slice_get (fs ++ record { name = name; bytes = [] } ∷ []) (length fs)) bytes
          ∙ ap (λ (l : List NamedFile). f ∷ l) (filled (n + 1) fs name bytes found))
    ] refl none

pub added : (fs new : List NamedFile) (name bytes : List ℕ) (file : ℕ) → place_named fs name ≡ None → file ≡ length fs → new ≡ changed fs (Create name)
    → with_bytes new file (slice_get new file) (λ _. bytes) ≡ with_file fs name bytes
added fs new name bytes file none at is =
    ap (λ (l : List NamedFile). rewritten l file bytes) is
    ∙ ap (λ (k : ℕ). rewritten (fs ++ record { name = name; bytes = [] } ∷ []) k bytes) at
    ∙ filled 0 fs name bytes (sym (position_from-zero (λ (f : NamedFile). bytes_eq f.name name) fs) ∙ none)

-- it is empty before
pub added_empty : (fs new : List NamedFile) (name : List ℕ) (file : ℕ) → file ≡ length fs → new ≡ changed fs (Create name)
    → IfSome (slice_get new file) (λ (f : NamedFile). f.bytes ≡ [])
added_empty fs new name file at is =
    let there : slice_get new file ≡ Some (record { name = name; bytes = [] }) =
    ap (λ (l : List NamedFile). slice_get l file) is ∙ ap (λ (k : ℕ). slice_get (fs ++ record { name = name; bytes = [] } ∷ []) k) at ∙ slice_get-last fs (record { name = name; bytes = [] }) in
    subst (λ (o : Option NamedFile). IfSome o (λ (f : NamedFile). f.bytes ≡ [])) (sym there) refl

-- ---- bytes that are written part by part

same_empty : (fs : List NamedFile) (place : ℕ) (o : Option NamedFile) → slice_get fs place ≡ o → IfSome o (λ (f : NamedFile). f.bytes ≡ [])
    → fs ≡ with_bytes fs place o (λ _. [])
same_empty fs place None there empty = refl
same_empty fs place (Some f) there empty =
    let same : f ≡ record { name = f.name; bytes = [] } = ap (λ (l : List ℕ). record { name = f.name; bytes = l }) empty in
    sym (set_same fs place (record { name = f.name; bytes = [] }) (there ∙ ap (λ (g : NamedFile). Some g) same))

-- an empty file has its first no bytes
pub none_written : (fs : List NamedFile) (place : ℕ) → IfSome (slice_get fs place) (λ (f : NamedFile). f.bytes ≡ [])
    → fs ≡ with_bytes fs place (slice_get fs place) (λ _. [])
none_written fs place empty = same_empty fs place (slice_get fs place) refl empty

patched_end : (old bytes : List ℕ) (n : ℕ) → n ≡ length old → patched old n bytes ≡ old ++ bytes
patched_end old bytes n at =
    ap (λ (l : List ℕ). l ++ replicate (n - length old) 0 ++ bytes ++ drop (n + length bytes) old) (take_all n old (omega arith))
    ∙ ap (λ (k : ℕ). old ++ replicate k 0 ++ bytes ++ drop (n + length bytes) old) (let z : n - length old ≡ 0 = omega arith in z)
    ∙ ap (λ (l : List ℕ). l ++ bytes ++ drop (n + length bytes) old) (append-nil old)
    ∙ ap (λ (l : List ℕ). old ++ bytes ++ l) (drop_all (n + length bytes) old (omega arith))
    ∙ append-nil (old ++ bytes)

twice : (fs : List NamedFile) (k : ℕ) (f g : NamedFile) → slice_set (slice_set fs k f) k g ≡ slice_set fs k g
twice [] k f g = refl
twice (h ∷ fs) zero f g = refl
twice (h ∷ fs) (suc k) f g = ap (λ (l : List NamedFile). h ∷ l) (twice fs k f g)

more : (fs : List NamedFile) (place : ℕ) (o : Option NamedFile) (bytes : List ℕ) (offset size : ℕ) → slice_get fs place ≡ o → offset < length bytes
    → changed (with_bytes fs place o (λ _. take offset bytes)) (Write place offset (take size (drop offset bytes))) ≡ with_bytes fs place o (λ _. take (offset + size) bytes)
more fs place None bytes offset size there lt =
    ap (λ (o : Option NamedFile). with_bytes fs place o (λ old. patched old offset (take size (drop offset bytes)))) there
more fs place (Some f) bytes offset size there lt =
    let was : NamedFile = record { name = f.name; bytes = take offset bytes } in
    let now : NamedFile = record { name = f.name; bytes = take (offset + size) bytes } in
    ap (λ (o : Option NamedFile). with_bytes (slice_set fs place was) place o (λ old. patched old offset (take size (drop offset bytes)))) (get_same fs place was f there)
    ∙ ap (λ (l : List ℕ). slice_set (slice_set fs place was) place (record { name = f.name; bytes = l }))
    (patched_end (take offset bytes) (take size (drop offset bytes)) offset (omega (arith, length-take offset bytes)) ∙ sym (take-add offset size bytes))
    ∙ twice fs place was now

-- one part more is written
pub more_written : (fs now new : List NamedFile) (place : ℕ) (bytes part : List ℕ) (offset size : ℕ)
    → now ≡ with_bytes fs place (slice_get fs place) (λ _. take offset bytes) → part ≡ take size (drop offset bytes) → offset < length bytes
    → new ≡ changed now (Write place offset part) → new ≡ with_bytes fs place (slice_get fs place) (λ _. take (offset + size) bytes)
more_written fs now new place bytes part offset size was is lt done =
    done ∙ ap (λ (l : List NamedFile). changed l (Write place offset part)) was
    ∙ ap (λ (l : List ℕ). changed (with_bytes fs place (slice_get fs place) (λ _. take offset bytes)) (Write place offset l)) is
    ∙ more fs place (slice_get fs place) bytes offset size refl lt

-- all of them
pub all_written : (fs now : List NamedFile) (place : ℕ) (bytes : List ℕ) (offset : ℕ)
    → now ≡ with_bytes fs place (slice_get fs place) (λ _. take offset bytes) → length bytes ≤ offset
    → now ≡ with_bytes fs place (slice_get fs place) (λ _. bytes)
all_written fs now place bytes offset is end = is ∙ ap (λ (l : List ℕ). with_bytes fs place (slice_get fs place) (λ _. l)) (take_all offset bytes end)
