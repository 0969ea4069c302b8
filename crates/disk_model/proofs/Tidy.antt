-- Files that possible changes made are few and short, and have good and different names.
use Rattle.std.proofs.Common.{◌≡◌, ℕ, zero, suc, ◌+◌, ◌-◌, ◌<◌, ◌≤◌, List, [], ◌∷◌, ◌++◌, length, take, drop, set, replicate, Option, Some, None, refl, sym, ap, subst, ◌∙◌, arith, length-append, Bool, true, false}
use Rattle.std.specs.Prelude.{slice_get}
use Rattle.std.specs.List.{AllByRecursion, remove}
use Rattle.std.proofs.lemmas.List.{length-take, length-drop, length-set, length-replicate}
use Rattle.std.specs.Prelude.{if◌then◌else◌}
use Rattle.std.specs.Str.{bytes_eq}
use Rattle.std.proofs.lemmas.Slice.Eq.{bytes_eq-Decides}
use Rattle.disk_model.specs.declared.change.Change.{Change}
use Rattle.disk_model.specs.declared.change.Change.TheVariants.{Create, Write, Empty, Remove, Rename}
use Rattle.disk_model.specs.declared.change.NamedFile.{NamedFile}
use Rattle.disk_model.specs.Files.{IsFormed, IsName, MayCome, Follow, IsMade, IsNameByte, FilesHoldBytes, changed, files_after, with_bytes, with_name, without, place_named, loser, patched}
use Rattle.disk_model.proofs.Lists.{each_get, each_set, each_append, each_take, each_drop}
use Rattle.disk_model.proofs.Naming.{names, Distinct, Finds, finds, names_set, names_remove, each_remove, distinct_remove, distinct_set, distinct_moved}

abbrev pub IsByte : ℕ → Type 0
IsByte b = b < 256

all_zeros : (n : ℕ) → AllByRecursion IsByte (replicate n 0)
all_zeros zero = tt
all_zeros (suc n) = (omega arith, all_zeros n)

pub record IsTidyFile (f : NamedFile) : Type 0 where
  pub name : IsName f.name
  pub bytes : AllByRecursion IsByte f.bytes
  pub short : length f.bytes ≤ 16384

pub record IsTidy (fs : List NamedFile) : Type 0 where
  pub few : length fs ≤ 32
  pub each : AllByRecursion IsTidyFile fs
  pub distinct : Distinct (names fs)

names_more : (fs : List NamedFile) (f : NamedFile) → names (fs ++ f ∷ []) ≡ names fs ++ f.name ∷ []
names_more [] f = refl
names_more (g ∷ fs) f = ap (λ (l : List (List ℕ)). g.name ∷ l) (names_more fs f)

none_named : (fs : List NamedFile) (name : List ℕ) → AllByRecursion (λ (f : NamedFile). f.name ≡ name → ⊥) fs → AllByRecursion (λ (m : List ℕ). m ≡ name → ⊥) (names fs)
none_named [] name f = tt
none_named (g ∷ fs) name f = (f.0, none_named fs name f.1)

distinct_more : (ns : List (List ℕ)) (n : List ℕ) → Distinct ns → AllByRecursion (λ (m : List ℕ). m ≡ n → ⊥) ns → Distinct (ns ++ n ∷ [])
distinct_more [] n d f = (tt, tt)
distinct_more (m ∷ ns) n d f = (each_append (λ (k : List ℕ). k ≡ m → ⊥) ns (n ∷ []) d.0 ((λ e. f.0 (sym e)), tt), distinct_more ns n d.1 f.1)

-- a file whose name stays
same_name : (fs : List NamedFile) (n : ℕ) (f : NamedFile) → slice_get fs n ≡ Some f → set (names fs) n f.name ≡ names fs
same_name [] n f e = refl
same_name (x ∷ fs) zero f e = let same : x ≡ f = cc in ap (λ (y : NamedFile). y.name ∷ names fs) (sym same)
same_name (x ∷ fs) (suc n) f e = ap (λ (l : List (List ℕ)). x.name ∷ l) (same_name fs n f e)

with_tidy : (fs : List NamedFile) (n : ℕ) (h : List ℕ → List ℕ) → IsTidy fs → ((old : List ℕ) → AllByRecursion IsByte old → length old ≤ 16384 → AllByRecursion IsByte (h old) × (length (h old) ≤ 16384))
    → (o : Option NamedFile) → slice_get fs n ≡ o → IsTidy (with_bytes fs n o h)
with_tidy fs n h t good None e = t
with_tidy fs n h t good (Some f) e =
    let one = each_get IsTidyFile fs n f t.each e in
    let b = good f.bytes one.bytes one.short in
    let file : NamedFile = record { name = f.name; bytes = h f.bytes } in record {
      few = (let l = t.few in omega (arith, length-set fs n file));
      each = each_set IsTidyFile fs n file (record { name = one.name; bytes = b.0; short = b.1 }) t.each;
      distinct = subst Distinct (sym (names_set fs n file ∙ same_name fs n f e)) t.distinct;
    }

pub patched_short : (old : List ℕ) (offset : ℕ) (bytes : List ℕ) → offset + length bytes ≤ 16384 → length old ≤ 16384 → length (patched old offset bytes) ≤ 16384
patched_short old offset bytes a b = omega (
  arith,
  length-append (take offset old ++ replicate (offset - length old) 0 ++ bytes) (drop (offset + length bytes) old),
  length-append (take offset old ++ replicate (offset - length old) 0) bytes,
  length-append (take offset old) (replicate (offset - length old) 0),
  length-take offset old,
  length-drop (offset + length bytes) old,
  length-replicate {A = ℕ} (offset - length old) 0,
)

patched_bytes : (old : List ℕ) (offset : ℕ) (bytes : List ℕ) → AllByRecursion IsByte bytes → AllByRecursion IsByte old → AllByRecursion IsByte (patched old offset bytes)
patched_bytes old offset bytes f g =
    each_append IsByte (take offset old ++ replicate (offset - length old) 0 ++ bytes) (drop (offset + length bytes) old)
    (each_append IsByte (take offset old ++ replicate (offset - length old) 0) bytes
    (each_append IsByte (take offset old) (replicate (offset - length old) 0) (each_take IsByte offset old g) (all_zeros (offset - length old))) f)
    (each_drop IsByte (offset + length bytes) old g)

-- one file is gone
removed_tidy : (fs : List NamedFile) (n : ℕ) → IsTidy fs → IsTidy (without fs (Some n))
removed_tidy fs n t = record {
  few = (let l = t.few in omega (arith, length-append (take n fs) (drop (suc n) fs), length-take n fs, length-drop (suc n) fs));
  each = each_remove IsTidyFile fs n t.each;
  distinct = subst Distinct (sym (names_remove fs n)) (distinct_remove (names fs) n t.distinct);
}

-- where a file has the name it is gone, and another one has the name
moved_tidy : (fs : List NamedFile) (n : ℕ) (f : NamedFile) (name : List ℕ) → IsName name → IsTidy fs → slice_get fs n ≡ Some f → (f.name ≡ name → ⊥)
    → (o : Option ℕ) → Finds 0 fs name o → IsTidy (without (set fs n (record { name = name; bytes = f.bytes })) o)
moved_tidy fs n f name good t e other None h =
    let one = each_get IsTidyFile fs n f t.each e in
    let file : NamedFile = record { name = name; bytes = f.bytes } in record {
      few = (let l = t.few in omega (arith, length-set fs n file));
      each = each_set IsTidyFile fs n file (record { name = good; bytes = one.bytes; short = one.short }) t.each;
      distinct = subst Distinct (sym (names_set fs n file)) (distinct_set (names fs) n name h t.distinct);
    }
moved_tidy fs n f name good t e other (Some at) h =
    let one = each_get IsTidyFile fs n f t.each e in
    let file : NamedFile = record { name = name; bytes = f.bytes } in
    let is : h.0 ≡ at = omega (arith, h.1) in
    let found : slice_get (names fs) at ≡ Some name = subst (λ k. slice_get (names fs) k ≡ Some name) is h.2 in record {
      few = (let l = t.few in omega (arith, length-append (take at (set fs n file)) (drop (suc at) (set fs n file)), length-take at (set fs n file), length-drop (suc at) (set fs n file), length-set fs n file));
      each = each_remove IsTidyFile (set fs n file) at (each_set IsTidyFile fs n file (record { name = good; bytes = one.bytes; short = one.short }) t.each);
      distinct = subst Distinct (sym (names_remove (set fs n file) at ∙ ap (λ l. remove l at) (names_set fs n file)))
          (distinct_moved (names fs) at n name found (λ same. other (named_once fs n f name e (subst (λ k. slice_get (names fs) k ≡ Some name) same found))) t.distinct);
    }
  where
    named_once : (gs : List NamedFile) (k : ℕ) (g : NamedFile) (m : List ℕ) → slice_get gs k ≡ Some g → slice_get (names gs) k ≡ Some m → g.name ≡ m
    named_once [] k g m a b = absurd (let no : ⊥ = cc in no)
    named_once (x ∷ gs) zero g m a b = let is : x ≡ g = cc in let too : x.name ≡ m = cc in ap (λ (y : NamedFile). y.name) (sym is) ∙ too
    named_once (x ∷ gs) (suc k) g m a b = named_once gs k g m a b

renamed_tidy : (fs : List NamedFile) (n : ℕ) (name : List ℕ) → IsName name → IsTidy fs → ((f : NamedFile) → slice_get fs n ≡ Some f → f.name ≡ name → ⊥) → n < length fs
    → (o : Option NamedFile) → slice_get fs n ≡ o → IsTidy (without (with_name fs n o name) (loser fs o name))
renamed_tidy fs n name good t other there None e = absurd (get_none fs n there e)
  where
    get_none : (gs : List NamedFile) (k : ℕ) → k < length gs → slice_get gs k ≡ None → ⊥
    get_none [] k lt a = omega arith
    get_none (x ∷ gs) zero lt a = let no : ⊥ = cc in no
    get_none (x ∷ gs) (suc k) lt a = get_none gs k (omega arith) a
renamed_tidy fs n name good t other there (Some f) e =
    let differ : bytes_eq f.name name ≡ false = is_false (bytes_eq f.name name) (λ h. other f e ((bytes_eq-Decides f.name name).0 h)) in
    subst (λ (b : Bool). IsTidy (without (with_name fs n (Some f) name) (if b then None else place_named fs name))) (sym differ)
    (moved_tidy fs n f name good t e (other f e) (place_named fs name) (finds fs name))
  where
    is_false : (b : Bool) → (b ≡ true → ⊥) → b ≡ false
    is_false true h = absurd (h refl)
    is_false false h = refl

changed_tidy : (fs : List NamedFile) (c : Change) → IsFormed c → MayCome fs c → IsTidy fs → IsTidy (changed fs c)
changed_tidy fs (Create name) f m t = record {
  few = (let l = m.1 in omega (arith, length-append fs (record { name = name; bytes = [] } ∷ [])));
  each = each_append IsTidyFile fs (record { name = name; bytes = [] } ∷ []) t.each (record { name = f; bytes = tt; short = omega arith }, tt);
  distinct = subst Distinct (sym (names_more fs (record { name = name; bytes = [] }))) (distinct_more (names fs) name t.distinct (none_named fs name m.0));
}
changed_tidy fs (Write n offset bytes) f m t =
    with_tidy fs n (λ old. patched old offset bytes) t (λ old b s. (patched_bytes old offset bytes f.4 b, patched_short old offset bytes m.1 s)) (slice_get fs n) refl
changed_tidy fs (Empty n) f m t = with_tidy fs n (λ old. []) t (λ old b s. (tt, omega arith)) (slice_get fs n) refl
changed_tidy fs (Remove n) f m t = removed_tidy fs n t
changed_tidy fs (Rename n name) f m t = renamed_tidy fs n name f.1 t m.1 m.0 (slice_get fs n) refl

tidy_from : (fs : List NamedFile) (cs : List Change) → Follow fs cs → IsTidy fs → IsTidy (files_after fs cs)
tidy_from fs [] f t = t
tidy_from fs (c ∷ cs) f t = tidy_from (changed fs c) cs f.2 (changed_tidy fs c f.0 f.1 t)

pub tidy_after : (cs : List Change) → Follow [] cs → IsTidy (files_after [] cs)
tidy_after cs f = tidy_from [] cs f (record { few = omega arith; each = tt; distinct = tt })

-- a byte of a name is a byte
name_bytes : (name : List ℕ) → AllByRecursion IsNameByte name → AllByRecursion IsByte name
name_bytes [] h = tt
name_bytes (b ∷ name) h = (let most = h.0.1 in omega arith, name_bytes name h.1)

tidy_bytes : (fs : List NamedFile) → AllByRecursion IsTidyFile fs → FilesHoldBytes fs
tidy_bytes [] h = tt
tidy_bytes (f ∷ fs) h = ((name_bytes f.name h.0.name.2, h.0.bytes), tidy_bytes fs h.1)

pub made_bytes : (fs : List NamedFile) → IsMade fs → FilesHoldBytes fs
made_bytes fs made = subst FilesHoldBytes (sym made.2) (tidy_bytes (files_after [] made.0) (tidy_after made.0 made.1).each)
