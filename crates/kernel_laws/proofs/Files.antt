-- What an edit of a file leaves of each file's bytes and of the names. It depends on the edit, on what stood there, and on the names.
use Rattle.std.proofs.Common.{◌≡◌, ℕ, zero, suc, ◌+◌, ◌<◌, ◌==◌, Bool, true, false, cond, List, [], ◌∷◌, ◌++◌, length, map, slice_get, slice_set, Option, Some, None, refl, sym, ap, subst, ◌∙◌, arith}
use Rattle.std.specs.Prelude.{if◌then◌else◌, option_map}
use Rattle.std.specs.List.{position, position_from, remove}
use Rattle.std.specs.Str.{bytes_eq}
use Rattle.std.proofs.lemmas.Bool.{eqb-true, eqb-false, ne_eqb}
use Rattle.std.proofs.lemmas.Iterator.Adapters.{position_from-zero}
use Rattle.std.proofs.lemmas.List.{length-map}
use Rattle.disk_model.specs.declared.change.Change.TheVariants as change
use Rattle.disk_model.specs.declared.change.NamedFile.{NamedFile}
use Rattle.disk_model.specs.Files.{loser, patched, place_named, with_bytes, with_name, without}
use Rattle.disk_model.specs.Numbers.{Numbered, at_place, place_of}
use Rattle.disk_model.proofs.Lists.{get_same, get_other}
use Rattle.kernel_model.specs.Limits.{AreNumbered, RiseFrom}
use Rattle.kernel_model.specs.Rows.{Directory, directory, names_of}
use Rattle.kernel_model.specs.State.{changed_by}
use Rattle.kernel_model.specs.Steps.{change_by}
use Rattle.kernel_model.specs.declared.effect.FileEdit.{FileEdit}
use Rattle.kernel_model.specs.declared.effect.FileEdit.TheVariants as edit
use Rattle.kernel_model.proofs.Names.{place_there, rise_least}
use Rattle.kernel_laws.specs.Agreement.{bytes_of}

-- ---- the element by a number, where the numbers of a list's elements stand in another list
abbrev pub look : {A : Type 0} → List ℕ → List A → ℕ → Option A
look [] xs n = None
look (m ∷ ms) [] n = None
look (m ∷ ms) (x ∷ xs) n = if m == n then Some x else look ms xs n

shift : {A : Type 0} (test : A → Bool) (i : ℕ) (xs : List A) → position_from test (i + 1) xs ≡ option_map (λ (k : ℕ). suc k) (position_from test i xs)
shift test i [] = refl
shift test i (x ∷ xs) =
    elim (test x) as (λ b. cond b (Some (i + 1)) (position_from test (i + 1 + 1) xs) ≡ option_map (λ (k : ℕ). suc k) (cond b (Some i) (position_from test (i + 1) xs))) [
      | true ↦ (let one : i + 1 ≡ suc i = omega arith in ap (λ (k : ℕ). Some k) one)
      | false ↦ shift test (i + 1) xs
    ]

at_nil : {A : Type 0} (o : Option ℕ) → at_place {A = A} [] o ≡ None
at_nil None = refl
at_nil (Some k) = refl

at_later : {A : Type 0} (x : A) (xs : List A) (o : Option ℕ) → at_place (x ∷ xs) (option_map (λ (k : ℕ). suc k) o) ≡ at_place xs o
at_later x xs None = refl
at_later x xs (Some k) = refl

look_from : {A : Type 0} (ms : List ℕ) (xs : List A) (n : ℕ) → at_place xs (position_from (λ (m : ℕ). m == n) 0 ms) ≡ look ms xs n
look_from [] xs n = refl
look_from (m ∷ ms) [] n = at_nil (position_from (λ (k : ℕ). k == n) 0 (m ∷ ms))
look_from (m ∷ ms) (x ∷ xs) n =
    elim (m == n) as (λ b. at_place (x ∷ xs) (cond b (Some 0) (position_from (λ (k : ℕ). k == n) (0 + 1) ms)) ≡ (if b then Some x else look ms xs n)) [
      | true ↦ refl
      | false ↦ ap (at_place (x ∷ xs)) (shift (λ (k : ℕ). k == n) 0 ms) ∙ at_later x xs (position_from (λ (k : ℕ). k == n) 0 ms) ∙ look_from ms xs n
    ]

look_is : {A : Type 0} (ms : List ℕ) (xs : List A) (n : ℕ) → at_place xs (position (λ (m : ℕ). m == n) ms) ≡ look ms xs n
look_is ms xs n = ap (at_place xs) (position_from-zero (λ (m : ℕ). m == n) ms) ∙ look_from ms xs n

look_map : {A B : Type 0} (f : A → B) (ms : List ℕ) (xs : List A) (n : ℕ) → option_map f (look ms xs n) ≡ look ms (map f xs) n
look_map f [] xs n = refl
look_map f (m ∷ ms) [] n = refl
look_map f (m ∷ ms) (x ∷ xs) n = elim (m == n) as (λ b. option_map f (if b then Some x else look ms xs n) ≡ (if b then Some (f x) else look ms (map f xs) n)) [
  | true ↦ refl
  | false ↦ look_map f ms xs n
]

-- a file's bytes
abbrev pub bytes_in : List NamedFile → List (List ℕ)
bytes_in files = map (λ (f : NamedFile). f.bytes) files

pub bytes_look : (files : Numbered) (n : ℕ) → bytes_of files n ≡ look files.numbers (bytes_in files.living) n
bytes_look files n = ap (λ (o : Option NamedFile). option_map (λ (f : NamedFile). f.bytes) o) (look_is files.numbers files.living n) ∙ look_map (λ (f : NamedFile). f.bytes) files.numbers files.living n

-- ---- one more
look_nil : {A : Type 0} (ms : List ℕ) (n : ℕ) → look {A = A} ms [] n ≡ None
look_nil [] n = refl
look_nil (m ∷ ms) n = refl

-- none is above all of them, or below them
look_less : {A : Type 0} (low high : ℕ) (ms : List ℕ) (xs : List A) (n : ℕ) → RiseFrom low high ms → n < low → look ms xs n ≡ None
look_less low high [] xs n rise less = refl
look_less low high (m ∷ ms) [] n rise less = refl
look_less low high (m ∷ ms) (x ∷ xs) n rise less =
    let not_it : (m == n) ≡ false = ne_eqb m n (λ (e : m ≡ n). omega (arith, rise.0, less, e)) in
    let after : n < m + 1 = omega (arith, rise.0, less) in
    ap (λ (b : Bool). if b then Some x else look ms xs n) not_it ∙ look_less (m + 1) high ms xs n rise.2 after

look_last : {A : Type 0} (low high : ℕ) (ms : List ℕ) (xs : List A) (y : A) (n : ℕ) → RiseFrom low high ms → length ms ≡ length xs
    → look (ms ++ high ∷ []) (xs ++ y ∷ []) n ≡ (if high == n then Some y else look ms xs n)
look_last low high [] [] y n rise same = refl
look_last low high [] (x ∷ xs) y n rise same = absurd (let no : ⊥ = omega (arith, same) in no)
look_last low high (m ∷ ms) [] y n rise same = absurd (let no : ⊥ = omega (arith, same) in no)
look_last low high (m ∷ ms) (x ∷ xs) y n rise same =
    elim (m == n) as (λ b. (m == n) ≡ b → (if b then Some x else look (ms ++ high ∷ []) (xs ++ y ∷ []) n) ≡ (if high == n then Some y else if b then Some x else look ms xs n)) [
      | true ↦ λ is.
          let not_it : (high == n) ≡ false = ne_eqb high n (λ (e : high ≡ n). omega (arith, rise.1, eqb-true m n is, e)) in
          sym (ap (λ (b : Bool). if b then Some y else Some x) not_it)
      | false ↦ λ is. look_last (m + 1) high ms xs y n rise.2 (omega (arith, same))
    ] refl

-- ---- one less
abbrev pub without_number : {A : Type 0} → Option ℕ → ℕ → Option A → Option A
without_number None n o = o
without_number (Some m) n o = if m == n then None else o

without_none : {A : Type 0} (o : Option ℕ) (n : ℕ) → without_number {A = A} o n None ≡ None
without_none None n = refl
without_none {A = A} (Some k) n = elim (k == n) as (λ b. ◌≡◌ {A = Option A} (if b then None else None) None) [ true ↦ refl | false ↦ refl ]

look_removed : {A : Type 0} (low high : ℕ) (ms : List ℕ) (xs : List A) (place n : ℕ) → RiseFrom low high ms
    → look (remove ms place) (remove xs place) n ≡ without_number (slice_get ms place) n (look ms xs n)
look_removed low high [] xs zero n rise = refl
look_removed low high [] xs (suc place) n rise = refl
look_removed low high (m ∷ ms) [] zero n rise = look_nil ms n ∙ sym (without_none (Some m) n)
look_removed low high (m ∷ ms) [] (suc place) n rise = sym (without_none (slice_get ms place) n)
look_removed low high (m ∷ ms) (x ∷ xs) zero n rise =
    elim (m == n) as (λ b. (m == n) ≡ b → look ms xs n ≡ (if b then None else if b then Some x else look ms xs n)) [
      | true ↦ λ is. (let less : n < m + 1 = omega (arith, eqb-true m n is) in look_less (m + 1) high ms xs n rise.2 less)
      | false ↦ λ is. refl
    ] refl
look_removed low high (m ∷ ms) (x ∷ xs) (suc place) n rise =
    elim (m == n) as (λ b. (m == n) ≡ b → (if b then Some x else look (remove ms place) (remove xs place) n) ≡ without_number (slice_get ms place) n (if b then Some x else look ms xs n)) [
      | true ↦ λ is. first (slice_get ms place) refl is
      | false ↦ λ is. look_removed (m + 1) high ms xs place n rise.2
    ] refl
  where
    first : (o : Option ℕ) → slice_get ms place ≡ o → (m == n) ≡ true → Some x ≡ without_number o n (Some x)
    first None at is = refl
    first (Some k) at is =
        let not_it : (k == n) ≡ false = ne_eqb k n (λ (e : k ≡ n). omega (arith, rise_least (m + 1) high ms place k rise.2 at, eqb-true m n is, e)) in
        sym (ap (λ (b : Bool). if b then None else Some x) not_it)

look_without : {A : Type 0} (high : ℕ) (ms : List ℕ) (xs : List A) (o : Option ℕ) (n : ℕ) → RiseFrom 0 high ms
    → look (without ms o) (without xs o) n ≡ without_number (at_place ms o) n (look ms xs n)
look_without high ms xs None n rise = refl
look_without high ms xs (Some place) n rise = look_removed 0 high ms xs place n rise

-- ---- maps
map_set : {A B : Type 0} (f : A → B) (xs : List A) (i : ℕ) (x : A) → map f (slice_set xs i x) ≡ slice_set (map f xs) i (f x)
map_set f [] i x = refl
map_set f (y ∷ ys) zero x = refl
map_set f (y ∷ ys) (suc i) x = ap (λ zs. f y ∷ zs) (map_set f ys i x)

map_removed : {A B : Type 0} (f : A → B) (xs : List A) (i : ℕ) → map f (remove xs i) ≡ remove (map f xs) i
map_removed f [] zero = refl
map_removed f [] (suc i) = refl
map_removed f (x ∷ xs) zero = refl
map_removed f (x ∷ xs) (suc i) = ap (λ zs. f x ∷ zs) (map_removed f xs i)

map_without : {A B : Type 0} (f : A → B) (xs : List A) (o : Option ℕ) → map f (without xs o) ≡ without (map f xs) o
map_without f xs None = refl
map_without f xs (Some i) = map_removed f xs i

map_last : {A B : Type 0} (f : A → B) (xs : List A) (x : A) → map f (xs ++ x ∷ []) ≡ map f xs ++ f x ∷ []
map_last f [] x = refl
map_last f (y ∷ ys) x = ap (λ zs. f y ∷ zs) (map_last f ys x)

map_get : {A B : Type 0} (f : A → B) (xs : List A) (i : ℕ) → slice_get (map f xs) i ≡ option_map f (slice_get xs i)
map_get f [] i = refl
map_get f (x ∷ xs) zero = refl
map_get f (x ∷ xs) (suc i) = map_get f xs i

set_there : {A : Type 0} (xs : List A) (i : ℕ) (x : A) → slice_get xs i ≡ Some x → slice_set xs i x ≡ xs
set_there [] i x e = refl
set_there (y ∷ ys) zero x e = let same : x ≡ y = cc in ap (λ z. z ∷ ys) same
set_there (y ∷ ys) (suc i) x e = ap (λ zs. y ∷ zs) (set_there ys i x e)

position_map : {A B : Type 0} (f : A → B) (test : B → Bool) (i : ℕ) (xs : List A) → position_from (λ x. test (f x)) i xs ≡ position_from test i (map f xs)
position_map f test i [] = refl
position_map f test i (x ∷ xs) = ap (λ (o : Option ℕ). cond (test (f x)) (Some i) o) (position_map f test (i + 1) xs)

position_named : (files : List NamedFile) (name : List ℕ) → place_named files name ≡ position (λ other. bytes_eq other name) (names_of files)
position_named files name =
    position_from-zero (λ (f : NamedFile). bytes_eq f.name name) files
    ∙ position_map (λ (f : NamedFile). f.name) (λ other. bytes_eq other name) 0 files
    ∙ sym (position_from-zero (λ other. bytes_eq other name) (names_of files))

-- bytes keep names, and names keep bytes
names_kept : (files : List NamedFile) (place : ℕ) (o : Option NamedFile) (f : List ℕ → List ℕ) → slice_get files place ≡ o → names_of (with_bytes files place o f) ≡ names_of files
names_kept files place None f at = refl
names_kept files place (Some file) f at =
    map_set (λ (g : NamedFile). g.name) files place (record { name = file.name; bytes = f file.bytes })
    ∙ set_there (names_of files) place file.name (map_get (λ (g : NamedFile). g.name) files place ∙ ap (λ (o : Option NamedFile). option_map (λ (g : NamedFile). g.name) o) at)

bytes_kept : (files : List NamedFile) (place : ℕ) (o : Option NamedFile) (name : List ℕ) → slice_get files place ≡ o → bytes_in (with_name files place o name) ≡ bytes_in files
bytes_kept files place None name at = refl
bytes_kept files place (Some file) name at =
    map_set (λ (g : NamedFile). g.bytes) files place (record { name = name; bytes = file.bytes })
    ∙ set_there (bytes_in files) place file.bytes (map_get (λ (g : NamedFile). g.bytes) files place ∙ ap (λ (o : Option NamedFile). option_map (λ (g : NamedFile). g.bytes) o) at)

-- ---- what the names become
abbrev named_at : List (List ℕ) → ℕ → Option (List ℕ) → List ℕ → List (List ℕ)
named_at names place None name = names
named_at names place (Some old) name = slice_set names place name

abbrev pub loser_in : List (List ℕ) → Option (List ℕ) → List ℕ → Option ℕ
loser_in names None name = None
loser_in names (Some old) name = if bytes_eq old name then None else position (λ other. bytes_eq other name) names

abbrev pub lost_by : Directory → ℕ → List ℕ → Option ℕ
lost_by dir place name = loser_in dir.names (slice_get dir.names place) name

abbrev removed_from : Directory → Option ℕ → Directory
removed_from dir None = dir
removed_from dir (Some place) = record { names = remove dir.names place; numbers = remove dir.numbers place; next = dir.next }

abbrev renamed_in : Directory → Option ℕ → List ℕ → Directory
renamed_in dir None name = dir
renamed_in dir (Some place) name = record {
  names = without (named_at dir.names place (slice_get dir.names place) name) (lost_by dir place name);
  numbers = without dir.numbers (lost_by dir place name);
  next = dir.next;
}

abbrev pub place_in : Directory → ℕ → Option ℕ
place_in dir number = position (λ (m : ℕ). m == number) dir.numbers

abbrev pub names_after : Directory → FileEdit → Directory
names_after dir (edit.Create name) = record { names = dir.names ++ name ∷ []; numbers = dir.numbers ++ dir.next ∷ []; next = dir.next + 1 }
names_after dir (edit.Write file offset bytes) = dir
names_after dir (edit.Empty file) = dir
names_after dir (edit.Remove file) = removed_from dir (place_in dir file)
names_after dir (edit.Rename file name) = renamed_in dir (place_in dir file) name

loser_same : (files : List NamedFile) (o : Option NamedFile) (name : List ℕ) → loser files o name ≡ loser_in (names_of files) (option_map (λ (f : NamedFile). f.name) o) name
loser_same files None name = refl
loser_same files (Some file) name = ap (λ (p : Option ℕ). if bytes_eq file.name name then None else p) (position_named files name)

lost_same : (files : Numbered) (place : ℕ) (name : List ℕ) → loser files.living (slice_get files.living place) name ≡ lost_by (directory files) place name
lost_same files place name =
    loser_same files.living (slice_get files.living place) name
    ∙ ap (λ (o : Option (List ℕ)). loser_in (names_of files.living) o name) (sym (map_get (λ (f : NamedFile). f.name) files.living place))

named_same : (files : List NamedFile) (place : ℕ) (o : Option NamedFile) (name : List ℕ)
    → names_of (with_name files place o name) ≡ named_at (names_of files) place (option_map (λ (f : NamedFile). f.name) o) name
named_same files place None name = refl
named_same files place (Some file) name = map_set (λ (g : NamedFile). g.name) files place (record { name = name; bytes = file.bytes })

pub directory_after : (files : Numbered) (e : FileEdit) → directory (changed_by files (change_by files (Some e))) ≡ names_after (directory files) e
directory_after files (edit.Create name) =
    ap (λ (ns : List (List ℕ)). record { names = ns; numbers = files.numbers ++ files.made ∷ []; next = files.made + 1 }) (map_last (λ (f : NamedFile). f.name) files.living (record { name = name; bytes = [] }))
directory_after files (edit.Write file offset bytes) = by (place_of files file)
  where
    by : (o : Option ℕ) → directory (changed_by files (option_map (λ place. change.Write place offset bytes) o)) ≡ directory files
    by None = refl
    by (Some place) = ap (λ (ns : List (List ℕ)). record { names = ns; numbers = files.numbers; next = files.made }) (names_kept files.living place (slice_get files.living place) (λ old. patched old offset bytes) refl)
directory_after files (edit.Empty file) = by (place_of files file)
  where
    by : (o : Option ℕ) → directory (changed_by files (option_map change.Empty o)) ≡ directory files
    by None = refl
    by (Some place) = ap (λ (ns : List (List ℕ)). record { names = ns; numbers = files.numbers; next = files.made }) (names_kept files.living place (slice_get files.living place) (λ old. []) refl)
directory_after files (edit.Remove file) = by (place_of files file)
  where
    by : (o : Option ℕ) → directory (changed_by files (option_map change.Remove o)) ≡ removed_from (directory files) o
    by None = refl
    by (Some place) = ap (λ (ns : List (List ℕ)). record { names = ns; numbers = remove files.numbers place; next = files.made }) (map_removed (λ (f : NamedFile). f.name) files.living place)
directory_after files (edit.Rename file name) = by (place_of files file)
  where
    by : (o : Option ℕ) → directory (changed_by files (option_map (λ place. change.Rename place name) o)) ≡ renamed_in (directory files) o name
    by None = refl
    by (Some place) =
        let o = slice_get files.living place in
        let lost = loser files.living o name in
        ap (λ (ns : List (List ℕ)). record { names = ns; numbers = without files.numbers lost; next = files.made })
        (map_without (λ (f : NamedFile). f.name) (with_name files.living place o name) lost
        ∙ ap (λ (ns : List (List ℕ)). without ns lost) (named_same files.living place o name
        ∙ ap (λ (p : Option (List ℕ)). named_at (names_of files.living) place p name) (sym (map_get (λ (f : NamedFile). f.name) files.living place))))
        ∙ ap (λ (l : Option ℕ). record { names = without (named_at (names_of files.living) place (slice_get (names_of files.living) place) name) l; numbers = without files.numbers l; next = files.made }) (lost_same files place name)

-- ---- what each file's bytes become
abbrev pub lost_number : Directory → Option ℕ → List ℕ → Option ℕ
lost_number dir None name = None
lost_number dir (Some place) name = at_place dir.numbers (lost_by dir place name)

abbrev pub bytes_after : Directory → FileEdit → ℕ → Option (List ℕ) → Option (List ℕ)
bytes_after dir (edit.Create name) n o = if dir.next == n then Some [] else o
bytes_after dir (edit.Write file offset bytes) n o = if file == n then option_map (λ old. patched old offset bytes) o else o
bytes_after dir (edit.Empty file) n o = if file == n then option_map (λ old. []) o else o
bytes_after dir (edit.Remove file) n o = without_number (Some file) n o
bytes_after dir (edit.Rename file name) n o = without_number (lost_number dir (place_in dir file) name) n o

-- the file of a number that has no place has no bytes
no_bytes : (files : Numbered) (n : ℕ) → place_of files n ≡ None → bytes_of files n ≡ None
no_bytes files n e = ap (λ (o : Option ℕ). option_map (λ (f : NamedFile). f.bytes) (at_place files.living o)) e

-- bytes that are changed at a file's place
module _ (files : Numbered) (file : ℕ) (f : List ℕ → List ℕ) where
  abbrev after_at : Option ℕ → Numbered
  after_at None = files
  after_at (Some place) = record files { living = with_bytes files.living place (slice_get files.living place) f }

  abbrev changed_one : ℕ → Option (List ℕ) → Option (List ℕ)
  changed_one n o = if file == n then option_map f o else o

  at_it : (place : ℕ) (o : Option NamedFile) → slice_get files.living place ≡ o
      → option_map (λ (g : NamedFile). g.bytes) (slice_get (with_bytes files.living place o f) place) ≡ option_map f (option_map (λ (g : NamedFile). g.bytes) o)
  at_it place None at = ap (λ (o : Option NamedFile). option_map (λ (g : NamedFile). g.bytes) o) at
  at_it place (Some g) at = ap (λ (o : Option NamedFile). option_map (λ (g : NamedFile). g.bytes) o) (get_same files.living place (record { name = g.name; bytes = f g.bytes }) g at)

  at_other : (place j : ℕ) (o : Option NamedFile) → (j ≡ place → ⊥) → slice_get (with_bytes files.living place o f) j ≡ slice_get files.living j
  at_other place j None other = refl
  at_other place j (Some g) other = get_other files.living place j (record { name = g.name; bytes = f g.bytes }) other

  -- the file itself
  same_file : (o : Option ℕ) → place_of files file ≡ o → option_map (λ (g : NamedFile). g.bytes) (at_place (after_at o).living (place_of files file)) ≡ option_map f (bytes_of files file)
  same_file None is = ap (λ (o : Option ℕ). option_map (λ (g : NamedFile). g.bytes) (at_place files.living o)) is ∙ sym (ap (option_map f) (no_bytes files file is))
  same_file (Some place) is =
      ap (λ (o : Option ℕ). option_map (λ (g : NamedFile). g.bytes) (at_place (with_bytes files.living place (slice_get files.living place) f) o)) is
      ∙ at_it place (slice_get files.living place) refl
      ∙ ap (λ (o : Option ℕ). option_map f (option_map (λ (g : NamedFile). g.bytes) (at_place files.living o))) (sym is)

  -- another one
  other_place : (place : ℕ) (n : ℕ) (o : Option ℕ) → place_of files n ≡ o → place_of files file ≡ Some place → (file ≡ n → ⊥)
      → at_place (with_bytes files.living place (slice_get files.living place) f) o ≡ at_place files.living o
  other_place place n None is at other = refl
  other_place place n (Some j) is at other =
      at_other place j (slice_get files.living place) (λ (e : j ≡ place).
      let here = (place_there files file place at).1 in
      let there = (place_there files n j is).1 in
      let same : slice_get files.numbers j ≡ slice_get files.numbers place = ap (slice_get files.numbers) e in
      let both : file ≡ n = cc in other both)

  other_file : (n : ℕ) (o : Option ℕ) → place_of files file ≡ o → (file ≡ n → ⊥)
      → option_map (λ (g : NamedFile). g.bytes) (at_place (after_at o).living (place_of files n)) ≡ bytes_of files n
  other_file n None is other = refl
  other_file n (Some place) is other = ap (λ (p : Option NamedFile). option_map (λ (g : NamedFile). g.bytes) p) (other_place place n (place_of files n) refl is other)

  pub changed_at : (n : ℕ) → bytes_of (record files { living = (after_at (place_of files file)).living }) n ≡ changed_one n (bytes_of files n)
  changed_at n = elim (file == n) as (λ b. (file == n) ≡ b → bytes_of (record files { living = (after_at (place_of files file)).living }) n ≡ (if b then option_map f (bytes_of files n) else bytes_of files n)) [
    | true ↦ λ is. subst (λ (k : ℕ). option_map (λ (g : NamedFile). g.bytes) (at_place (after_at (place_of files file)).living (place_of files k)) ≡ option_map f (bytes_of files k)) (eqb-true file n is) (same_file (place_of files file) refl)
    | false ↦ λ is. other_file n (place_of files file) refl (eqb-false file n is)
  ] refl

pub bytes_changed : (files : Numbered) (e : FileEdit) (n : ℕ) → AreNumbered files
    → bytes_of (changed_by files (change_by files (Some e))) n ≡ bytes_after (directory files) e n (bytes_of files n)
bytes_changed files (edit.Create name) n are =
    let new = record files { living = files.living ++ record { name = name; bytes = [] } ∷ []; numbers = files.numbers ++ files.made ∷ [] } in
    bytes_look new n
    ∙ ap (λ (bs : List (List ℕ)). look (files.numbers ++ files.made ∷ []) bs n) (map_last (λ (f : NamedFile). f.bytes) files.living (record { name = name; bytes = [] }))
    ∙ look_last 0 files.made files.numbers (bytes_in files.living) [] n are.rise (are.each ∙ sym (length-map files.living (λ (f : NamedFile). f.bytes)))
    ∙ ap (λ (o : Option (List ℕ)). if files.made == n then Some [] else o) (sym (bytes_look files n))
bytes_changed files (edit.Write file offset bytes) n are = by (place_of files file) ∙ changed_at files file (λ old. patched old offset bytes) n
  where
    by : (o : Option ℕ) → bytes_of (changed_by files (option_map (λ place. change.Write place offset bytes) o)) n
        ≡ bytes_of (record files { living = (after_at files file (λ old. patched old offset bytes) o).living }) n
    by None = refl
    by (Some place) = refl
bytes_changed files (edit.Empty file) n are = by (place_of files file) ∙ changed_at files file (λ old. []) n
  where
    by : (o : Option ℕ) → bytes_of (changed_by files (option_map change.Empty o)) n
        ≡ bytes_of (record files { living = (after_at files file (λ old. []) o).living }) n
    by None = refl
    by (Some place) = refl
bytes_changed files (edit.Remove file) n are = by (place_of files file) refl
  where
    gone : (b : Bool) → (file == n) ≡ b → place_of files file ≡ None → bytes_of files n ≡ (if b then None else bytes_of files n)
    gone true is none = no_bytes files n (ap (place_of files) (sym (eqb-true file n is)) ∙ none)
    gone false is none = refl

    by : (o : Option ℕ) → place_of files file ≡ o → bytes_of (changed_by files (option_map change.Remove o)) n ≡ without_number (Some file) n (bytes_of files n)
    by None is = gone (file == n) refl is
    by (Some place) is =
        bytes_look (record files { living = remove files.living place; numbers = remove files.numbers place }) n
        ∙ ap (λ (bs : List (List ℕ)). look (remove files.numbers place) bs n) (map_removed (λ (f : NamedFile). f.bytes) files.living place)
        ∙ look_removed 0 files.made files.numbers (bytes_in files.living) place n are.rise
        ∙ ap (λ (o : Option ℕ). without_number o n (look files.numbers (bytes_in files.living) n)) (place_there files file place is).1
        ∙ ap (λ (o : Option (List ℕ)). without_number (Some file) n o) (sym (bytes_look files n))
bytes_changed files (edit.Rename file name) n are = by (place_of files file)
  where
    by : (o : Option ℕ) → bytes_of (changed_by files (option_map (λ place. change.Rename place name) o)) n
        ≡ without_number (lost_number (directory files) o name) n (bytes_of files n)
    by None = refl
    by (Some place) =
        let o = slice_get files.living place in
        let lost = loser files.living o name in
        bytes_look (record files { living = without (with_name files.living place o name) lost; numbers = without files.numbers lost }) n
        ∙ ap (λ (bs : List (List ℕ)). look (without files.numbers lost) bs n) (map_without (λ (f : NamedFile). f.bytes) (with_name files.living place o name) lost
        ∙ ap (λ (bs : List (List ℕ)). without bs lost) (bytes_kept files.living place o name refl))
        ∙ look_without files.made files.numbers (bytes_in files.living) lost n are.rise
        ∙ ap (λ (l : Option ℕ). without_number (at_place files.numbers l) n (look files.numbers (bytes_in files.living) n)) (lost_same files place name)
        ∙ ap (λ (p : Option (List ℕ)). without_number (at_place files.numbers (lost_by (directory files) place name)) n p) (sym (bytes_look files n))
