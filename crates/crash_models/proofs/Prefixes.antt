-- The model `bench` leaves the files after each prefix of the changes, and no others.
use Rattle.std.proofs.Common.{◌≡◌, ℕ, zero, suc, ◌+◌, ◌*◌, ◌/◌, ◌%◌, ◌<◌, ◌≤◌, ◌==◌, Bool, true, false, cond, List, [], ◌∷◌, ◌++◌, length, take, drop, get_or, slice_get, Option, Some, None, refl, sym, ap, subst, ◌∙◌, arith, ext_get_or, take-append-drop}
use Rattle.std.specs.Prelude.{if◌then◌else◌, is_some, slice_index}
use Rattle.std.specs.List.{AllByRecursion, position, position_from}
use Rattle.std.specs.Str.{bytes_eq}
use Rattle.std.proofs.lemmas.Bool.{eq-eqb, ne_eqb}
use Rattle.std.proofs.Math.Nat.{div-add-mod, mod-lt}
use Rattle.std.proofs.lemmas.Iterator.Adapters.{position_from-zero}
use Rattle.std.proofs.lemmas.List.Quantifiers.{position-Some}
use Rattle.std.proofs.lemmas.Option.{get_or_from_slice_get, slice_get_within}
use Rattle.std.proofs.lemmas.Slice.Eq.{bytes_eq-Decides}
use Rattle.disk_model.specs.declared.change.Change.{Change}
use Rattle.disk_model.specs.declared.change.NamedFile.{NamedFile}
use Rattle.disk_model.specs.Files.{Follow, IsMade, files_after, place_named}
use Rattle.disk_model.specs.Numbers.{Numbered, at_place, changed_numbered, file_of, lives, numbered_after, place_of}
use Rattle.disk_model.proofs.Lists.{each_get}
use Rattle.disk_model.proofs.Naming.{Distinct, IsOther, names}
use Rattle.disk_model.proofs.Reading.{follow_split, made_after}
use Rattle.disk_model.proofs.Tidy.{tidy_after}
use Rattle.kernel_model.specs.Limits.{AreNumbered, RiseFrom}
use Rattle.kernel_model.proofs.Numbering.{numbered_changed}
use Rattle.crash_models.specs.Models.{BenchLeaves, HasBytes, IsBench, IsLeftAt, IsNamed, Moments, at_moment, bytes_at, bytes_of, file_named, number_named}

-- ---- files and their numbers, after changes

pub living_after : (files : Numbered) (cs : List Change) → (numbered_after files cs).living ≡ files_after files.living cs
living_after files [] = refl
living_after files (c ∷ cs) = living_after (changed_numbered files c) cs

in_order : (files : Numbered) (cs : List Change) → AreNumbered files → AreNumbered (numbered_after files cs)
in_order files [] are = are
in_order files (c ∷ cs) are = in_order (changed_numbered files c) cs (numbered_changed files (Some c) are)

made_to : (files : List NamedFile) (changes : List Change) (k : ℕ) → IsMade files → Follow files changes → IsMade (files_after files (take k changes))
made_to files changes k made follow =
    made_after files (take k changes) made (follow_split files (take k changes) (drop k changes) (subst (Follow files) (sym (take-append-drop k changes)) follow)).0

-- ---- searches

-- the first place that passes
found_from : {A : Type 0} (passes : A → Bool) (n : ℕ) (xs : List A) (place : ℕ) (x : A) → slice_get xs place ≡ Some x → passes x ≡ true
    → ((q : ℕ) (y : A) → q < place → slice_get xs q ≡ Some y → passes y ≡ false) → position_from passes n xs ≡ Some (n + place)
found_from passes n [] place x e is others = absurd (let no : ⊥ = cc in no)
found_from passes n (y ∷ xs) zero x e is others =
    let same : y ≡ x = cc in
    let at : n ≡ n + 0 = omega arith in
    ap (λ (b : Bool). cond b (Some n) (position_from passes (n + 1) xs)) (ap passes same ∙ is) ∙ ap Some at
found_from passes n (y ∷ xs) (suc place) x e is others =
    let at : n + 1 + place ≡ n + suc place = omega arith in
    ap (λ (b : Bool). cond b (Some n) (position_from passes (n + 1) xs)) (others 0 y (omega arith) refl)
    ∙ found_from passes (n + 1) xs place x e is (λ q z lt f. others (suc q) z (omega arith) f)
    ∙ ap Some at

found : {A : Type 0} (passes : A → Bool) (xs : List A) (place : ℕ) (x : A) → slice_get xs place ≡ Some x → passes x ≡ true
    → ((q : ℕ) (y : A) → q < place → slice_get xs q ≡ Some y → passes y ≡ false) → position passes xs ≡ Some place
found passes xs place x e is others =
    let at : 0 + place ≡ place = omega arith in
    position_from-zero passes xs ∙ found_from passes 0 xs place x e is others ∙ ap Some at

-- what stands at a place of the list
there : {A : Type 0} (xs : List A) (place : ℕ) → place < length xs → (x : A) × (slice_get xs place ≡ Some x)
there [] place lt = absurd (omega arith)
there (x ∷ xs) zero lt = (x, refl)
there (x ∷ xs) (suc place) lt = there xs place (omega arith)

-- ---- by numbers

above : (low high : ℕ) (ns : List ℕ) (place n : ℕ) → RiseFrom low high ns → slice_get ns place ≡ Some n → low ≤ n
above low high [] place n rise e = absurd (let no : ⊥ = cc in no)
above low high (m ∷ ns) zero n rise e = let same : m ≡ n = cc in omega (arith, rise.0)
above low high (m ∷ ns) (suc place) n rise e = let more = above (m + 1) high ns place n rise.2 e in omega (arith, rise.0)

rising : (low high : ℕ) (ns : List ℕ) (p q a b : ℕ) → RiseFrom low high ns → q < p → slice_get ns q ≡ Some a → slice_get ns p ≡ Some b → a < b
rising low high [] p q a b rise lt e f = absurd (let no : ⊥ = cc in no)
rising low high (n ∷ ns) zero q a b rise lt e f = absurd (omega arith)
rising low high (n ∷ ns) (suc p) zero a b rise lt e f = let same : n ≡ a = cc in let more = above (n + 1) high ns p b rise.2 f in omega arith
rising low high (n ∷ ns) (suc p) (suc q) a b rise lt e f = rising (n + 1) high ns p q a b rise.2 (omega arith) e f

-- the number of a file that lives, and the file of a number
number_at : (files : Numbered) (place : ℕ) (file : NamedFile) → AreNumbered files → slice_get files.living place ≡ Some file → (number : ℕ) × (slice_get files.numbers place ≡ Some number)
number_at files place file are e = there files.numbers place (let lt = slice_get_within files.living place file e in omega (arith, are.each))

file_at : (files : Numbered) (place number : ℕ) → AreNumbered files → slice_get files.numbers place ≡ Some number → (file : NamedFile) × (slice_get files.living place ≡ Some file)
file_at files place number are e = there files.living place (let lt = slice_get_within files.numbers place number e in omega (arith, are.each))

place_found : (files : Numbered) (number place : ℕ) → AreNumbered files → slice_get files.numbers place ≡ Some number → place_of files number ≡ Some place
place_found files number place are e =
    found (λ (n : ℕ). n == number) files.numbers place number e (eq-eqb number number refl)
    (λ q n lt f. ne_eqb n number (λ same. let less = rising 0 files.made files.numbers place q n number are.rise lt f e in let no : ⊥ = omega arith in no))

-- the last bytes of a file that lives are those that it has
bytes_there : (files : Numbered) (changes : List Change) (k number place : ℕ) → AreNumbered (at_moment files changes k)
    → slice_get (at_moment files changes k).numbers place ≡ Some number
    → bytes_at files changes number k ≡ bytes_of (slice_get (at_moment files changes k).living place)
bytes_there files changes zero number place are e = ap (λ (o : Option ℕ). bytes_of (at_place files.living o)) (place_found files number place are e)
bytes_there files changes (suc t) number place are e =
    let now = at_moment files changes (suc t) in
    let at : place_of now number ≡ Some place = place_found now number place are e in
    let file = file_at now place number are e in
    ap (λ (b : Bool). if b then bytes_of (file_of now number) else bytes_at files changes number t) (ap (λ (o : Option ℕ). is_some (at_place now.living o)) at ∙ ap (λ (o : Option NamedFile). is_some o) file.1)
    ∙ ap (λ (o : Option ℕ). bytes_of (at_place now.living o)) at

-- ---- by names

apart : (ns : List (List ℕ)) (p q : ℕ) (a b : List ℕ) → Distinct ns → q < p → slice_get ns q ≡ Some a → slice_get ns p ≡ Some b → a ≡ b → ⊥
apart [] p q a b distinct lt e f same = let no : ⊥ = cc in no
apart (n ∷ ns) zero q a b distinct lt e f same = omega arith
apart (n ∷ ns) (suc p) zero a b distinct lt e f same = let is : b ≡ n = cc in each_get (IsOther n) ns p b distinct.0 f is
apart (n ∷ ns) (suc p) (suc q) a b distinct lt e f same = apart ns p q a b distinct.1 (omega arith) e f same

name_at : (files : List NamedFile) (place : ℕ) (file : NamedFile) → slice_get files place ≡ Some file → slice_get (names files) place ≡ Some file.name
name_at [] place file e = absurd (let no : ⊥ = cc in no)
name_at (f ∷ fs) zero file e = let same : f ≡ file = cc in ap (λ (g : NamedFile). Some g.name) same
name_at (f ∷ fs) (suc place) file e = name_at fs place file e

is_false : (b : Bool) → (b ≡ true → ⊥) → b ≡ false
is_false true h = absurd (h refl)
is_false false h = refl

named_once : (files : List NamedFile) (place : ℕ) (file : NamedFile) → Distinct (names files) → slice_get files place ≡ Some file → place_named files file.name ≡ Some place
named_once files place file distinct e =
    found (λ (f : NamedFile). bytes_eq f.name file.name) files place file e ((bytes_eq-Decides file.name file.name).1 refl)
    (λ q f lt g. is_false (bytes_eq f.name file.name) (λ same. apart (names files) place q f.name file.name distinct lt (name_at files q f g) (name_at files place file e) ((bytes_eq-Decides f.name file.name).0 same)))

-- the file that is found has the name
has_name : (files : List NamedFile) (name : List ℕ) (place : ℕ) → place_named files name ≡ Some place
    → (file : NamedFile) × (slice_get files place ≡ Some file) × (file.name ≡ name)
has_name files name place e =
    let found = position-Some (λ (f : NamedFile). bytes_eq f.name name) files place (record { name = []; bytes = [] }) e in
    let file = there files place found.0 in
    (file.0, file.1, (bytes_eq-Decides file.0.name name).0 (ap (λ (f : NamedFile). bytes_eq f.name name) (sym (get_or_from_slice_get files place file.0 (record { name = []; bytes = [] }) file.1)) ∙ found.1))

-- ---- bench leaves them

abbrev always : ℕ → Moments
always k = record { name = λ name. k; size = λ number. k; bytes = λ number part. k }

module _ (files : Numbered) (changes : List Change) (k : ℕ) (are : AreNumbered (at_moment files changes k)) where
  abbrev now : Numbered
  now = at_moment files changes k

  named_is : (name : List ℕ) (o : Option ℕ) → place_named now.living name ≡ o → IsNamed files changes (always k) name (at_place now.numbers o) o now.living
  named_is name None e = tt
  named_is name (Some place) e =
      let file = has_name now.living name place e in
      let number = number_at now place file.0 are file.1 in
      let same = sym (bytes_there files changes k number.0 place are number.1) in
      let has : HasBytes files changes (always k) number.0 (bytes_of (slice_get now.living place)) = record {
        size = ap (λ (bs : List ℕ). length bs) same;
        each = λ part j lt in_file. ap (λ (bs : List ℕ). slice_index bs (512 * part + j)) same;
      } in
      subst (λ (q : Option ℕ). IsNamed files changes (always k) name q (Some place) now.living) (sym number.1) has

  left_now : Distinct (names now.living) → IsLeftAt files changes (always k) now.living
  left_now distinct = record {
    named = λ name. named_is name (place_named now.living name) refl;
    distinct = λ place file e. named_once now.living place file distinct e;
  }

pub bench_leaves : (files : Numbered) (changes : List Change) (k : ℕ) → AreNumbered files → IsMade files.living → Follow files.living changes → k ≤ length changes
    → BenchLeaves files changes (files_after files.living (take k changes))
bench_leaves files changes k are made follow le =
    let made_now = made_to files.living changes k made follow in
    let distinct : Distinct (names (files_after files.living (take k changes))) =
    subst (λ (fs : List NamedFile). Distinct (names fs)) (sym made_now.2) (tidy_after made_now.0 made_now.1).distinct in
    let same = living_after files (take k changes) in
    let left = left_now files changes k (in_order files (take k changes) are) (subst (λ (fs : List NamedFile). Distinct (names fs)) (sym same) distinct) in
    let bench : IsBench changes (always k) k = record {
      within = record { name = λ name. le; size = λ number. le; bytes = λ number part. le };
      name = λ name. refl;
      size = λ number. refl;
      bytes = λ number part. refl;
    } in
    (always k, k, bench, subst (IsLeftAt files changes (always k)) same left)

-- ---- and no others

same_bytes : (files : Numbered) (changes : List Change) (m : Moments) (at number : ℕ) (bytes : List ℕ) → IsBench changes m at → HasBytes files changes m number bytes
    → bytes ≡ bytes_at files changes number at
same_bytes files changes m at number bytes bench has =
    ext_get_or 0 bytes (bytes_at files changes number at) (has.size ∙ ap (λ (t : ℕ). length (bytes_at files changes number t)) (bench.size number))
    (λ i lt.
    let is : 512 * (i / 512) + i % 512 ≡ i = div-add-mod i 512 in
    let one = has.each (i / 512) (i % 512) (mod-lt i {m = 512} (omega arith)) (subst (λ (j : ℕ). j < length bytes) (sym is) lt) in
    ap (λ (j : ℕ). get_or bytes j 0) (sym is) ∙ one
    ∙ ap (λ (t : ℕ). get_or (bytes_at files changes number t) (512 * (i / 512) + i % 512) 0) (bench.bytes number (i / 512))
    ∙ ap (λ (j : ℕ). get_or (bytes_at files changes number at) j 0) is)

same_file : (f g : NamedFile) → f.name ≡ g.name → f.bytes ≡ g.bytes → f ≡ g
same_file f g names_same bytes_same =
    ap (λ (name : List ℕ). let file : NamedFile = record { name = name; bytes = f.bytes } in file) names_same
    ∙ ap (λ (bytes : List ℕ). let file : NamedFile = record { name = g.name; bytes = bytes } in file) bytes_same

module _ (files : Numbered) (changes : List Change) (m : Moments) (k : ℕ) (bench : IsBench changes m k) (left : List NamedFile) (are : AreNumbered (at_moment files changes k)) where
  abbrev after : Numbered
  after = at_moment files changes k

  same_at : (name : List ℕ) (p number : ℕ) (file : NamedFile) (q : Option ℕ) → slice_get after.numbers p ≡ Some number → slice_get after.living p ≡ Some file
      → file.name ≡ name → place_named left name ≡ q → IsNamed files changes m name (Some number) q left → at_place left q ≡ slice_get after.living p
  same_at name p number file None at here named e is = absurd is
  same_at name p number file (Some q) at here named e is =
      let other = has_name left name q e in
      let bytes : bytes_of (slice_get left q) ≡ bytes_of (slice_get after.living p) =
      same_bytes files changes m k number (bytes_of (slice_get left q)) bench is ∙ bytes_there files changes k number p are at in
      other.1 ∙ ap Some (same_file other.0 file (other.2 ∙ sym named) (ap bytes_of (sym other.1) ∙ bytes ∙ ap bytes_of here)) ∙ sym here

  same_named : (name : List ℕ) (p q : Option ℕ) → place_named after.living name ≡ p → place_named left name ≡ q
      → IsNamed files changes m name (at_place after.numbers p) q left → at_place left q ≡ at_place after.living p
  same_named name None None e f is = refl
  same_named name None (Some q) e f is = absurd is
  same_named name (Some p) q e f is =
      let file = has_name after.living name p e in
      let number = number_at after p file.0 are file.1 in
      same_at name p number.0 file.0 q number.1 file.1 file.2 f (subst (λ (o : Option ℕ). IsNamed files changes m name o q left) number.1 is)

pub bench_only : (files : Numbered) (changes : List Change) (left : List NamedFile) → AreNumbered files → BenchLeaves files changes left
    → (k : ℕ) × (k ≤ length changes) × ((name : List ℕ) → file_named left name ≡ file_named (files_after files.living (take k changes)) name)
bench_only files changes left are h =
    let k = h.1 in (
      k,
      subst (λ (t : ℕ). t ≤ length changes) (h.2.name []) (h.2.within.name []),
      λ name.
          same_named files changes h.0 k h.2 left (in_order files (take k changes) are) name
          (place_named (at_moment files changes k).living name) (place_named left name) refl refl
          (subst (λ (t : ℕ). IsNamed files changes h.0 name (number_named (at_moment files changes t) name) (place_named left name) left) (h.2.name name) (h.3.named name))
          ∙ ap (λ (fs : List NamedFile). file_named fs name) (living_after files (take k changes)),
    )
