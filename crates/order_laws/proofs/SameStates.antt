-- Two states that agree on every carrier are one.
use Rattle.std.proofs.Common.{◌≡◌, ℕ, suc, ◌+◌, ◌<◌, ◌==◌, Bool, true, false, List, [], ◌∷◌, length, slice_get, Some, None, refl, sym, ap, ◌∙◌, arith}
use Rattle.std.specs.Prelude.{if◌then◌else◌}
use Rattle.std.proofs.lemmas.Bool.{eqb-true, eq-eqb, ne_eqb}
use Rattle.std.proofs.lemmas.List.{length-map}
use Rattle.disk_model.specs.declared.change.NamedFile.{NamedFile}
use Rattle.disk_model.specs.Numbers.{Numbered}
use Rattle.kernel_model.specs.Limits.{AreNumbered, RiseFrom}
use Rattle.kernel_model.specs.Rows.{Directory, directory, names_of}
use Rattle.kernel_model.specs.State.{SyncState, Process, PipeState, TapeState}
use Rattle.kernel_model.specs.declared.carrier.Carrier.{Carrier}
use Rattle.kernel_model.specs.declared.carrier.Carrier.TheVariants.{Proc, File, Names, Pipe, Tape}
use Rattle.kernel_laws.specs.Agreement.{AgreeOn, bytes_of}
use Rattle.kernel_laws.proofs.Files.{look, bytes_in, bytes_look}

-- lists with the same elements at all places
pub same_each : {A : Type 0} (xs ys : List A) → ((k : ℕ) → slice_get xs k ≡ slice_get ys k) → xs ≡ ys
same_each [] [] h = refl
same_each [] (y ∷ ys) h = absurd (let e = h 0 in let none : ⊥ = cc in none)
same_each (x ∷ xs) [] h = absurd (let e = h 0 in let none : ⊥ = cc in none)
same_each (x ∷ xs) (y ∷ ys) h =
    let e : Some x ≡ Some y = h 0 in
    let first : x ≡ y = cc in
    ap (λ z. z ∷ xs) first ∙ ap (λ zs. y ∷ zs) (same_each xs ys (λ k. h (suc k)))

-- numbers that rise above this one do not have it
look_less : {A : Type 0} (low high : ℕ) (ms : List ℕ) (xs : List A) (n : ℕ) → RiseFrom low high ms → n < low → look ms xs n ≡ None
look_less low high [] xs n rise less = refl
look_less low high (m ∷ ms) [] n rise less = refl
look_less low high (m ∷ ms) (x ∷ xs) n rise less =
    let off : (m == n) ≡ false = ne_eqb m n (λ (e : m ≡ n). omega (arith, e, less, rise.0)) in
    ap (λ (b : Bool). if b then Some x else look ms xs n) off ∙ look_less (m + 1) high ms xs n rise.2 (omega (arith, less, rise.0))

-- lists beside the same rising numbers, with the same elements by number
same_looked : {A : Type 0} (low high : ℕ) (ms : List ℕ) (xs ys : List A) → RiseFrom low high ms → length ms ≡ length xs → length ms ≡ length ys
    → ((n : ℕ) → look ms xs n ≡ look ms ys n) → xs ≡ ys
same_looked low high [] [] [] rise a b h = refl
same_looked low high [] [] (y ∷ ys) rise a b h = absurd (let none : ⊥ = omega (arith, b) in none)
same_looked low high [] (x ∷ xs) ys rise a b h = absurd (let none : ⊥ = omega (arith, a) in none)
same_looked low high (m ∷ ms) [] ys rise a b h = absurd (let none : ⊥ = omega (arith, a) in none)
same_looked low high (m ∷ ms) (x ∷ xs) [] rise a b h = absurd (let none : ⊥ = omega (arith, b) in none)
same_looked {A = A} low high (m ∷ ms) (x ∷ xs) (y ∷ ys) rise a b h =
    let at : (m == m) ≡ true = eq-eqb m m refl in
    let e : Some x ≡ Some y = sym (ap (λ (t : Bool). if t then Some x else look ms xs m) at) ∙ h m ∙ ap (λ (t : Bool). if t then Some y else look ms ys m) at in
    let first : x ≡ y = cc in
    ap (λ z. z ∷ xs) first ∙ ap (λ zs. y ∷ zs) (same_looked (m + 1) high ms xs ys rise.2 (omega (arith, a)) (omega (arith, b)) rest)
  where
    rest : (n : ℕ) → look ms xs n ≡ look ms ys n
    rest n = elim (m == n) as (λ t. (m == n) ≡ t → (if t then Some x else look ms xs n) ≡ (if t then Some y else look ms ys n) → look ms xs n ≡ look ms ys n) [
      | true ↦ λ is same. let one : m ≡ n = eqb-true m n is in
          look_less (m + 1) high ms xs n rise.2 (omega (arith, one)) ∙ sym (look_less (m + 1) high ms ys n rise.2 (omega (arith, one)))
      | false ↦ λ is same. same
    ] refl (h n)

-- files with the same names and the same bytes
same_files : (xs ys : List NamedFile) → names_of xs ≡ names_of ys → bytes_in xs ≡ bytes_in ys → xs ≡ ys
same_files [] [] names bytes = refl
same_files [] (y ∷ ys) names bytes = absurd (let none : ⊥ = cc in none)
same_files (x ∷ xs) [] names bytes = absurd (let none : ⊥ = cc in none)
same_files (x ∷ xs) (y ∷ ys) names bytes =
    let name : x.name ≡ y.name = cc in
    let content : x.bytes ≡ y.bytes = cc in
    let more : names_of xs ≡ names_of ys = cc in
    let others : bytes_in xs ≡ bytes_in ys = cc in
    let first : x ≡ y = ap (λ (n : List ℕ). record { name = n; bytes = x.bytes }) name ∙ ap (λ (bs : List ℕ). record { name = y.name; bytes = bs }) content in
    ap (λ (z : NamedFile). z ∷ xs) first ∙ ap (λ zs. y ∷ zs) (same_files xs ys more others)

pub same_numbered : (a b : Numbered) → AreNumbered a → AreNumbered b → directory a ≡ directory b → ((n : ℕ) → bytes_of a n ≡ bytes_of b n) → a ≡ b
same_numbered a b are also names bytes =
    let numbers : a.numbers ≡ b.numbers = ap (λ (d : Directory). d.numbers) names in
    let made : a.made ≡ b.made = ap (λ (d : Directory). d.next) names in
    let named : names_of a.living ≡ names_of b.living = ap (λ (d : Directory). d.names) names in
    let looked : (n : ℕ) → look a.numbers (bytes_in a.living) n ≡ look a.numbers (bytes_in b.living) n =
    (λ n. sym (bytes_look a n) ∙ bytes n ∙ bytes_look b n ∙ ap (λ (ms : List ℕ). look ms (bytes_in b.living) n) (sym numbers)) in
    let size : length (bytes_in a.living) ≡ length a.living = length-map a.living (λ (f : NamedFile). f.bytes) in
    let other : length (bytes_in b.living) ≡ length b.living = length-map b.living (λ (f : NamedFile). f.bytes) in
    let content : bytes_in a.living ≡ bytes_in b.living =
    same_looked 0 a.made a.numbers (bytes_in a.living) (bytes_in b.living) are.rise (are.each ∙ sym size) (ap length numbers ∙ also.each ∙ sym other) looked in
    ap (λ (fs : List NamedFile). record { living = fs; numbers = a.numbers; made = a.made }) (same_files a.living b.living named content)
    ∙ ap (λ (ms : List ℕ). record { living = b.living; numbers = ms; made = a.made }) numbers
    ∙ ap (λ (n : ℕ). record { living = b.living; numbers = b.numbers; made = n }) made

pub same_state : (s t : SyncState) → AreNumbered s.files → AreNumbered t.files → ((c : Carrier) → AgreeOn s t c) → s ≡ t
same_state s t are also h =
    ap (λ (ps : List Process). record s { processes = ps }) (same_each s.processes t.processes (λ k. h (Proc (suc k))))
    ∙ ap (λ (fs : Numbered). record { processes = t.processes; files = fs; pipes = s.pipes; tapes = s.tapes }) (same_numbered s.files t.files are also (h Names) (λ n. h (File n)))
    ∙ ap (λ (ps : List PipeState). record { processes = t.processes; files = t.files; pipes = ps; tapes = s.tapes }) (same_each s.pipes t.pipes (λ k. h (Pipe k)))
    ∙ ap (λ (ts : List TapeState). record { processes = t.processes; files = t.files; pipes = t.pipes; tapes = ts }) (same_each s.tapes t.tapes (λ k. h (Tape k)))
