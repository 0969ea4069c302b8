-- What was spelled is read again.
use Rattle.std.proofs.Common.{◌≡◌, ℕ, zero, suc, ◌+◌, ◌^◌, ◌<◌, ◌≤◌, true, false, ltb, List, [], ◌∷◌, ◌++◌, length, Result, Ok, refl, ap, ◌∙◌, arith}
use Rattle.std.specs.Prelude.{slice_get, ◌&&◌, not, nat_le, nat_lt, ◌==◌}
use Rattle.std.specs.List.{AllByRecursion}
use Rattle.std.specs.Int.{Width, w16, w32, byte_len, from_le_bytes, to_le_bytes}
use Rattle.std.proofs.lemmas.Bool.{and_from, le-leb, le-ltb, lt-ltb, ne_eqb, not_from_false}
use Rattle.std.proofs.lemmas.List.{take_at, drop_at, length-append}
use Rattle.std.proofs.lemmas.Nat.{from_le_bytes-to_le_bytes_2, from_le_bytes-to_le_bytes_4}
use Rattle.disk_model.specs.declared.change.Change.{Change}
use Rattle.disk_model.specs.declared.change.Change.TheVariants.{Create, Write, Empty, Remove, Rename}
use Rattle.disk_model.specs.declared.change.NamedFile.{NamedFile}
use Rattle.disk_model.specs.Files.{IsFormed, IsName, IsNameByte, MayCome, Follow, changed, files_after, is_name_byte}
use Rattle.disk_model.specs.Spelling.{spelling, body_of}
use Rattle.journal.specs.declared.fault.DiskFault.{DiskFault}
use Rattle.journal.proofs.Names.{none_found, not_called}
use Rattle.journal.specs.Reading.{◌>>=◌, number_at, text_at, name_at, create_at, write_at, empty_at, remove_at, rename_at, change_at, changes_at, all_changed, is_unnamed, is_called, may_come, all_name_bytes}

text_again : (text rest : List ℕ) → text_at (length text) (text ++ rest) ≡ Ok (text, rest)
text_again text rest =
    let long : ltb (length (text ++ rest)) (length text) ≡ false = le-ltb _ _ (omega (arith, length-append text rest)) in
    rw (long, take_at text rest (length text) refl, drop_at text rest (length text) refl) refl

number_again : (w : Width) (n : ℕ) (rest : List ℕ) → length (to_le_bytes w n) ≡ byte_len w → from_le_bytes w (to_le_bytes w n) ≡ n → number_at w (to_le_bytes w n ++ rest) ≡ Ok (n, rest)
number_again w n rest len again =
    let long : ltb (length (to_le_bytes w n ++ rest)) (byte_len w) ≡ false = le-ltb _ _ (omega (arith, length-append (to_le_bytes w n) rest)) in
    rw (long, take_at (to_le_bytes w n) rest (byte_len w) len, drop_at (to_le_bytes w n) rest (byte_len w) len, again) refl

two_again : (n : ℕ) (rest : List ℕ) → n < 2 ^ 16 → number_at w16 (to_le_bytes w16 n ++ rest) ≡ Ok (n, rest)
two_again n rest lt = number_again w16 n rest refl (from_le_bytes-to_le_bytes_2 n lt)

four_again : (n : ℕ) (rest : List ℕ) → n < 2 ^ 32 → number_at w32 (to_le_bytes w32 n ++ rest) ≡ Ok (n, rest)
four_again n rest lt = number_again w32 n rest refl (from_le_bytes-to_le_bytes_4 n lt)

names_true : (name : List ℕ) → AllByRecursion IsNameByte name → all_name_bytes name ≡ true
names_true [] h = refl
names_true (b ∷ name) h = and_from (is_name_byte b) (all_name_bytes name) (and_from (nat_le 33 b && nat_le b 126) (not (b == 47)) (and_from (nat_le 33 b) (nat_le b 126) (le-leb 33 b h.0.0) (le-leb b 126 h.0.1)) (not_from_false (b == 47) (ne_eqb b 47 h.0.2))) (names_true name h.1)

name_again : (name rest : List ℕ) → IsName name → name_at (length name ∷ name ++ rest) ≡ Ok (name, rest)
unfolding name_at
name_again name rest f =
    let good : (nat_le 1 (length name) && nat_le (length name) 32 && all_name_bytes name) ≡ true =
    and_from (nat_le 1 (length name) && nat_le (length name) 32) (all_name_bytes name) (and_from (nat_le 1 (length name)) (nat_le (length name) 32) (le-leb 1 (length name) f.0) (le-leb (length name) 32 f.1)) (names_true name f.2) in
    rw (text_again name rest, good) refl

create_again : (name rest : List ℕ) → IsFormed (Create name) → create_at (length name ∷ name ++ rest) ≡ Ok (Create name, rest)
unfolding create_at
create_again name rest f = rw (name_again name rest f) refl

write_again : (file offset : ℕ) (bytes rest : List ℕ) → IsFormed (Write file offset bytes)
    → write_at (to_le_bytes w16 file ++ (to_le_bytes w32 offset ++ (to_le_bytes w16 (length bytes) ++ (bytes ++ rest)))) ≡ Ok (Write file offset bytes, rest)
unfolding write_at
write_again file offset bytes rest f =
    let good : (nat_le 1 (length bytes) && nat_le (length bytes) 1024) ≡ true = and_from (nat_le 1 (length bytes)) (nat_le (length bytes) 1024) (le-leb 1 (length bytes) f.2) (le-leb (length bytes) 1024 f.3) in
    let small : length bytes < 2 ^ 16 = (let m = f.3 in omega arith) in
    rw (two_again file (to_le_bytes w32 offset ++ (to_le_bytes w16 (length bytes) ++ (bytes ++ rest))) f.0, four_again offset (to_le_bytes w16 (length bytes) ++ (bytes ++ rest)) f.1, two_again (length bytes) (bytes ++ rest) small, text_again bytes rest, good) refl

empty_again : (file : ℕ) (rest : List ℕ) → IsFormed (Empty file) → empty_at (to_le_bytes w16 file ++ rest) ≡ Ok (Empty file, rest)
unfolding empty_at
empty_again file rest f = rw (two_again file rest f) refl

remove_again : (file : ℕ) (rest : List ℕ) → IsFormed (Remove file) → remove_at (to_le_bytes w16 file ++ rest) ≡ Ok (Remove file, rest)
unfolding remove_at
remove_again file rest f = rw (two_again file rest f) refl

rename_again : (file : ℕ) (name rest : List ℕ) → IsFormed (Rename file name) → rename_at (to_le_bytes w16 file ++ (length name ∷ (name ++ rest))) ≡ Ok (Rename file name, rest)
unfolding rename_at
rename_again file name rest f = rw (two_again file (length name ∷ (name ++ rest)) f.0, name_again name rest f.1) refl

pub change_again : (c : Change) (rest : List ℕ) → IsFormed c → change_at (spelling c ++ rest) ≡ Ok (c, rest)
unfolding change_at
change_again (Create name) rest f = create_again name rest f
change_again (Write file offset bytes) rest f = write_again file offset bytes rest f
change_again (Empty file) rest f = empty_again file rest f
change_again (Remove file) rest f = remove_again file rest f
change_again (Rename file name) rest f = rename_again file name rest f

spelling_some : (c : Change) → 1 ≤ length (spelling c)
spelling_some (Create name) = omega arith
spelling_some (Write file offset bytes) = omega arith
spelling_some (Empty file) = omega arith
spelling_some (Remove file) = omega arith
spelling_some (Rename file name) = omega arith

changes_step : (k : ℕ) (bytes : List ℕ) → 1 ≤ length bytes → changes_at (suc k) bytes ≡ (change_at bytes >>= λ first. changes_at k first.1 >>= λ others. Ok (first.0 ∷ others))
unfolding changes_at
changes_step k [] some = absurd (omega arith)
changes_step k (b ∷ bytes) some = refl

body_cons : (c : Change) (cs : List Change) → body_of (c ∷ cs) ≡ spelling c ++ body_of cs
unfolding body_of
body_cons c cs = refl

changes_nil : (n : ℕ) → changes_at n (body_of []) ≡ Ok []
unfolding changes_at body_of
changes_nil zero = refl
changes_nil (suc n) = refl

pub changes_again : (cs : List Change) (n : ℕ) → AllByRecursion IsFormed cs → length (body_of cs) ≤ n → changes_at n (body_of cs) ≡ Ok cs
changes_again [] n f le = changes_nil n
changes_again (c ∷ cs) zero f le = absurd (omega (arith, ap length (body_cons c cs), length-append (spelling c) (body_of cs), spelling_some c))
changes_again (c ∷ cs) (suc n) f le =
    let some = spelling_some c in let l = length-append (spelling c) (body_of cs) in let e = ap length (body_cons c cs) in
    ap (changes_at (suc n)) (body_cons c cs)
    ∙ changes_step n (spelling c ++ body_of cs) (omega arith)
    ∙ ap (λ (r : Result (Change × List ℕ) DiskFault). r >>= λ first. changes_at n first.1 >>= λ others. Ok (first.0 ∷ others)) (change_again c (body_of cs) f.0)
    ∙ ap (λ (r : Result (List Change) DiskFault). r >>= λ others. Ok (c ∷ others)) (changes_again cs n f.1 (omega arith))

pub may_true : (files : List NamedFile) (c : Change) → MayCome files c → may_come files c ≡ true
may_true files (Create name) m =
    and_from (is_unnamed files name) (nat_lt (length files) 32) (none_found files name m.0) (lt-ltb (length files) 32 m.1)
may_true files (Write n offset bytes) m = and_from (nat_lt n (length files)) (nat_le (offset + length bytes) 16384) (lt-ltb n (length files) m.0) (le-leb (offset + length bytes) 16384 m.1)
may_true files (Empty n) m = lt-ltb n (length files) m
may_true files (Remove n) m = lt-ltb n (length files) m
may_true files (Rename n name) m =
    and_from (nat_lt n (length files)) (not (is_called (slice_get files n) name)) (lt-ltb n (length files) m.0) (not_called (slice_get files n) name m.1)

pub changed_again : (files : List NamedFile) (cs : List Change) → Follow files cs → all_changed files cs ≡ Ok (files_after files cs)
unfolding all_changed
changed_again files [] f = refl
changed_again files (c ∷ cs) f = rw (may_true files c f.1) (changed_again (changed files c) cs f.2)
