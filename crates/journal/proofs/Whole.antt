-- What stands on a disk is read.
use Rattle.std.proofs.Common.{◌≡◌, ℕ, zero, suc, ◌+◌, ◌<◌, ◌≤◌, Bool, true, false, List, [], ◌∷◌, ◌++◌, length, get_or, take, drop, Option, Some, None, Result, Ok, refl, sym, ap, ◌∙◌, append_assoc, arith, ltb, leb, cond}
use Rattle.std.specs.Prelude.{slice_index}
use Rattle.std.specs.Int.{w32, from_le_bytes, to_le_bytes}
use Rattle.std.proofs.lemmas.Bool.{le-ltb, lt-leb, ne_eqb, eq-eqb}
use Rattle.std.proofs.lemmas.List.{take_at, drop_at, drop_more, get_or-take, length-append, length-take, length-drop}
use Rattle.std.proofs.lemmas.Nat.{from_le_bytes-to_le_bytes_4}
use Rattle.disk_model.specs.declared.change.Change.{Change}
use Rattle.disk_model.specs.declared.change.NamedFile.{NamedFile}
use Rattle.disk_model.specs.Files.{Follow, changed, files_after}
use Rattle.disk_model.specs.Spelling.{body_of, sized_body, gate_after}
use Rattle.disk_model.specs.Held.{HasBytes, IsRecord, Records, joined, IsHeldTo, selected_half, start_of, end_of}
use Rattle.journal.specs.declared.fault.DiskFault.{DiskFault}
use Rattle.disk_model.proofs.Once.{formed_all}
use Rattle.journal.specs.Reading.{◌>>=◌, body_at, record_at, records_at, opened, on_some}
use Rattle.journal.proofs.Again.{changes_again, changed_again}
use Rattle.journal.proofs.Gates.{is_shut}

-- the bytes from a place on, up to the half's end
abbrev pub tail : List ℕ → ℕ → ℕ → List ℕ
tail d last at = drop at (take last d)

pub follow_parts : (files : List NamedFile) (xs ys : List Change) → Follow files (xs ++ ys) → Follow files xs × Follow (files_after files xs) ys × (files_after files (xs ++ ys) ≡ files_after (files_after files xs) ys)
follow_parts files [] ys f = (tt, f, refl)
follow_parts files (x ∷ xs) ys f = let r = follow_parts (changed files x) xs ys f.2 in ((f.0, f.1, r.0), r.1, r.2)

pub tail_cons : (d : List ℕ) (last at : ℕ) → at < last → last ≤ length d → tail d last at ≡ get_or d at 0 ∷ tail d last (at + 1)
tail_cons d last at lt le =
    drop_more (take last d) at 0 (omega (arith, length-take last d)) ∙ ap (λ (b : ℕ). b ∷ tail d last (at + 1)) (get_or-take last d at 0 lt)

stands_tail : (d : List ℕ) (last at : ℕ) (bs : List ℕ) → HasBytes d at bs → at + length bs ≤ last → last ≤ length d → tail d last at ≡ bs ++ tail d last (at + length bs)
stands_tail d last at [] h fit le = ap (tail d last) (let e : at ≡ at + 0 = omega arith in e)
stands_tail d last at (b ∷ bs) h fit le =
    tail_cons d last at (omega arith) le
    ∙ ap (λ (x : ℕ). x ∷ tail d last (at + 1)) (ap (λ (k : ℕ). get_or d k 0) (let e : at ≡ at + 0 = omega arith in e) ∙ h 0 (omega arith))
    ∙ ap (λ (l : List ℕ). b ∷ l) (
    stands_tail d last (at + 1) bs (λ i lt. ap (λ (k : ℕ). get_or d k 0) (let e : at + 1 + i ≡ at + suc i = omega arith in e) ∙ h (suc i) (omega arith)) (omega arith) le
    ∙ ap (λ (k : ℕ). bs ++ tail d last k) (let e : at + 1 + length bs ≡ at + suc (length bs) = omega arith in e))

body_again : (prefix body next : List ℕ) → length prefix ≡ 4 → from_le_bytes w32 prefix ≡ length body → 1 ≤ length next → body_at (prefix ++ (body ++ next)) ≡ Ok (body, next)
unfolding body_at
body_again prefix body next len is some =
    let l1 = length-append prefix (body ++ next) in let l2 = length-append body next in
    let long : ltb (length (prefix ++ (body ++ next))) 4 ≡ false = le-ltb _ _ (omega arith) in
    let room : leb (length (prefix ++ (body ++ next))) (4 + length body) ≡ false = lt-leb _ _ (omega arith) in
    rw (long, take_at prefix (body ++ next) 4 len, is, room, drop_at prefix (body ++ next) 4 len, take_at body next (length body) refl, drop_at body next (length body) refl) refl

record_again : (d : List ℕ) (last at : ℕ) (files : List NamedFile) (cs : List Change) → last ≤ length d → last ≤ 2097152 → IsRecord d last at cs → Follow files cs
    → record_at files (tail d last (at + 1)) ≡ Ok (files_after files cs, tail d last (gate_after at cs))
unfolding record_at
record_again d last at files cs le small r follow =
    let within = r.within in
    let sl = length-append (to_le_bytes w32 (length (body_of cs))) (body_of cs) in
    let next = tail d last (gate_after at cs) in
    let text : tail d last (at + 1) ≡ to_le_bytes w32 (length (body_of cs)) ++ (body_of cs ++ next) =
    stands_tail d last (at + 1) (sized_body cs) r.stands (omega arith) le
    ∙ ap (λ (k : ℕ). sized_body cs ++ tail d last k) (let e : at + 1 + length (sized_body cs) ≡ gate_after at cs = omega arith in e)
    ∙ append_assoc (to_le_bytes w32 (length (body_of cs))) (body_of cs) next in
    let some : 1 ≤ length next = omega (arith, length-drop (gate_after at cs) (take last d), length-take last d) in
    let body : body_at (tail d last (at + 1)) ≡ Ok (body_of cs, next) =
    ap body_at text ∙ body_again (to_le_bytes w32 (length (body_of cs))) (body_of cs) next refl (from_le_bytes-to_le_bytes_4 (length (body_of cs)) (omega arith)) some in
    rw (body, changes_again cs (length (body_of cs)) (formed_all files cs follow) (omega arith), changed_again files cs follow) refl

step : (m : ℕ) (files : List NamedFile) (rest bytes : List ℕ) → opened rest ≡ Some bytes → records_at (suc m) files rest ≡ (record_at files bytes >>= λ x. records_at m x.0 x.1)
unfolding records_at
step m files rest bytes e = ap (λ (o : Option (List ℕ)). on_some o (λ b. record_at files b >>= λ x. records_at m x.0 x.1) (Ok (files, rest))) e

pub records_again : (d : List ℕ) (last at : ℕ) (css : List (List Change)) (upto n : ℕ) (files : List NamedFile) → last ≤ length d → last ≤ 2097152 → Records d last at css upto → Follow files (joined css)
    → at < last → (get_or d upto 0 ≡ 1 → ⊥) → length (tail d last at) ≤ n → records_at n files (tail d last at) ≡ Ok (files_after files (joined css), tail d last upto)
records_again d last at [] upto n files le small r follow lt shut enough =
    let none : opened (tail d last at) ≡ None =
    ap opened (tail_cons d last at lt le) ∙ ap (λ (b : Bool). cond b (Some (tail d last (at + 1))) None) (ne_eqb (get_or d at 0) 1 (λ e. shut (ap (λ (k : ℕ). get_or d k 0) r ∙ e))) in
    is_shut n files (tail d last at) (records_at n files (tail d last at)) none refl ∙ ap (λ (k : ℕ). Ok (files, tail d last k)) (sym r)
records_again d last at (cs ∷ css) upto zero files le small r follow lt shut enough = absurd (omega (arith, length-drop at (take last d), length-take last d))
records_again d last at (cs ∷ css) upto (suc n) files le small r follow lt shut enough =
    let p = follow_parts files cs (joined css) follow in
    let open_gate : opened (tail d last at) ≡ Some (tail d last (at + 1)) =
    ap opened (tail_cons d last at lt le) ∙ ap (λ (b : Bool). cond b (Some (tail d last (at + 1))) None) (eq-eqb (get_or d at 0) 1 r.0.opened) in
    step n files (tail d last at) (tail d last (at + 1)) open_gate
    ∙ ap (λ (x : Result (List NamedFile × List ℕ) DiskFault). x >>= λ y. records_at n y.0 y.1) (record_again d last at files cs le small r.0 p.0)
    ∙ records_again d last (gate_after at cs) css upto n (files_after files cs) le small r.1 p.1 r.0.within shut (omega (arith, length-drop at (take last d), length-take last d, length-drop (gate_after at cs) (take last d)))
    ∙ ap (λ (fs : List NamedFile). Ok (fs, tail d last upto)) (sym p.2)

pub half_facts : (second : Bool) → (end_of second ≤ 2097152) × (start_of second < end_of second) × (end_of second ≡ start_of second + 1048512)
half_facts false = (omega arith, omega arith, omega arith)
half_facts true = (omega arith, omega arith, omega arith)

-- what is held is read from the selected half
pub held_read : (d : List ℕ) (upto : ℕ) (files : List NamedFile) → IsHeldTo d upto files → (n : ℕ) → 1048512 ≤ n
    → records_at n [] (tail d (end_of (selected_half (slice_index d 0))) (start_of (selected_half (slice_index d 0)))) ≡ Ok (files, tail d (end_of (selected_half (slice_index d 0))) upto)
held_read d upto files h n enough =
    let second = selected_half (slice_index d 0) in
    let f = half_facts second in let s = h.size in
    records_again d (end_of second) (start_of second) h.reads.groups upto n [] (omega arith) f.0 h.reads.records h.reads.possible f.1 h.closed
    (omega (arith, length-drop (start_of second) (take (end_of second) d), length-take (end_of second) d))
    ∙ ap (λ (fs : List NamedFile). Ok (fs, tail d (end_of second) upto)) (sym h.reads.makes)
