-- The fault that is told is the first one.
use Rattle.std.proofs.Common.{◌≡◌, ℕ, zero, suc, ◌+◌, ◌-◌, ◌<◌, ◌≤◌, Bool, true, false, cond, ltb, List, [], ◌∷◌, ◌++◌, length, get_or, take, drop, Option, Some, None, Result, Ok, Err, refl, sym, ap, subst, ◌∙◌, append_assoc, arith, inl, inr, ◌⊎◌}
use Rattle.std.specs.Prelude.{◌&&◌, nat_le, nat_lt, slice_index}
use Rattle.std.specs.Int.{Width, byte_len, w16, w32, from_le_bytes, to_le_bytes}
use Rattle.std.proofs.lemmas.Bool.{ltb-false, leb-true, ltb-true}
use Rattle.std.proofs.lemmas.List.{take_at, length-take, length-drop, get_or-drop, get_or-take, ext_get_or}
use Rattle.disk_model.specs.declared.change.Change.{Change}
use Rattle.disk_model.specs.declared.change.Change.TheVariants.{Write}
use Rattle.disk_model.specs.declared.change.NamedFile.{NamedFile}
use Rattle.disk_model.specs.Files.{Follow, changed, files_after}
use Rattle.disk_model.specs.Spelling.{body_of, sized_body, gate_after}
use Rattle.disk_model.specs.Held.{HasBytes, IsRecord, Records, joined, selected_half, start_of, end_of}
use Rattle.journal.specs.declared.fault.DiskFault.{DiskFault}
use Rattle.journal.specs.declared.fault.DiskFault.TheVariants.{BadRecord, BadChange, PastHalf, OutOfMemory}
use Rattle.journal.specs.Reading.{◌>>=◌, number_at, text_at, name_at, create_at, write_at, empty_at, remove_at, rename_at, change_at, changes_at, all_changed, may_come, step_at, body_at, record_at, records_at, opened, on_some, all_name_bytes}
use Rattle.journal.proofs.Found.{IsBytes}
use Rattle.journal.proofs.Again.{changes_again, changed_again}
use Rattle.std.proofs.lemmas.List.{length-append, get_or_append_left, get_or-append-add}
use Rattle.std.proofs.lemmas.Nat.{from_le_bytes-to_le_bytes_4}
use Rattle.journal.specs.Faults.{size_after, FaultAfter, IsFault, TellsFault}
use Rattle.journal.specs.Reading.{selected, recovered, Fails}
use Rattle.journal.proofs.Found.{changes_takes}
use Rattle.journal.proofs.Whole.{tail, tail_cons, half_facts}
use Rattle.journal.proofs.FoundAll.{body_is, record_found, FoundOne, tail_get, tail_bytes, tail_length, is_open, follow_join}

abbrev fails : {A : Type 0} → DiskFault → Result A DiskFault
fails d = Err d

ok_err : {A : Type 0} (x : A) (d : DiskFault) → Ok x ≡ fails d → ⊥
ok_err x d e = cc

bind_err : {A B : Type 0} (r : Result A DiskFault) (f : A → Result B DiskFault) (d : DiskFault) → (r >>= f) ≡ Err d → (r ≡ Err d) ⊎ ((x : A) × (r ≡ Ok x) × (f x ≡ Err d))
bind_err (Ok x) f d e = inr (x, refl, e)
bind_err (Err c) f d e = inl cc

guard_err : {A : Type 0} (b : Bool) (c : DiskFault) (r : Result A DiskFault) (d : DiskFault) → cond b (Err c) r ≡ Err d → ((b ≡ true) × (c ≡ d)) ⊎ ((b ≡ false) × (r ≡ Err d))
guard_err true c r d e = inl (refl, cc)
guard_err false c r d e = inr (refl, e)

test_err : {A : Type 0} (b : Bool) (x : A) (c d : DiskFault) → cond b (Ok x) (Err c) ≡ Err d → c ≡ d
test_err true x c d e = absurd cc
test_err false x c d e = cc

plain_err : {A : Type 0} (b : Bool) (x : A) (c d : DiskFault) → cond b (Err c) (Ok x) ≡ Err d → c ≡ d
plain_err true x c d e = cc
plain_err false x c d e = absurd cc

abbrev IsBad : DiskFault → Type 0
IsBad d = BadRecord ≡ d

number_err : (w : Width) (bytes : List ℕ) (d : DiskFault) → number_at w bytes ≡ Err d → IsBad d
number_err w bytes d e = plain_err (ltb (length bytes) (byte_len w)) (from_le_bytes w (take (byte_len w) bytes), drop (byte_len w) bytes) BadRecord d e

text_err : (n : ℕ) (bytes : List ℕ) (d : DiskFault) → text_at n bytes ≡ Err d → IsBad d
text_err n bytes d e = plain_err (ltb (length bytes) n) (take n bytes, drop n bytes) BadRecord d e

name_err : (bytes : List ℕ) (d : DiskFault) → name_at bytes ≡ Err d → IsBad d
unfolding name_at
name_err [] d e = cc
name_err (n ∷ rest) d e = elim (bind_err (text_at n rest) _ d e) [
  | inl h ↦ text_err n rest d h
  | inr (x, h, g) ↦ test_err (nat_le 1 n && nat_le n 32 && all_name_bytes x.0) (x.0, x.1) BadRecord d g
]

create_err : (bytes : List ℕ) (d : DiskFault) → create_at bytes ≡ Err d → IsBad d
unfolding create_at
create_err bytes d e = elim (bind_err (name_at bytes) _ d e) [ inl h ↦ name_err bytes d h | inr (name, h, g) ↦ absurd (ok_err _ d g) ]

write_err : (bytes : List ℕ) (d : DiskFault) → write_at bytes ≡ Err d → IsBad d
unfolding write_at
write_err bytes d e = elim (bind_err (number_at w16 bytes) _ d e) [
  | inl h ↦ number_err w16 bytes d h
  | inr (file, h1, e1) ↦ elim (bind_err (number_at w32 file.1) _ d e1) [
    | inl h ↦ number_err w32 file.1 d h
    | inr (offset, h2, e2) ↦ elim (bind_err (number_at w16 offset.1) _ d e2) [
      | inl h ↦ number_err w16 offset.1 d h
      | inr (n, h3, e3) ↦ elim (bind_err (text_at n.0 n.1) _ d e3) [
        | inl h ↦ text_err n.0 n.1 d h
        | inr (text, h4, e4) ↦ test_err (nat_le 1 n.0 && nat_le n.0 1024) (Write file.0 offset.0 text.0, text.1) BadRecord d e4
      ]
    ]
  ]
]

empty_err : (bytes : List ℕ) (d : DiskFault) → empty_at bytes ≡ Err d → IsBad d
unfolding empty_at
empty_err bytes d e = elim (bind_err (number_at w16 bytes) _ d e) [ inl h ↦ number_err w16 bytes d h | inr (file, h, g) ↦ absurd (ok_err _ d g) ]

remove_err : (bytes : List ℕ) (d : DiskFault) → remove_at bytes ≡ Err d → IsBad d
unfolding remove_at
remove_err bytes d e = elim (bind_err (number_at w16 bytes) _ d e) [ inl h ↦ number_err w16 bytes d h | inr (file, h, g) ↦ absurd (ok_err _ d g) ]

rename_err : (bytes : List ℕ) (d : DiskFault) → rename_at bytes ≡ Err d → IsBad d
unfolding rename_at
rename_err bytes d e = elim (bind_err (number_at w16 bytes) _ d e) [
  | inl h ↦ number_err w16 bytes d h
  | inr (file, h1, e1) ↦ elim (bind_err (name_at file.1) _ d e1) [ inl h ↦ name_err file.1 d h | inr (name, h2, e2) ↦ absurd (ok_err _ d e2) ]
]

change_err : (bytes : List ℕ) (d : DiskFault) → change_at bytes ≡ Err d → IsBad d
unfolding change_at
change_err [] d e = cc
change_err (zero ∷ rest) d e = cc
change_err (suc zero ∷ rest) d e = create_err rest d e
change_err (suc (suc zero) ∷ rest) d e = write_err rest d e
change_err (suc (suc (suc zero)) ∷ rest) d e = empty_err rest d e
change_err (suc (suc (suc (suc zero))) ∷ rest) d e = remove_err rest d e
change_err (suc (suc (suc (suc (suc zero)))) ∷ rest) d e = rename_err rest d e
change_err (suc (suc (suc (suc (suc (suc b))))) ∷ rest) d e = cc

pub changes_err : (n : ℕ) (bytes : List ℕ) (d : DiskFault) → changes_at n bytes ≡ Err d → IsBad d
unfolding changes_at
changes_err zero [] d e = absurd cc
changes_err zero (b ∷ bytes) d e = cc
changes_err (suc n) [] d e = absurd cc
changes_err (suc n) (b ∷ bytes) d e = elim (bind_err (change_at (b ∷ bytes)) _ d e) [
  | inl h ↦ change_err (b ∷ bytes) d h
  | inr (first, h, g) ↦ elim (bind_err (changes_at n first.1) _ d g) [ inl k ↦ changes_err n first.1 d k | inr (others, k, l) ↦ absurd (ok_err _ d l) ]
]

pub all_err : (files : List NamedFile) (cs : List Change) (d : DiskFault) → all_changed files cs ≡ Err d → BadChange ≡ d
unfolding all_changed
all_err files [] d e = absurd cc
all_err files (c ∷ cs) d e = elim (bind_err (step_at files c) (λ l. all_changed l cs) d e) [
  | inl h ↦ test_err (may_come files c) (changed files c) BadChange d h
  | inr (later, h, g) ↦ all_err later cs d g
]

pub record Faulty (d : List ℕ) (last at : ℕ) (files : List NamedFile) (fault : DiskFault) : Type 0 where
  pub gate : ℕ
  pub groups : List (List Change)
  pub records : Records d last at groups gate
  pub follow : Follow files (joined groups)
  pub opened_is : get_or d gate 0 ≡ 1
  pub after : FaultAfter d last gate (files_after files (joined groups)) fault

-- the four bytes after the gate, where they lie in the half
prefix_is : (d : List ℕ) (last at : ℕ) → last ≤ length d → at + 5 ≤ last → take 4 (tail d last (at + 1)) ≡ take 4 (drop (at + 1) d)
prefix_is d last at le room =
    let l1 = length-take 4 (tail d last (at + 1)) in let l2 = tail_length d last (at + 1) le in let l3 = length-take 4 (drop (at + 1) d) in let l4 = length-drop (at + 1) d in
    ext_get_or 0 (take 4 (tail d last (at + 1))) (take 4 (drop (at + 1) d)) (omega arith) (λ i lt.
    get_or-take 4 (tail d last (at + 1)) i 0 (omega arith) ∙ tail_get d last (at + 1) i (omega arith) ∙ sym (get_or-take 4 (drop (at + 1) d) i 0 (omega arith) ∙ get_or-drop (at + 1) d i 0))

past : (d : List ℕ) (last at : ℕ) (x : List ℕ × List ℕ) (fault : DiskFault) → last ≤ length d → at < last → body_at (tail d last (at + 1)) ≡ Err fault → (PastHalf ≡ fault) × (last ≤ at + 5 + size_after d at)
unfolding body_at
past d last at x fault le lt e =
    let text = tail d last (at + 1) in let tl = tail_length d last (at + 1) le in
    elim (guard_err (nat_lt (length text) 4) PastHalf _ fault e) [
      | inl (few, is) ↦ (is, (let k = ltb-true (length text) 4 few in omega arith))
      | inr (enough, g) ↦ (
          let k = ltb-false (length text) 4 enough in
          elim (guard_err (nat_le (length text) (4 + from_le_bytes w32 (take 4 text))) PastHalf (Ok (take (from_le_bytes w32 (take 4 text)) (drop 4 text), drop (from_le_bytes w32 (take 4 text)) (drop 4 text))) fault g) [
            | inl (long, is) ↦ (is, (let m = leb-true (length text) (4 + from_le_bytes w32 (take 4 text)) long in let same : from_le_bytes w32 (take 4 text) ≡ size_after d at = ap (from_le_bytes w32) (prefix_is d last at le (omega arith)) in omega arith))
            | inr (fits, h) ↦ absurd (ok_err _ fault h)
          ]
          )
    ]

record_faulty : (d : List ℕ) (last at : ℕ) (files : List NamedFile) (fault : DiskFault) → IsBytes d → last ≤ length d → last ≤ 2097152 → at < last → get_or d at 0 ≡ 1
    → record_at files (tail d last (at + 1)) ≡ Err fault → FaultAfter d last at files fault
unfolding record_at
record_faulty d last at files fault fits le small lt one e =
    let text = tail d last (at + 1) in let tl = tail_length d last (at + 1) le in
    elim (bind_err (body_at text) _ fault e) [
      | inl h ↦ (let p = past d last at (text, text) fault le lt h in subst (λ (f : DiskFault). FaultAfter d last at files f) p.0 p.1)
      | inr (x, h, g) ↦ (
          let i = body_is text x (tail_bytes d last (at + 1) fits) h in
          let body = x.0 in let next = x.1 in let some = i.some in
          let a1 = length-append (to_le_bytes w32 (length body)) (body ++ next) in let a2 = length-append body next in
          let whole : last - (at + 1) ≡ 4 + (length body + length next) = omega (arith, sym tl ∙ ap length i.parts) in
          let stands : HasBytes d (at + 5) body = λ k lk.
          ap (λ (j : ℕ). get_or d j 0) (let q : at + 5 + k ≡ at + 1 + (4 + k) = omega arith in q) ∙ sym (tail_get d last (at + 1) (4 + k) (omega arith)) ∙ ap (λ (l : List ℕ). get_or l (4 + k) 0) i.parts
          ∙ get_or-append-add (to_le_bytes w32 (length body)) (body ++ next) k 0 ∙ get_or_append_left body next 0 k lk in
          let sized_is : size_after d at ≡ length body =
          ap (from_le_bytes w32) (sym (prefix_is d last at le (omega arith)) ∙ ap (take 4) i.parts ∙ take_at (to_le_bytes w32 (length body)) (body ++ next) 4 refl) ∙ from_le_bytes-to_le_bytes_4 (length body) (omega arith) in
          elim (bind_err (changes_at (length body) body) _ fault g) [
            | inl bad ↦ subst (λ (f : DiskFault). FaultAfter d last at files f) (changes_err (length body) body fault bad) (
              omega arith,
              λ cs formed len st.
                  let same : body ≡ body_of cs = ext_get_or 0 body (body_of cs) (omega arith) (λ k lk. sym (stands k lk) ∙ st k (omega arith)) in
                  ok_err cs fault (sym (ap (λ (l : List ℕ). changes_at (length l) l) same ∙ changes_again cs (length (body_of cs)) formed (omega arith)) ∙ bad),
            )
            | inr (cs, k, g2) ↦ (
                let c = changes_takes (length body) body cs i.fine k in
                elim (bind_err (all_changed files cs) _ fault g2) [
                  | inl wrong ↦ subst (λ (f : DiskFault). FaultAfter d last at files f) (all_err files cs fault wrong) (
                    cs,
                    is_record cs next (i.parts ∙ ap (λ (l : List ℕ). to_le_bytes w32 (length l) ++ (l ++ next)) c.0 ∙ sym (append_assoc (to_le_bytes w32 (length (body_of cs))) (body_of cs) next)) some,
                    c.1,
                    λ follow. ok_err (files_after files cs) fault (sym (changed_again files cs follow) ∙ wrong),
                  )
                  | inr (later, m, n) ↦ absurd (ok_err _ fault n)
                ]
                )
          ]
          )
    ]
  where
    is_record : (cs : List Change) (next : List ℕ) → tail d last (at + 1) ≡ sized_body cs ++ next → 1 ≤ length next → IsRecord d last at cs
    is_record cs next split some =
        let tl = tail_length d last (at + 1) le in
        let sl = length-append (to_le_bytes w32 (length (body_of cs))) (body_of cs) in
        let whole : last - (at + 1) ≡ length (sized_body cs) + length next = sym tl ∙ ap length split ∙ length-append (sized_body cs) next in
        record { opened = one; within = omega arith; stands = λ k lk. sym (tail_get d last (at + 1) k (omega arith)) ∙ ap (λ (l : List ℕ). get_or l k 0) split ∙ get_or_append_left (sized_body cs) next 0 k lk }

on_err : {A : Type 0} (o : Option A) (f : A → Result (List NamedFile × List ℕ) DiskFault) (r : List NamedFile × List ℕ) (d : DiskFault) → on_some o f (Ok r) ≡ Err d → (b : A) × (o ≡ Some b) × (f b ≡ Err d)
on_err None f r d e = absurd cc
on_err (Some b) f r d e = (b, refl, e)

-- one record, and the fault after it
faulty_more : (d : List ℕ) (last at : ℕ) (files later : List NamedFile) (after : List ℕ) (fault : DiskFault) (one : FoundOne d last at files later after)
    → Faulty d last (gate_after at one.cs) later fault → Faulty d last at files fault
faulty_more d last at files later after fault one r =
    let j = follow_join files one.cs (joined r.groups) one.follow (subst (λ (fs : List NamedFile). Follow fs (joined r.groups)) one.makes r.follow) in
    record {
      gate = r.gate;
      groups = one.cs ∷ r.groups;
      records = (one.is, r.records);
      follow = j.0;
      opened_is = r.opened_is;
      after = subst (λ (fs : List NamedFile). FaultAfter d last r.gate fs fault) (ap (λ (fs : List NamedFile). files_after fs (joined r.groups)) one.makes ∙ sym j.1) r.after;
    }

records_faulty : (n : ℕ) (d : List ℕ) (last at : ℕ) (files : List NamedFile) (fault : DiskFault) → IsBytes d → last ≤ length d → last ≤ 2097152 → at < last → length (tail d last at) ≤ n
    → records_at n files (tail d last at) ≡ Err fault → Faulty d last at files fault
unfolding records_at
records_faulty zero d last at files fault fits le small lt enough e = absurd (omega (arith, tail_length d last at le))
records_faulty (suc n) d last at files fault fits le small lt enough e =
    let s = on_err (opened (tail d last at)) (λ bytes. record_at files bytes >>= λ y. records_at n y.0 y.1) (files, tail d last at) fault e in
    let o = is_open (get_or d at 0) (tail d last (at + 1)) s.0 (ap opened (sym (tail_cons d last at lt le)) ∙ s.1) in
    elim (bind_err (record_at files s.0) _ fault s.2) [
      | inl h ↦ record { gate = at; groups = []; records = refl; follow = tt; opened_is = o.0; after = record_faulty d last at files fault fits le small lt o.0 (ap (record_at files) o.1 ∙ h) }
      | inr (y, h, g) ↦ (
          let one = record_found d last at files y fits le lt o.0 (ap (record_at files) o.1 ∙ h) in
          let within = one.is.within in
          faulty_more d last at files y.0 y.1 fault one
          (records_faulty n d last (gate_after at one.cs) y.0 fault fits le small within (omega (arith, tail_length d last at le, tail_length d last (gate_after at one.cs) le)) (ap (records_at n y.0) (sym one.left) ∙ g))
          )
    ]

pub told_fault : (d : List ℕ) (fault : DiskFault) → IsBytes d → length d ≡ 2097152 → recovered d ≡ Err fault → IsFault d fault
told_fault d fault fits size e =
    let second = selected_half (slice_index d 0) in
    let f = half_facts second in
    let r = records_faulty (length (selected d)) d (end_of second) (start_of second) [] fault fits (omega arith) f.0 f.1 (omega arith) e in
    record { size = size; gate = r.gate; files = files_after [] (joined r.groups); before = record { groups = r.groups; records = r.records; possible = r.follow; makes = refl }; opened = r.opened_is; after = r.after }

pub tells : (d : List ℕ) (e : DiskFault) → IsBytes d → length d ≡ 2097152 → Fails e (recovered d) → TellsFault d e
tells d BadRecord fits size h = told_fault d BadRecord fits size h
tells d BadChange fits size h = told_fault d BadChange fits size h
tells d PastHalf fits size h = told_fault d PastHalf fits size h
tells d OutOfMemory fits size h = tt
