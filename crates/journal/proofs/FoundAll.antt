-- The records that are read stand on the disk.
use Rattle.std.proofs.Common.{◌≡◌, ℕ, zero, suc, ◌+◌, ◌-◌, ◌<◌, ◌≤◌, Bool, true, false, cond, List, [], ◌∷◌, ◌++◌, length, get_or, take, drop, Option, Some, None, Result, Ok, refl, sym, ap, subst, ◌∙◌, append_assoc, arith, inl, inr, ◌⊎◌}
use Rattle.std.specs.Prelude.{nat_le, nat_lt, not, ◌==◌, slice_get, slice_index}
use Rattle.std.specs.List.{AllByRecursion}
use Rattle.std.specs.Int.{w32, from_le_bytes, to_le_bytes}
use Rattle.std.proofs.lemmas.Bool.{ltb-false, leb-true, leb-false, ltb-true, eqb-true, eq-eqb, ne_eqb, and_parts}
use Rattle.std.proofs.lemmas.List.{drop_at, take-append-drop, length-append, length-take, length-drop, get_or-drop, get_or-take, get_or_append_left, drop-drop}
use Rattle.std.proofs.lemmas.Nat.{le_bytes_4}
use Rattle.disk_model.specs.declared.change.Change.{Change}
use Rattle.disk_model.specs.declared.change.Change.TheVariants.{Create, Write, Empty, Remove, Rename}
use Rattle.disk_model.specs.declared.change.NamedFile.{NamedFile}
use Rattle.disk_model.specs.Files.{IsFormed, MayCome, Follow, changed, files_after}
use Rattle.disk_model.specs.Spelling.{body_of, sized_body, gate_after}
use Rattle.disk_model.specs.Held.{IsRecord, Records, joined, Reads, IsHeldTo, selected_half, start_of, end_of}
use Rattle.journal.specs.declared.fault.DiskFault.{DiskFault}
use Rattle.journal.specs.declared.fault.DiskFault.TheVariants.{BadRecord, BadChange, PastHalf, OutOfMemory}
use Rattle.journal.specs.Reading.{◌>>=◌, body_at, changes_at, all_changed, is_unnamed, is_called, may_come, step_at, record_at, records_at, opened, on_some, selected, recovered, Fails}
use Rattle.journal.proofs.Names.{none_has, called_otherwise}
use Rattle.journal.proofs.Found.{IsBytes, bytes_drop, bytes_take, bind_ok, guard_ok, test_ok, ok_is, changes_takes}
use Rattle.journal.proofs.Whole.{tail, tail_cons, half_facts, held_read}

may_is : (files : List NamedFile) (c : Change) → may_come files c ≡ true → MayCome files c
may_is files (Create name) h =
    let p = and_parts (is_unnamed files name) (nat_lt (length files) 32) h in
    (none_has files name p.0, ltb-true (length files) 32 p.1)
may_is files (Write n offset bytes) h = let p = and_parts (nat_lt n (length files)) (nat_le (offset + length bytes) 16384) h in (ltb-true n (length files) p.0, leb-true (offset + length bytes) 16384 p.1)
may_is files (Empty n) h = ltb-true n (length files) h
may_is files (Remove n) h = ltb-true n (length files) h
may_is files (Rename n name) h =
    let p = and_parts (nat_lt n (length files)) (not (is_called (slice_get files n) name)) h in
    (ltb-true n (length files) p.0, called_otherwise (slice_get files n) name p.1)

follow_is : (files : List NamedFile) (cs : List Change) (later : List NamedFile) → AllByRecursion IsFormed cs → all_changed files cs ≡ Ok later → Follow files cs × (later ≡ files_after files cs)
unfolding all_changed
follow_is files [] later f e = (tt, sym (ok_is files later e))
follow_is files (c ∷ cs) later f e =
    let b = bind_ok (step_at files c) (λ l. all_changed l cs) later e in
    let t = test_ok (may_come files c) BadChange (Ok (changed files c)) b.0 b.1 in
    let r = follow_is (changed files c) cs later f.1 (ap (λ (l : List NamedFile). all_changed l cs) (ok_is (changed files c) b.0 t.1) ∙ b.2) in
    ((f.0, may_is files c t.0, r.0), r.1)

pub record IsBody (bytes body next : List ℕ) : Type 0 where
  pub parts : bytes ≡ to_le_bytes w32 (length body) ++ (body ++ next)
  pub some : 1 ≤ length next
  pub fine : IsBytes body

pub body_is : (bytes : List ℕ) (x : List ℕ × List ℕ) → IsBytes bytes → body_at bytes ≡ Ok x → IsBody bytes x.0 x.1
unfolding body_at
body_is bytes x fits e =
    let n = from_le_bytes w32 (take 4 bytes) in
    let g1 = guard_ok (nat_lt (length bytes) 4) PastHalf _ x e in
    let g2 = guard_ok (nat_le (length bytes) (4 + n)) PastHalf (Ok (take n (drop 4 bytes), drop n (drop 4 bytes))) x g1.1 in
    let long = ltb-false (length bytes) 4 g1.0 in
    let room = leb-false (length bytes) (4 + n) g2.0 in
    let len : length (take n (drop 4 bytes)) ≡ n = omega (arith, length-take n (drop 4 bytes), length-drop 4 bytes) in
    let prefix : to_le_bytes w32 n ≡ take 4 bytes = le_bytes_4 (take 4 bytes) n (omega (arith, length-take 4 bytes)) (bytes_take 4 bytes fits) refl in
    subst (λ (y : List ℕ × List ℕ). IsBody bytes y.0 y.1) (ok_is _ _ g2.1) (record {
      parts = sym (take-append-drop 4 bytes) ∙ ap (λ (l : List ℕ). l ++ drop 4 bytes) (sym prefix ∙ ap (to_le_bytes w32) (sym len)) ∙ ap (λ (l : List ℕ). to_le_bytes w32 (length (take n (drop 4 bytes))) ++ l) (sym (take-append-drop n (drop 4 bytes)));
      some = omega (arith, length-drop n (drop 4 bytes), length-drop 4 bytes);
      fine = bytes_take n (drop 4 bytes) (bytes_drop 4 bytes fits);
    })

pub tail_length : (d : List ℕ) (last at : ℕ) → last ≤ length d → length (tail d last at) ≡ last - at
tail_length d last at le = omega (arith, length-drop at (take last d), length-take last d)

pub tail_get : (d : List ℕ) (last at i : ℕ) → at + i < last → get_or (tail d last at) i 0 ≡ get_or d (at + i) 0
tail_get d last at i lt = get_or-drop at (take last d) i 0 ∙ get_or-take last d (at + i) 0 lt

pub tail_bytes : (d : List ℕ) (last at : ℕ) → IsBytes d → IsBytes (tail d last at)
tail_bytes d last at h = bytes_drop at (take last d) (bytes_take last d h)

pub record FoundOne (d : List ℕ) (last at : ℕ) (files later : List NamedFile) (rest : List ℕ) : Type 0 where
  pub cs : List Change
  pub is : IsRecord d last at cs
  pub follow : Follow files cs
  pub makes : later ≡ files_after files cs
  pub left : rest ≡ tail d last (gate_after at cs)

pub record_found : (d : List ℕ) (last at : ℕ) (files : List NamedFile) (x : List NamedFile × List ℕ) → IsBytes d → last ≤ length d → at < last → get_or d at 0 ≡ 1
    → record_at files (tail d last (at + 1)) ≡ Ok x → FoundOne d last at files x.0 x.1
unfolding record_at
record_found d last at files x fits le lt one e =
    let text = tail d last (at + 1) in
    let b1 = bind_ok (body_at text) _ x e in
    let body = b1.0.0 in let next = b1.0.1 in
    let i = body_is text b1.0 (tail_bytes d last (at + 1) fits) b1.1 in
    let b2 = bind_ok (changes_at (length body) body) _ x b1.2 in
    let cs = b2.0 in
    let c = changes_takes (length body) body cs i.fine b2.1 in
    let b3 = bind_ok (all_changed files cs) _ x b2.2 in
    let f = follow_is files cs b3.0 c.1 b3.1 in
    let split : text ≡ sized_body cs ++ next =
    i.parts ∙ ap (λ (l : List ℕ). to_le_bytes w32 (length l) ++ (l ++ next)) c.0 ∙ sym (append_assoc (to_le_bytes w32 (length (body_of cs))) (body_of cs) next) in
    let tl = tail_length d last (at + 1) le in
    let sl = length-append (to_le_bytes w32 (length (body_of cs))) (body_of cs) in
    let whole : last - (at + 1) ≡ length (sized_body cs) + length next = sym tl ∙ ap length split ∙ length-append (sized_body cs) next in
    let some = i.some in
    subst (λ (y : List NamedFile × List ℕ). FoundOne d last at files y.0 y.1) (ok_is _ _ b3.2) (record {
      cs = cs;
      is = record {
        opened = one;
        within = omega arith;
        stands = λ k lk. sym (tail_get d last (at + 1) k (omega arith)) ∙ ap (λ (l : List ℕ). get_or l k 0) split ∙ get_or_append_left (sized_body cs) next 0 k lk;
      };
      follow = f.0;
      makes = f.1;
      left = sym (drop_at (sized_body cs) next (length (sized_body cs)) refl) ∙ ap (drop (length (sized_body cs))) (sym split) ∙ drop-drop (length (sized_body cs)) (at + 1) (take last d)
          ∙ ap (λ (k : ℕ). tail d last k) (let q : at + 1 + length (sized_body cs) ≡ gate_after at cs = omega arith in q);
    })

pub record FoundAll (d : List ℕ) (last at : ℕ) (files later : List NamedFile) (rest : List ℕ) : Type 0 where
  pub upto : ℕ
  pub groups : List (List Change)
  pub records : Records d last at groups upto
  pub follow : Follow files (joined groups)
  pub makes : later ≡ files_after files (joined groups)
  pub shut : get_or d upto 0 ≡ 1 → ⊥
  pub from : at ≤ upto
  pub within : upto < last
  pub left : rest ≡ tail d last upto

pub follow_join : (files : List NamedFile) (xs ys : List Change) → Follow files xs → Follow (files_after files xs) ys → Follow files (xs ++ ys) × (files_after files (xs ++ ys) ≡ files_after (files_after files xs) ys)
follow_join files [] ys f g = (g, refl)
follow_join files (x ∷ xs) ys f g = let r = follow_join (changed files x) xs ys f.2 g in ((f.0, f.1, r.0), r.1)

on_ok : {A : Type 0} (o : Option A) (f : A → Result (List NamedFile × List ℕ) DiskFault) (r : Result (List NamedFile × List ℕ) DiskFault) (x : List NamedFile × List ℕ) → on_some o f r ≡ Ok x → ((o ≡ None) × (r ≡ Ok x)) ⊎ ((b : A) × (o ≡ Some b) × (f b ≡ Ok x))
on_ok None f r x e = inl (refl, e)
on_ok (Some b) f r x e = inr (b, refl, e)

pub is_open : (g : ℕ) (bytes b : List ℕ) → opened (g ∷ bytes) ≡ Some b → (g ≡ 1) × (bytes ≡ b)
is_open g bytes b e = go (g == 1) refl e
  where
    go : (t : Bool) → (g == 1) ≡ t → cond t (Some bytes) None ≡ Some b → (g ≡ 1) × (bytes ≡ b)
    go true q h = (eqb-true g 1 q, cc)
    go false q h = absurd cc

is_shut : (g : ℕ) (bytes : List ℕ) → opened (g ∷ bytes) ≡ None → g ≡ 1 → ⊥
is_shut g bytes e one = let h : cond (g == 1) (Some bytes) None ≡ cond true (Some bytes) None = ap (λ (t : Bool). cond t (Some bytes) None) (eq-eqb g 1 one) in let k : Some bytes ≡ None = sym h ∙ e in cc

-- one record, and those that are found after it
found_more : (d : List ℕ) (last at : ℕ) (files later made : List NamedFile) (after rest : List ℕ) (one : FoundOne d last at files later after)
    → FoundAll d last (gate_after at one.cs) later made rest → FoundAll d last at files made rest
found_more d last at files later made after rest one r =
    let from = r.from in
    let j = follow_join files one.cs (joined r.groups) one.follow (subst (λ (fs : List NamedFile). Follow fs (joined r.groups)) one.makes r.follow) in
    record {
      upto = r.upto;
      groups = one.cs ∷ r.groups;
      records = (one.is, r.records);
      follow = j.0;
      makes = r.makes ∙ ap (λ (fs : List NamedFile). files_after fs (joined r.groups)) one.makes ∙ sym j.1;
      shut = r.shut;
      from = omega arith;
      within = r.within;
      left = r.left;
    }

pub records_found : (n : ℕ) (d : List ℕ) (last at : ℕ) (files : List NamedFile) (x : List NamedFile × List ℕ) → IsBytes d → last ≤ length d → at < last → length (tail d last at) ≤ n
    → records_at n files (tail d last at) ≡ Ok x → FoundAll d last at files x.0 x.1
unfolding records_at
records_found zero d last at files x fits le lt enough e = absurd (omega (arith, tail_length d last at le))
records_found (suc n) d last at files x fits le lt enough e =
    elim (on_ok (opened (tail d last at)) (λ bytes. record_at files bytes >>= λ y. records_at n y.0 y.1) (Ok (files, tail d last at)) x e) [
      | inl (none, same) ↦ subst (λ (y : List NamedFile × List ℕ). FoundAll d last at files y.0 y.1) (ok_is _ _ same) (record {
        upto = at;
        groups = [];
        records = refl;
        follow = tt;
        makes = refl;
        shut = is_shut (get_or d at 0) (tail d last (at + 1)) (ap opened (sym (tail_cons d last at lt le)) ∙ none);
        from = omega arith;
        within = lt;
        left = refl;
      })
      | inr (b, some, h) ↦ (
          let o = is_open (get_or d at 0) (tail d last (at + 1)) b (ap opened (sym (tail_cons d last at lt le)) ∙ some) in
          let y = bind_ok (record_at files b) (λ y. records_at n y.0 y.1) x h in
          let one = record_found d last at files y.0 fits le lt o.0 (ap (record_at files) o.1 ∙ y.1) in
          let within = one.is.within in
          found_more d last at files y.0.0 x.0 y.0.1 x.1 one
          (records_found n d last (gate_after at one.cs) y.0.0 x fits le within (omega (arith, tail_length d last at le, tail_length d last (gate_after at one.cs) le)) (ap (records_at n y.0.0) (sym one.left) ∙ y.2))
          )
    ]

-- the disk holds these files, up to the gate that begins what is left
pub record HeldTo (d : List ℕ) (x : List NamedFile × List ℕ) : Type 0 where
  pub held : IsHeldTo d (end_of (selected_half (slice_index d 0)) - length x.1) x.0
  pub from : start_of (selected_half (slice_index d 0)) ≤ end_of (selected_half (slice_index d 0)) - length x.1
  pub some : 0 < length x.1
  pub short : length x.1 ≤ end_of (selected_half (slice_index d 0))

pub recovered_held : (d : List ℕ) (x : List NamedFile × List ℕ) → IsBytes d → length d ≡ 2097152 → recovered d ≡ Ok x → HeldTo d x
recovered_held d x fits size e =
    let second = selected_half (slice_index d 0) in
    let f = half_facts second in
    let r = records_found (length (selected d)) d (end_of second) (start_of second) [] x fits (omega arith) f.1 (omega arith) e in
    let within = r.within in let from = r.from in
    let l : length x.1 ≡ end_of second - r.upto = ap length r.left ∙ tail_length d (end_of second) r.upto (omega arith) in
    let back : r.upto ≡ end_of second - length x.1 = omega arith in
    let reads : Reads d second r.upto x.0 = record { groups = r.groups; records = r.records; possible = r.follow; makes = r.makes } in
    let held : IsHeldTo d r.upto x.0 = record { size = size; reads = reads; closed = r.shut } in
    record { held = subst (λ (k : ℕ). IsHeldTo d k x.0) back held; from = omega arith; some = omega arith; short = omega arith }

pub held_recovered : (d : List ℕ) (upto : ℕ) (files : List NamedFile) → IsHeldTo d upto files → recovered d ≡ Ok (files, tail d (end_of (selected_half (slice_index d 0))) upto)
held_recovered d upto files h =
    let second = selected_half (slice_index d 0) in
    let f = half_facts second in let s = h.size in
    held_read d upto files h (length (selected d)) (omega (arith, length-drop (start_of second) (take (end_of second) d), length-take (end_of second) d))

pub only_memory : {A : Type 0} (e : DiskFault) (r : Result A DiskFault) (x : A) → r ≡ Ok x → Fails e r → e ≡ OutOfMemory
only_memory BadRecord r x ok h = absurd cc
only_memory BadChange r x ok h = absurd cc
only_memory PastHalf r x ok h = absurd cc
only_memory OutOfMemory r x ok h = refl

-- a first gate that is not open has nothing after it
pub half_shut : (d : List ℕ) → length d ≡ 2097152 → (slice_index d (start_of (selected_half (slice_index d 0))) ≡ 1 → ⊥) → opened (selected d) ≡ None
half_shut d size shut =
    let second = selected_half (slice_index d 0) in
    let f = half_facts second in
    ap opened (tail_cons d (end_of second) (start_of second) f.1 (omega arith))
    ∙ ap (λ (b : Bool). cond b (Some (tail d (end_of second) (start_of second + 1))) None) (ne_eqb (get_or d (start_of second) 0) 1 shut)
