-- What is read was spelled so.
use Rattle.std.proofs.Common.{◌≡◌, ℕ, zero, suc, ◌+◌, ◌^◌, ◌<◌, ◌≤◌, Bool, true, false, cond, ltb, List, [], ◌∷◌, ◌++◌, length, get_or, take, drop, Result, Ok, Err, refl, sym, ap, subst, ◌∙◌, append_assoc, arith, inl, inr}
use Rattle.std.specs.Prelude.{◌&&◌, not, nat_le, ◌==◌}
use Rattle.std.specs.List.{AllByRecursion}
use Rattle.std.specs.Int.{Width, w16, w32, byte_len, from_le_bytes, to_le_bytes}
use Rattle.std.proofs.lemmas.Bool.{cases_lt, ltb-false, leb-true, eqb-false, and_parts, not-true}
use Rattle.std.proofs.lemmas.List.{take-append-drop, length-take, get_or-drop, get_or-take, get_or_past}
use Rattle.std.proofs.lemmas.Nat.{le_bytes_2, le_bytes_4}
use Rattle.disk_model.specs.declared.change.Change.{Change}
use Rattle.disk_model.specs.declared.change.Change.TheVariants.{Write}
use Rattle.disk_model.specs.Files.{IsFormed, IsName, IsNameByte, is_name_byte}
use Rattle.disk_model.specs.Spelling.{spelling, body_of}
use Rattle.journal.specs.declared.fault.DiskFault.{DiskFault}
use Rattle.journal.specs.declared.fault.DiskFault.TheVariants.{BadRecord}
use Rattle.journal.specs.Reading.{◌>>=◌, number_at, text_at, name_at, create_at, write_at, empty_at, remove_at, rename_at, change_at, changes_at, all_name_bytes}

abbrev pub IsBytes : List ℕ → Type 0
IsBytes bytes = (i : ℕ) → get_or bytes i 0 < 256

pub bytes_drop : (n : ℕ) (bytes : List ℕ) → IsBytes bytes → IsBytes (drop n bytes)
bytes_drop n bytes h i = rw get_or-drop (h (n + i))

pub bytes_take : (n : ℕ) (bytes : List ℕ) → IsBytes bytes → IsBytes (take n bytes)
bytes_take n bytes h i =
    elim (cases_lt i n) [
      | inl lt ↦ rw (get_or-take n bytes i 0 lt) (h i)
      | inr le ↦ rw (get_or_past (take n bytes) i 0 (omega (arith, length-take n bytes))) (omega arith)
    ]

bytes_rest : (b : ℕ) (bytes : List ℕ) → IsBytes (b ∷ bytes) → IsBytes bytes
bytes_rest b bytes h i = h (suc i)

all_bytes : (bytes : List ℕ) → IsBytes bytes → AllByRecursion (λ b. b < 256) bytes
all_bytes [] h = tt
all_bytes (b ∷ bytes) h = (h 0, all_bytes bytes (bytes_rest b bytes h))

pub bind_ok : {A B : Type 0} (r : Result A DiskFault) (f : A → Result B DiskFault) (y : B) → (r >>= f) ≡ Ok y → (x : A) × (r ≡ Ok x) × (f x ≡ Ok y)
bind_ok (Ok x) f y e = (x, refl, e)
bind_ok (Err d) f y e = absurd cc

-- a fault where the test holds
pub guard_ok : {A : Type 0} (b : Bool) (d : DiskFault) (r : Result A DiskFault) (y : A) → cond b (Err d) r ≡ Ok y → (b ≡ false) × (r ≡ Ok y)
guard_ok true d r y e = absurd cc
guard_ok false d r y e = (refl, e)

-- a fault where it does not
pub test_ok : {A : Type 0} (b : Bool) (d : DiskFault) (r : Result A DiskFault) (y : A) → cond b r (Err d) ≡ Ok y → (b ≡ true) × (r ≡ Ok y)
test_ok true d r y e = (refl, e)
test_ok false d r y e = absurd cc

abbrev done : {A : Type 0} → A → Result A DiskFault
done x = Ok x

pub ok_is : {A : Type 0} (x y : A) → done x ≡ done y → x ≡ y
ok_is x y e = cc

pub record Takes (bytes text rest : List ℕ) : Type 0 where
  pub parts : bytes ≡ text ++ rest
  pub fine : IsBytes rest

takes_then : (a x b y c : List ℕ) → Takes a x b → Takes b y c → Takes a (x ++ y) c
takes_then a x b y c p q = record { parts = p.parts ∙ ap (λ (t : List ℕ). x ++ t) q.parts ∙ sym (append_assoc x y c); fine = q.fine }

number_takes : (w : Width) (limit : ℕ) → ((bytes : List ℕ) → length bytes ≡ byte_len w → IsBytes bytes → (to_le_bytes w (from_le_bytes w bytes) ≡ bytes) × (from_le_bytes w bytes < limit))
    → (bytes : List ℕ) (x : ℕ × List ℕ) → IsBytes bytes → number_at w bytes ≡ Ok x → Takes bytes (to_le_bytes w x.0) x.1 × (x.0 < limit)
number_takes w limit wide bytes x fits e =
    let g = guard_ok (ltb (length bytes) (byte_len w)) BadRecord (Ok (from_le_bytes w (take (byte_len w) bytes), drop (byte_len w) bytes)) x e in
    let long : byte_len w ≤ length bytes = ltb-false _ _ g.0 in
    let back = wide (take (byte_len w) bytes) (omega (arith, length-take (byte_len w) bytes)) (bytes_take (byte_len w) bytes fits) in
    subst (λ (y : ℕ × List ℕ). Takes bytes (to_le_bytes w y.0) y.1 × (y.0 < limit)) (ok_is _ _ g.1)
    (record { parts = sym (take-append-drop (byte_len w) bytes) ∙ ap (λ (t : List ℕ). t ++ drop (byte_len w) bytes) (sym back.0); fine = bytes_drop (byte_len w) bytes fits }, back.1)

wide2 : (bytes : List ℕ) → length bytes ≡ byte_len w16 → IsBytes bytes → (to_le_bytes w16 (from_le_bytes w16 bytes) ≡ bytes) × (from_le_bytes w16 bytes < 2 ^ 16)
wide2 bytes len fits = (le_bytes_2 bytes _ len fits refl, omega (arith, fits 0, fits 1))

wide4 : (bytes : List ℕ) → length bytes ≡ byte_len w32 → IsBytes bytes → (to_le_bytes w32 (from_le_bytes w32 bytes) ≡ bytes) × (from_le_bytes w32 bytes < 2 ^ 32)
wide4 bytes len fits = (le_bytes_4 bytes _ len fits refl, omega (arith, fits 0, fits 1, fits 2, fits 3))

text_takes : (n : ℕ) (bytes : List ℕ) (x : List ℕ × List ℕ) → IsBytes bytes → text_at n bytes ≡ Ok x → Takes bytes x.0 x.1 × (length x.0 ≡ n) × IsBytes x.0
text_takes n bytes x fits e =
    let g = guard_ok (ltb (length bytes) n) BadRecord (Ok (take n bytes, drop n bytes)) x e in
    let long : n ≤ length bytes = ltb-false _ _ g.0 in
    subst (λ (y : List ℕ × List ℕ). Takes bytes y.0 y.1 × (length y.0 ≡ n) × IsBytes y.0) (ok_is _ _ g.1)
    (record { parts = sym (take-append-drop n bytes); fine = bytes_drop n bytes fits }, omega (arith, length-take n bytes), bytes_take n bytes fits)

names_are : (name : List ℕ) → all_name_bytes name ≡ true → AllByRecursion IsNameByte name
names_are [] h = tt
names_are (b ∷ name) h =
    let p = and_parts (is_name_byte b) (all_name_bytes name) h in
    let q = and_parts (nat_le 33 b && nat_le b 126) (not (b == 47)) p.0 in
    let r = and_parts (nat_le 33 b) (nat_le b 126) q.0 in
    ((leb-true 33 b r.0, leb-true b 126 r.1, eqb-false b 47 (not-true (b == 47) q.1)), names_are name p.1)

name_takes : (bytes : List ℕ) (x : List ℕ × List ℕ) → IsBytes bytes → name_at bytes ≡ Ok x → Takes bytes (length x.0 ∷ x.0) x.1 × IsName x.0
unfolding name_at
name_takes [] x fits e = absurd cc
name_takes (n ∷ rest) x fits e =
    let b = bind_ok (text_at n rest) (λ name. cond (nat_le 1 n && nat_le n 32 && all_name_bytes name.0) (Ok (name.0, name.1)) (Err BadRecord)) x e in
    let name = b.0 in
    let t = text_takes n rest name (bytes_rest n rest fits) b.1 in
    let g = test_ok (nat_le 1 n && nat_le n 32 && all_name_bytes name.0) BadRecord (Ok (name.0, name.1)) x b.2 in
    let p = and_parts (nat_le 1 n && nat_le n 32) (all_name_bytes name.0) g.0 in
    let q = and_parts (nat_le 1 n) (nat_le n 32) p.0 in
    let low = leb-true 1 n q.0 in let high = leb-true n 32 q.1 in let len = t.1 in
    subst (λ (y : List ℕ × List ℕ). Takes (n ∷ rest) (length y.0 ∷ y.0) y.1 × IsName y.0) (ok_is _ _ g.1)
    (record { parts = ap (λ (l : List ℕ). n ∷ l) t.0.parts ∙ ap (λ (k : ℕ). k ∷ (name.0 ++ name.1)) (sym t.1); fine = t.0.fine }, (omega arith, omega arith, names_are name.0 p.1))

create_takes : (bytes : List ℕ) (x : Change × List ℕ) → IsBytes bytes → create_at bytes ≡ Ok x → Takes (1 ∷ bytes) (spelling x.0) x.1 × IsFormed x.0
unfolding create_at
create_takes bytes x fits e =
    let b = bind_ok (name_at bytes) _ x e in
    let t = name_takes bytes b.0 fits b.1 in
    subst (λ (y : Change × List ℕ). Takes (1 ∷ bytes) (spelling y.0) y.1 × IsFormed y.0) (ok_is _ _ b.2)
    (record { parts = ap (λ (l : List ℕ). 1 ∷ l) t.0.parts; fine = t.0.fine }, t.1)

write_takes : (bytes : List ℕ) (x : Change × List ℕ) → IsBytes bytes → write_at bytes ≡ Ok x → Takes (2 ∷ bytes) (spelling x.0) x.1 × IsFormed x.0
unfolding write_at
write_takes bytes x fits e =
    let b1 = bind_ok (number_at w16 bytes) _ x e in
    let file = b1.0 in let t1 = number_takes w16 (2 ^ 16) wide2 bytes file fits b1.1 in
    let b2 = bind_ok (number_at w32 file.1) _ x b1.2 in
    let offset = b2.0 in let t2 = number_takes w32 (2 ^ 32) wide4 file.1 offset t1.0.fine b2.1 in
    let b3 = bind_ok (number_at w16 offset.1) _ x b2.2 in
    let n = b3.0 in let t3 = number_takes w16 (2 ^ 16) wide2 offset.1 n t2.0.fine b3.1 in
    let b4 = bind_ok (text_at n.0 n.1) _ x b3.2 in
    let text = b4.0 in let t4 = text_takes n.0 n.1 text t3.0.fine b4.1 in
    let g = test_ok (nat_le 1 n.0 && nat_le n.0 1024) BadRecord (Ok (Write file.0 offset.0 text.0, text.1)) x b4.2 in
    let q = and_parts (nat_le 1 n.0) (nat_le n.0 1024) g.0 in
    let low = leb-true 1 n.0 q.0 in let high = leb-true n.0 1024 q.1 in let len = t4.1 in
    let all = takes_then bytes _ file.1 _ text.1 t1.0 (takes_then file.1 _ offset.1 _ text.1 t2.0 (takes_then offset.1 _ n.1 _ text.1 t3.0 t4.0)) in
    let spelled : Takes bytes (to_le_bytes w16 file.0 ++ (to_le_bytes w32 offset.0 ++ (to_le_bytes w16 (length text.0) ++ text.0))) text.1 =
    subst (λ (k : ℕ). Takes bytes (to_le_bytes w16 file.0 ++ (to_le_bytes w32 offset.0 ++ (to_le_bytes w16 k ++ text.0))) text.1) (sym len) all in
    subst (λ (y : Change × List ℕ). Takes (2 ∷ bytes) (spelling y.0) y.1 × IsFormed y.0) (ok_is _ _ g.1)
    (record { parts = ap (λ (l : List ℕ). 2 ∷ l) spelled.parts; fine = spelled.fine }, (t1.1, t2.1, omega arith, omega arith, all_bytes text.0 t4.2))

empty_takes : (bytes : List ℕ) (x : Change × List ℕ) → IsBytes bytes → empty_at bytes ≡ Ok x → Takes (3 ∷ bytes) (spelling x.0) x.1 × IsFormed x.0
unfolding empty_at
empty_takes bytes x fits e =
    let b = bind_ok (number_at w16 bytes) _ x e in
    let t = number_takes w16 (2 ^ 16) wide2 bytes b.0 fits b.1 in
    subst (λ (y : Change × List ℕ). Takes (3 ∷ bytes) (spelling y.0) y.1 × IsFormed y.0) (ok_is _ _ b.2)
    (record { parts = ap (λ (l : List ℕ). 3 ∷ l) t.0.parts; fine = t.0.fine }, t.1)

remove_takes : (bytes : List ℕ) (x : Change × List ℕ) → IsBytes bytes → remove_at bytes ≡ Ok x → Takes (4 ∷ bytes) (spelling x.0) x.1 × IsFormed x.0
unfolding remove_at
remove_takes bytes x fits e =
    let b = bind_ok (number_at w16 bytes) _ x e in
    let t = number_takes w16 (2 ^ 16) wide2 bytes b.0 fits b.1 in
    subst (λ (y : Change × List ℕ). Takes (4 ∷ bytes) (spelling y.0) y.1 × IsFormed y.0) (ok_is _ _ b.2)
    (record { parts = ap (λ (l : List ℕ). 4 ∷ l) t.0.parts; fine = t.0.fine }, t.1)

rename_takes : (bytes : List ℕ) (x : Change × List ℕ) → IsBytes bytes → rename_at bytes ≡ Ok x → Takes (5 ∷ bytes) (spelling x.0) x.1 × IsFormed x.0
unfolding rename_at
rename_takes bytes x fits e =
    let b1 = bind_ok (number_at w16 bytes) _ x e in
    let file = b1.0 in let t1 = number_takes w16 (2 ^ 16) wide2 bytes file fits b1.1 in
    let b2 = bind_ok (name_at file.1) _ x b1.2 in
    let name = b2.0 in let t2 = name_takes file.1 name t1.0.fine b2.1 in
    let both = takes_then bytes _ file.1 _ name.1 t1.0 t2.0 in
    subst (λ (y : Change × List ℕ). Takes (5 ∷ bytes) (spelling y.0) y.1 × IsFormed y.0) (ok_is _ _ b2.2)
    (record { parts = ap (λ (l : List ℕ). 5 ∷ l) both.parts; fine = both.fine }, (t1.1, t2.1))

pub change_takes : (bytes : List ℕ) (x : Change × List ℕ) → IsBytes bytes → change_at bytes ≡ Ok x → Takes bytes (spelling x.0) x.1 × IsFormed x.0
unfolding change_at
change_takes [] x fits e = absurd cc
change_takes (zero ∷ rest) x fits e = absurd cc
change_takes (suc zero ∷ rest) x fits e = create_takes rest x (bytes_rest 1 rest fits) e
change_takes (suc (suc zero) ∷ rest) x fits e = write_takes rest x (bytes_rest 2 rest fits) e
change_takes (suc (suc (suc zero)) ∷ rest) x fits e = empty_takes rest x (bytes_rest 3 rest fits) e
change_takes (suc (suc (suc (suc zero))) ∷ rest) x fits e = remove_takes rest x (bytes_rest 4 rest fits) e
change_takes (suc (suc (suc (suc (suc zero)))) ∷ rest) x fits e = rename_takes rest x (bytes_rest 5 rest fits) e
change_takes (suc (suc (suc (suc (suc (suc b))))) ∷ rest) x fits e = absurd cc

pub changes_takes : (n : ℕ) (bytes : List ℕ) (cs : List Change) → IsBytes bytes → changes_at n bytes ≡ Ok cs → (bytes ≡ body_of cs) × AllByRecursion IsFormed cs
unfolding changes_at body_of
changes_takes zero [] cs fits e = subst (λ (l : List Change). ([] ≡ body_of l) × AllByRecursion IsFormed l) (ok_is [] cs e) (refl, tt)
changes_takes zero (b ∷ bytes) cs fits e = absurd cc
changes_takes (suc n) [] cs fits e = subst (λ (l : List Change). ([] ≡ body_of l) × AllByRecursion IsFormed l) (ok_is [] cs e) (refl, tt)
changes_takes (suc n) (b ∷ bytes) cs fits e =
    let b1 = bind_ok (change_at (b ∷ bytes)) _ cs e in
    let t = change_takes (b ∷ bytes) b1.0 fits b1.1 in
    let b2 = bind_ok (changes_at n b1.0.1) _ cs b1.2 in
    let r = changes_takes n b1.0.1 b2.0 t.0.fine b2.1 in
    subst (λ (l : List Change). (b ∷ bytes ≡ body_of l) × AllByRecursion IsFormed l) (ok_is _ _ b2.2)
    (t.0.parts ∙ ap (λ (l : List ℕ). spelling b1.0.0 ++ l) r.0, (t.1, r.1))
