-- Changes are spelled in one way only, so that a disk holds one list of files.
use Rattle.std.proofs.Common.{◌≡◌, ℕ, ◌+◌, ◌^◌, ◌<◌, ◌≤◌, Bool, true, false, List, [], ◌∷◌, ◌++◌, length, take, drop, refl, sym, ap, subst, ◌∙◌, arith, length-append}
use Rattle.std.specs.Prelude.{slice_index}
use Rattle.std.specs.List.{AllByRecursion}
use Rattle.std.specs.Int.{w16, w32, from_le_bytes, to_le_bytes}
use Rattle.std.proofs.lemmas.List.{take_at, drop_at, ext_get_or, get_or_append_left}
use Rattle.std.proofs.lemmas.Nat.{from_le_bytes-to_le_bytes_2, from_le_bytes-to_le_bytes_4}
use Rattle.disk_model.specs.declared.change.Change.{Change}
use Rattle.disk_model.specs.declared.change.Change.TheVariants.{Create, Write, Empty, Remove, Rename}
use Rattle.disk_model.specs.declared.change.NamedFile.{NamedFile}
use Rattle.disk_model.specs.Files.{IsFormed, Follow, changed, files_after}
use Rattle.disk_model.specs.Spelling.{spelling, body_of, sized_body, gate_after}
use Rattle.disk_model.specs.Held.{HasBytes, IsRecord, Records, joined, IsHeldTo, selected_half, start_of, end_of}

-- ---- texts

-- two prefixes of one length, of the same text
prefixes_same : (a b x y : List ℕ) → length a ≡ length b → a ++ x ≡ b ++ y → (a ≡ b) × (x ≡ y)
prefixes_same a b x y size same = (
  sym (take_at a x (length b) size) ∙ ap (take (length b)) same ∙ take_at b y (length b) refl,
  sym (drop_at a x (length b) size) ∙ ap (drop (length b)) same ∙ drop_at b y (length b) refl,
)

two_same : (m n : ℕ) (x y : List ℕ) → m < 2 ^ 16 → n < 2 ^ 16 → to_le_bytes w16 m ++ x ≡ to_le_bytes w16 n ++ y → (m ≡ n) × (x ≡ y)
two_same m n x y mlt nlt same =
    let p = prefixes_same (to_le_bytes w16 m) (to_le_bytes w16 n) x y refl same in
    (sym (from_le_bytes-to_le_bytes_2 m mlt) ∙ ap (from_le_bytes w16) p.0 ∙ from_le_bytes-to_le_bytes_2 n nlt, p.1)

four_same : (m n : ℕ) (x y : List ℕ) → m < 2 ^ 32 → n < 2 ^ 32 → to_le_bytes w32 m ++ x ≡ to_le_bytes w32 n ++ y → (m ≡ n) × (x ≡ y)
four_same m n x y mlt nlt same =
    let p = prefixes_same (to_le_bytes w32 m) (to_le_bytes w32 n) x y refl same in
    (sym (from_le_bytes-to_le_bytes_4 m mlt) ∙ ap (from_le_bytes w32) p.0 ∙ from_le_bytes-to_le_bytes_4 n nlt, p.1)

-- ---- changes

create_same : (name other x y : List ℕ) → length name ∷ (name ++ x) ≡ length other ∷ (other ++ y) → (Create name ≡ Create other) × (x ≡ y)
create_same name other x y same =
    let size : length name ≡ length other = cc in
    let rest : name ++ x ≡ other ++ y = cc in
    let p = prefixes_same name other x y size rest in
    (ap Create p.0, p.1)

write_same : (m n i j : ℕ) (bytes others x y : List ℕ) → IsFormed (Write m i bytes) → IsFormed (Write n j others)
    → to_le_bytes w16 m ++ (to_le_bytes w32 i ++ (to_le_bytes w16 (length bytes) ++ (bytes ++ x))) ≡ to_le_bytes w16 n ++ (to_le_bytes w32 j ++ (to_le_bytes w16 (length others) ++ (others ++ y)))
    → (Write m i bytes ≡ Write n j others) × (x ≡ y)
write_same m n i j bytes others x y f g same =
    let short : length bytes < 2 ^ 16 = (let most = f.3 in omega arith) in
    let small : length others < 2 ^ 16 = (let most = g.3 in omega arith) in
    let a = two_same m n (to_le_bytes w32 i ++ (to_le_bytes w16 (length bytes) ++ (bytes ++ x))) (to_le_bytes w32 j ++ (to_le_bytes w16 (length others) ++ (others ++ y))) f.0 g.0 same in
    let b = four_same i j (to_le_bytes w16 (length bytes) ++ (bytes ++ x)) (to_le_bytes w16 (length others) ++ (others ++ y)) f.1 g.1 a.1 in
    let c = two_same (length bytes) (length others) (bytes ++ x) (others ++ y) short small b.1 in
    let d = prefixes_same bytes others x y c.0 c.1 in
    (ap (λ (k : ℕ). Write k i bytes) a.0 ∙ ap (λ (k : ℕ). Write n k bytes) b.0 ∙ ap (Write n j) d.0, d.1)

empty_same : (m n : ℕ) (x y : List ℕ) → m < 2 ^ 16 → n < 2 ^ 16 → to_le_bytes w16 m ++ x ≡ to_le_bytes w16 n ++ y → (Empty m ≡ Empty n) × (x ≡ y)
empty_same m n x y mlt nlt same = let p = two_same m n x y mlt nlt same in (ap Empty p.0, p.1)

remove_same : (m n : ℕ) (x y : List ℕ) → m < 2 ^ 16 → n < 2 ^ 16 → to_le_bytes w16 m ++ x ≡ to_le_bytes w16 n ++ y → (Remove m ≡ Remove n) × (x ≡ y)
remove_same m n x y mlt nlt same = let p = two_same m n x y mlt nlt same in (ap Remove p.0, p.1)

rename_same : (m n : ℕ) (name other x y : List ℕ) → m < 2 ^ 16 → n < 2 ^ 16
    → to_le_bytes w16 m ++ (length name ∷ (name ++ x)) ≡ to_le_bytes w16 n ++ (length other ∷ (other ++ y)) → (Rename m name ≡ Rename n other) × (x ≡ y)
rename_same m n name other x y mlt nlt same =
    let p = two_same m n (length name ∷ (name ++ x)) (length other ∷ (other ++ y)) mlt nlt same in
    let after : length name ∷ (name ++ x) ≡ length other ∷ (other ++ y) = p.1 in
    let size : length name ≡ length other = cc in
    let rest : name ++ x ≡ other ++ y = cc in
    let q = prefixes_same name other x y size rest in
    (ap (λ (k : ℕ). Rename k name) p.0 ∙ ap (Rename n) q.0, q.1)

-- two changes of different kinds
kinds_differ : {A : Type 0} (k l : ℕ) (x y : List ℕ) → (k ≡ l → ⊥) → k ∷ x ≡ l ∷ y → A
kinds_differ k l x y differ same = let kind : k ≡ l = cc in absurd (differ kind)

-- a text begins with at most one change
change_once : (c e : Change) (x y : List ℕ) → IsFormed c → IsFormed e → spelling c ++ x ≡ spelling e ++ y → (c ≡ e) × (x ≡ y)
change_once (Create name) (Create other) x y f g same = create_same name other x y cc
change_once (Create name) (Write n j others) x y f g same = kinds_differ 1 2 _ _ (λ h. omega arith) same
change_once (Create name) (Empty n) x y f g same = kinds_differ 1 3 _ _ (λ h. omega arith) same
change_once (Create name) (Remove n) x y f g same = kinds_differ 1 4 _ _ (λ h. omega arith) same
change_once (Create name) (Rename n other) x y f g same = kinds_differ 1 5 _ _ (λ h. omega arith) same
change_once (Write m i bytes) (Create other) x y f g same = kinds_differ 2 1 _ _ (λ h. omega arith) same
change_once (Write m i bytes) (Write n j others) x y f g same = write_same m n i j bytes others x y f g cc
change_once (Write m i bytes) (Empty n) x y f g same = kinds_differ 2 3 _ _ (λ h. omega arith) same
change_once (Write m i bytes) (Remove n) x y f g same = kinds_differ 2 4 _ _ (λ h. omega arith) same
change_once (Write m i bytes) (Rename n other) x y f g same = kinds_differ 2 5 _ _ (λ h. omega arith) same
change_once (Empty m) (Create other) x y f g same = kinds_differ 3 1 _ _ (λ h. omega arith) same
change_once (Empty m) (Write n j others) x y f g same = kinds_differ 3 2 _ _ (λ h. omega arith) same
change_once (Empty m) (Empty n) x y f g same = empty_same m n x y f g cc
change_once (Empty m) (Remove n) x y f g same = kinds_differ 3 4 _ _ (λ h. omega arith) same
change_once (Empty m) (Rename n other) x y f g same = kinds_differ 3 5 _ _ (λ h. omega arith) same
change_once (Remove m) (Create other) x y f g same = kinds_differ 4 1 _ _ (λ h. omega arith) same
change_once (Remove m) (Write n j others) x y f g same = kinds_differ 4 2 _ _ (λ h. omega arith) same
change_once (Remove m) (Empty n) x y f g same = kinds_differ 4 3 _ _ (λ h. omega arith) same
change_once (Remove m) (Remove n) x y f g same = remove_same m n x y f g cc
change_once (Remove m) (Rename n other) x y f g same = kinds_differ 4 5 _ _ (λ h. omega arith) same
change_once (Rename m name) (Create other) x y f g same = kinds_differ 5 1 _ _ (λ h. omega arith) same
change_once (Rename m name) (Write n j others) x y f g same = kinds_differ 5 2 _ _ (λ h. omega arith) same
change_once (Rename m name) (Empty n) x y f g same = kinds_differ 5 3 _ _ (λ h. omega arith) same
change_once (Rename m name) (Remove n) x y f g same = kinds_differ 5 4 _ _ (λ h. omega arith) same
change_once (Rename m name) (Rename n other) x y f g same = rename_same m n name other x y f.0 g.0 cc

spelling_some : (c : Change) (x : List ℕ) → 1 ≤ length (spelling c ++ x)
spelling_some (Create name) x = omega arith
spelling_some (Write place offset bytes) x = omega arith
spelling_some (Empty place) x = omega arith
spelling_some (Remove place) x = omega arith
spelling_some (Rename place name) x = omega arith

-- a text is the body of at most one list of changes
body_once : (cs es : List Change) → AllByRecursion IsFormed cs → AllByRecursion IsFormed es → body_of cs ≡ body_of es → cs ≡ es
unfolding body_of
body_once [] [] f g same = refl
body_once [] (e ∷ es) f g same = absurd (omega (arith, ap length same, spelling_some e (body_of es)))
body_once (c ∷ cs) [] f g same = absurd (omega (arith, ap length same, spelling_some c (body_of cs)))
body_once (c ∷ cs) (e ∷ es) f g same =
    let p = change_once c e (body_of cs) (body_of es) f.0 g.0 same in
    ap (λ (d : Change). d ∷ cs) p.0 ∙ ap (λ (ds : List Change). e ∷ ds) (body_once cs es f.1 g.1 p.1)

-- ---- records

-- two texts of one length stand at the same place
stands_once : (d : List ℕ) (at : ℕ) (a b : List ℕ) → length a ≡ length b → HasBytes d at a → HasBytes d at b → a ≡ b
stands_once d at a b size h g = ext_get_or 0 a b size (λ i lt. sym (h i lt) ∙ g i (omega arith))

stands_prefix : (d : List ℕ) (at : ℕ) (a b : List ℕ) → HasBytes d at (a ++ b) → HasBytes d at a
stands_prefix d at a b h i lt = h i (omega (arith, length-append a b)) ∙ get_or_append_left a b 0 i lt

-- at most one record stands after a gate
record_once : (d : List ℕ) (last gate : ℕ) (cs es : List Change) → last < 2 ^ 32 → IsRecord d last gate cs → IsRecord d last gate es
    → AllByRecursion IsFormed cs → AllByRecursion IsFormed es → cs ≡ es
record_once d last gate cs es small h g f k =
    let m = length (body_of cs) in
    let n = length (body_of es) in
    let mlt : m < 2 ^ 32 = (let within = h.within in omega arith) in
    let nlt : n < 2 ^ 32 = (let within = g.within in omega arith) in
    let prefix : to_le_bytes w32 m ≡ to_le_bytes w32 n = stands_once d (gate + 1) (to_le_bytes w32 m) (to_le_bytes w32 n) refl (stands_prefix d (gate + 1) (to_le_bytes w32 m) (body_of cs) h.stands) (stands_prefix d (gate + 1) (to_le_bytes w32 n) (body_of es) g.stands) in
    let size : m ≡ n = sym (from_le_bytes-to_le_bytes_4 m mlt) ∙ ap (from_le_bytes w32) prefix ∙ from_le_bytes-to_le_bytes_4 n nlt in
    let whole : length (sized_body cs) ≡ length (sized_body es) = omega (arith, length-append (to_le_bytes w32 m) (body_of cs), length-append (to_le_bytes w32 n) (body_of es)) in
    let same = stands_once d (gate + 1) (sized_body cs) (sized_body es) whole h.stands g.stands in
    body_once cs es f k (prefixes_same (to_le_bytes w32 m) (to_le_bytes w32 n) (body_of cs) (body_of es) refl same).1

pub formed_all : (files : List NamedFile) (cs : List Change) → Follow files cs → AllByRecursion IsFormed cs
formed_all files [] f = tt
formed_all files (c ∷ cs) f = (f.0, formed_all (changed files c) cs f.2)

formed_split : (cs es : List Change) → AllByRecursion IsFormed (cs ++ es) → AllByRecursion IsFormed cs × AllByRecursion IsFormed es
formed_split [] es f = (tt, f)
formed_split (c ∷ cs) es f = let r = formed_split cs es f.1 in ((f.0, r.0), r.1)

-- records lead up to at most one gate that is not open
records_once : (d : List ℕ) (last gate upto other : ℕ) (css ess : List (List Change)) → last < 2 ^ 32
    → Records d last gate css upto → Records d last gate ess other → (slice_index d upto ≡ 1 → ⊥) → (slice_index d other ≡ 1 → ⊥)
    → AllByRecursion IsFormed (joined css) → AllByRecursion IsFormed (joined ess) → (css ≡ ess) × (upto ≡ other)
records_once d last gate upto other [] [] small h g shut closed f k = (refl, h ∙ sym g)
records_once d last gate upto other [] (es ∷ ess) small h g shut closed f k = absurd (shut (ap (slice_index d) h ∙ g.0.opened))
records_once d last gate upto other (cs ∷ css) [] small h g shut closed f k = absurd (closed (ap (slice_index d) g ∙ h.0.opened))
records_once d last gate upto other (cs ∷ css) (es ∷ ess) small h g shut closed f k =
    let a = formed_split cs (joined css) f in
    let b = formed_split es (joined ess) k in
    let one : cs ≡ es = record_once d last gate cs es small h.0 g.0 a.0 b.0 in
    let r = records_once d last (gate_after gate cs) upto other css ess small h.1 (subst (λ (l : List Change). Records d last (gate_after gate l) ess other) (sym one) g.1) shut closed a.1 b.1 in
    (ap (λ (l : List Change). l ∷ css) one ∙ ap (λ (l : List (List Change)). es ∷ l) r.0, r.1)

end_small : (half : Bool) → end_of half < 2 ^ 32
end_small false = omega arith
end_small true = omega arith

pub one_list : (d : List ℕ) (gate other : ℕ) (files others : List NamedFile) → IsHeldTo d gate files → IsHeldTo d other others → (files ≡ others) × (gate ≡ other)
one_list d gate other files others h g =
    let half = selected_half (slice_index d 0) in
    let r = records_once d (end_of half) (start_of half) gate other h.reads.groups g.reads.groups (end_small half) h.reads.records g.reads.records h.closed g.closed
    (formed_all [] (joined h.reads.groups) h.reads.possible) (formed_all [] (joined g.reads.groups) g.reads.possible) in
    (h.reads.makes ∙ ap (λ (l : List (List Change)). files_after [] (joined l)) r.0 ∙ sym g.reads.makes, r.1)
