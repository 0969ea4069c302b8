-- The marks of carriers stay those of the log.
use Rattle.std.proofs.Common.{◌≡◌, ℕ, ◌+◌, ◌<◌, ◌≤◌, Bool, true, false, if◌then◌else◌, List, [], ◌∷◌, ◌++◌, length, Option, Some, None, is_some, IfSome, unwrap_or, not, nat_lt, nat_le, ◌||◌, ◌&&◌, max, refl, sym, ap, subst, ◌∙◌, arith, take, drop, get_or}
use Rattle.std.specs.List.{find, AllByRecursion}
use Rattle.std.specs.Option.{option_map}
use Rattle.std.proofs.lemmas.Bool.{false≢true, leb-true, le-leb, ltb-true, lt-ltb, and_parts, and_from}
use Rattle.std.proofs.lemmas.List.{take_more}
use Rattle.std.proofs.lemmas.List.Folds.{list_any-append}
use Rattle.std.proofs.lemmas.List.Sums.{count_by-le-length, sum_by-cons, sum_by-drop_more}
use Rattle.std.proofs.Math.Bool.{and-true, and_assoc, and_comm, or-true, or-false}
use Rattle.kernel_model.specs.declared.carrier.Carrier.{Carrier}
use Rattle.kernel_model.specs.Entries.{Entry, is_same, is_among, meets}
use Rattle.kernel_model.specs.Paths.{is_durable, change_count, changes_in_log}
use Rattle.kernel_model.proofs.Folding.{with_change-length}
use Rattle.kernel_model.proofs.Meets.{same_is, same_sym, meets-one}
use Rattle.kernel_model.proofs.Paths.{count_of}
use Rattle.commit_deps.specs.Kept.{Marked}
use Rattle.commit_deps.specs.Marks.{IsMarkOf, reader, change_number}
use Rattle.commit_deps.specs.Kept.{Kept}
use Rattle.commit_deps.specs.Keeps.{mark_at, mark_or_none, is_written, Keeps, mark_of_change, greatest_mark, noted, noted_all, unwritten_count}
use Rattle.commit_deps.proofs.Answering.{both_pass}
use Rattle.commit_deps.proofs.Readers.{durable-reader, durable-union, durable-event, durable-nothing}

-- ---- the mark of a carrier, after another mark was noted
-- a carrier that is written, or not, has the greater of its mark and the new one, or keeps its own
abbrev pub joined_at : Bool → Option ℕ → ℕ → Option ℕ
joined_at b o m = if b then Some (max (unwrap_or o 0) m) else o

-- the first mark, where it is of that carrier or not
pub cons-at : (y : Carrier) (k : Marked) (ks : List Marked) (d : Bool) → is_same k.0 y ≡ d
    → mark_at y (k ∷ ks) ≡ (if d then Some k.1 else mark_at y ks)
cons-at y k ks true h = ap (λ (b : Bool). option_map (λ (j : Marked). j.1) (if b then Some k else find (λ (j : Marked). is_same j.0 y) ks)) h
cons-at y k ks false h = ap (λ (b : Bool). option_map (λ (j : Marked). j.1) (if b then Some k else find (λ (j : Marked). is_same j.0 y) ks)) h

-- where the first mark is of x or not, and of y or not
noted-step : (x y : Carrier) (m : ℕ) (k : Marked) (ks : List Marked) (b d : Bool) → is_same k.0 x ≡ b → is_same k.0 y ≡ d
    → mark_at y (noted x m ks) ≡ joined_at (is_same x y) (mark_at y ks) m
    → mark_at y (if b then (k.0, max k.1 m) ∷ ks else k ∷ noted x m ks) ≡ joined_at (is_same x y) (mark_at y (k ∷ ks)) m
noted-step x y m k ks true true h g rest =
    let same : is_same x y ≡ true = subst (λ (z : Carrier). is_same z y ≡ true) (same_is k.0 x h) g in
    cons-at y ((k.0, max k.1 m)) ks true g
    ∙ sym (ap (λ (v : Bool). joined_at v (mark_at y (k ∷ ks)) m) same ∙ ap (λ (o : Option ℕ). joined_at true o m) (cons-at y k ks true g))
noted-step x y m k ks true false h g rest =
    let same : is_same x y ≡ false = subst (λ (z : Carrier). is_same z y ≡ false) (same_is k.0 x h) g in
    cons-at y ((k.0, max k.1 m)) ks false g
    ∙ sym (ap (λ (v : Bool). joined_at v (mark_at y (k ∷ ks)) m) same ∙ cons-at y k ks false g)
noted-step x y m k ks false true h g rest =
    cons-at y k (noted x m ks) true g
    ∙ sym (ap (λ (v : Bool). joined_at v (mark_at y (k ∷ ks)) m) (other (is_same x y) refl) ∙ cons-at y k ks true g)
  where
    other : (v : Bool) → is_same x y ≡ v → is_same x y ≡ false
    other true e = absurd (false≢true (sym h ∙ ap (λ (z : Carrier). is_same k.0 z) (same_is x y e) ∙ g))
    other false e = e
noted-step x y m k ks false false h g rest =
    cons-at y k (noted x m ks) false g ∙ rest ∙ sym (ap (λ (o : Option ℕ). joined_at (is_same x y) o m) (cons-at y k ks false g))

pub mark_at-noted : (x y : Carrier) (m : ℕ) (ks : List Marked) → mark_at y (noted x m ks) ≡ joined_at (is_same x y) (mark_at y ks) m
mark_at-noted x y m [] = one (is_same x y) refl
  where
    one : (d : Bool) → is_same x y ≡ d → mark_at y ((x, m) ∷ []) ≡ joined_at (is_same x y) None m
    one true h = cons-at y ((x, m)) [] true h ∙ ap (λ (n : ℕ). Some n) (omega arith) ∙ sym (ap (λ (v : Bool). joined_at v None m) h)
    one false h = cons-at y ((x, m)) [] false h ∙ sym (ap (λ (v : Bool). joined_at v None m) h)
mark_at-noted x y m (k ∷ ks) = noted-step x y m k ks (is_same k.0 x) (is_same k.0 y) refl refl (mark_at-noted x y m ks)

-- joined twice is joined once
joined-twice : (a b : Bool) (o : Option ℕ) (m : ℕ) → joined_at a (joined_at b o m) m ≡ joined_at (b || a) o m
joined-twice true true o m = ap (λ (n : ℕ). Some n) (omega arith)
joined-twice true false o m = refl
joined-twice false true o m = refl
joined-twice false false o m = refl

-- the same of several carriers
pub mark_at-noted_all : (xs : List Carrier) (y : Carrier) (m : ℕ) (ks : List Marked) → mark_at y (noted_all xs m ks) ≡ joined_at (is_among y xs) (mark_at y ks) m
mark_at-noted_all [] y m ks = refl
mark_at-noted_all (x ∷ xs) y m ks =
    mark_at-noted_all xs y m (noted x m ks)
    ∙ ap (λ (o : Option ℕ). joined_at (is_among y xs) o m) (mark_at-noted x y m ks)
    ∙ joined-twice (is_among y xs) (is_same x y) (mark_at y ks) m
    ∙ ap (λ (b : Bool). joined_at (b || is_among y xs) (mark_at y ks) m) (same_sym x y)

noted_all-append : (xs ys : List Carrier) (m : ℕ) (ks : List Marked) → noted_all (xs ++ ys) m ks ≡ noted_all ys m (noted_all xs m ks)
noted_all-append [] ys m ks = refl
noted_all-append (x ∷ xs) ys m ks = noted_all-append xs ys m (noted x m ks)

-- one more carrier is noted
pub noted_all-more : (xs : List Carrier) (i : ℕ) (d : Carrier) (m : ℕ) (ks marks : List Marked) → i < length xs → marks ≡ noted_all (take i xs) m ks
    → noted (get_or xs i d) m marks ≡ noted_all (take (i + 1) xs) m ks
noted_all-more xs i d m ks marks h e =
    ap (λ (js : List Marked). noted (get_or xs i d) m js) e
    ∙ sym (ap (λ (ys : List Carrier). noted_all ys m ks) (take_more xs i d h) ∙ noted_all-append (take i xs) (get_or xs i d ∷ []) m ks)

-- ---- what one more event changes
-- the greater of two marks is below where both are
le-max : (a b c : ℕ) → nat_le (max a b) c ≡ (nat_le a c && nat_le b c)
le-max a b c = both_pass (nat_le (max a b) c) (nat_le a c && nat_le b c)
    (λ h. let least : max a b ≤ c = leb-true (max a b) c h in and_from (nat_le a c) (nat_le b c) (le-leb a c (omega arith)) (le-leb b c (omega arith)))
    (λ h. let both = and_parts (nat_le a c) (nat_le b c) h in
    let first : a ≤ c = leb-true a c both.0 in
    let second : b ≤ c = leb-true b c both.1 in
    le-leb (max a b) c (omega arith))

le-next : (n c : ℕ) → nat_le (n + 1) c ≡ nat_lt n c
le-next n c = both_pass (nat_le (n + 1) c) (nat_lt n c)
    (λ h. let least : n + 1 ≤ c = leb-true (n + 1) c h in lt-ltb n c (omega arith))
    (λ h. let less : n < c = ltb-true n c h in le-leb (n + 1) c (omega arith))

le-zero : (c : ℕ) → nat_le 0 c ≡ true
le-zero c = le-leb 0 c (omega arith)

-- a carrier that the event wrote rests on both, and another on what it rested on
mark-joined : (b : Bool) (o : Option ℕ) (m c : ℕ) (old new : Bool) → nat_le (unwrap_or o 0) c ≡ old → nat_le m c ≡ new
    → nat_le (unwrap_or (joined_at b o m) 0) c ≡ (old && (not b || new))
mark-joined true o m c old new h g = le-max (unwrap_or o 0) m c ∙ ap (λ (x : Bool). x && nat_le m c) h ∙ ap (λ (x : Bool). old && x) g
mark-joined false o m c old new h g = h ∙ sym (and-true old)

some-joined : (b : Bool) (o : Option ℕ) (m : ℕ) → is_some (joined_at b o m) ≡ (is_some o || b)
some-joined true o m = sym (or-true (is_some o))
some-joined false o m = sym (or-false (is_some o))

-- one more event is noted
pub keeps-more : (log : List Entry) (marks : List Marked) (e : Entry) (m : ℕ) → Keeps log marks → IsMarkOf m log e
    → Keeps (log ++ e ∷ []) (noted_all e.writes m marks)
keeps-more log marks e m keeps is_mark = record {
  written = λ x.
      ap (λ (o : Option ℕ). is_some o) (mark_at-noted_all e.writes x m marks)
      ∙ some-joined (is_among x e.writes) (mark_at x marks) m
      ∙ ap (λ (b : Bool). b || is_among x e.writes) (keeps.written x)
      ∙ ap (λ (b : Bool). is_written x log || b) (sym (or-false (is_among x e.writes)))
      ∙ sym (list_any-append (λ (d : Entry). is_among x d.writes) log (e ∷ []));
  marked = λ x. record {
    says = λ c.
        ap (λ (o : Option ℕ). nat_le (unwrap_or o 0) c) (mark_at-noted_all e.writes x m marks)
        ∙ mark-joined (is_among x e.writes) (mark_at x marks) m c (is_durable c log (reader (x ∷ []))) (is_durable c log e) ((keeps.marked x).says c) (is_mark.says c)
        ∙ ap (λ (b : Bool). is_durable c log (reader (x ∷ [])) && (not b || is_durable c log e)) (sym (meets-one e.writes x))
        ∙ sym (durable-reader c log e (x ∷ []));
  };
}

-- ---- the mark of the next event
-- the greatest mark is below where all are
greatest-says : (log : List Entry) (marks : List Marked) → Keeps log marks → (c own : ℕ) (rs : List Carrier)
    → nat_le (greatest_mark own rs marks) c ≡ (nat_le own c && is_durable c log (reader rs))
greatest-says log marks keeps c own [] = sym (and-true (nat_le own c)) ∙ ap (λ (b : Bool). nat_le own c && b) (sym (durable-nothing c 0 log))
greatest-says log marks keeps c own (x ∷ xs) =
    greatest-says log marks keeps c (max own (mark_or_none x marks)) xs
    ∙ ap (λ (b : Bool). b && is_durable c log (reader xs)) (le-max own (mark_or_none x marks) c)
    ∙ and_assoc (nat_le own c) (nat_le (mark_or_none x marks) c) (is_durable c log (reader xs))
    ∙ ap (λ (b : Bool). nat_le own c && (b && is_durable c log (reader xs))) ((keeps.marked x).says c)
    ∙ ap (λ (b : Bool). nat_le own c && b) (sym (durable-union c 0 log (x ∷ []) xs))

count-changes : (log : List Entry) → count_of log ≡ length (changes_in_log log)
count-changes [] = refl
count-changes (d ∷ ds) = ap (λ n. change_count d + n) (count-changes ds) ∙ sym (with_change-length d.change (changes_in_log ds))

-- the mark of its own change says whether that is committed
own-says : (c n : ℕ) (makes : Bool) → nat_le (mark_of_change (if makes then Some n else None)) c ≡ (not makes || nat_lt n c)
own-says c n true = le-next n c
own-says c n false = le-zero c

-- the mark of an event, from what it reads and the number of its change
pub mark-says : (log : List Entry) (marks : List Marked) (e : Entry) (reads : List Carrier) (change : Option ℕ)
    → Keeps log marks → e.reads ≡ reads → change ≡ change_number log e → IsMarkOf (greatest_mark (mark_of_change change) reads marks) log e
mark-says log marks e reads change keeps reads_it makes = record {
  says = λ c.
      ap (λ (rs : List Carrier). nat_le (greatest_mark (mark_of_change change) rs marks) c) (sym reads_it)
      ∙ ap (λ (o : Option ℕ). nat_le (greatest_mark (mark_of_change o) e.reads marks) c) makes
      ∙ greatest-says log marks keeps c (mark_of_change (change_number log e)) e.reads
      ∙ ap (λ (b : Bool). b && is_durable c log (reader e.reads)) (own-says c (length (changes_in_log log)) (is_some e.change))
      ∙ ap (λ (n : ℕ). (not (is_some e.change) || nat_lt n c) && is_durable c log (reader e.reads)) (omega (arith, count-changes log))
      ∙ and_comm (not (is_some e.change) || nat_lt (0 + count_of log) c) (is_durable c log (reader e.reads))
      ∙ sym (durable-event c 0 log e);
}

-- an event that writes nothing leaves the marks right, whatever it rests on
pub keeps-silent : (log : List Entry) (marks : List Marked) (e : Entry) → e.writes ≡ [] → Keeps log marks → Keeps (log ++ e ∷ []) marks
keeps-silent log marks e silent keeps = record {
  written = λ x.
      keeps.written x
      ∙ sym (or-false (is_written x log))
      ∙ ap (λ (ws : List Carrier). is_written x log || (is_among x ws || false)) (sym silent)
      ∙ sym (list_any-append (λ (d : Entry). is_among x d.writes) log (e ∷ []));
  marked = λ x. record {
    says = λ c.
        (keeps.marked x).says c
        ∙ sym (and-true (is_durable c log (reader (x ∷ []))))
        ∙ ap (λ (ws : List Carrier). is_durable c log (reader (x ∷ [])) && (not (meets ws (x ∷ [])) || is_durable c log e)) (sym silent)
        ∙ sym (durable-reader c log e (x ∷ []));
  };
}

-- ---- the carriers that no event wrote
-- one, or none
abbrev pub ones : Bool → ℕ
ones b = if b then 1 else 0

-- one that has no mark is one that no event wrote
pub absent-unwritten : (x : Carrier) (ks : List Marked) → mark_at x ks ≡ None → unwritten_count (x ∷ []) ks ≡ 1
absent-unwritten x ks h =
    let one : ones (not (is_some (mark_at x ks))) ≡ ones true = ap (λ (o : Option ℕ). ones (not (is_some o))) h in
    omega (arith, one)

-- one carrier is at most one
one-unwritten : (x : Carrier) (ks : List Marked) → unwritten_count (x ∷ []) ks ≤ 1
one-unwritten x ks = count_by-le-length (λ (y : Carrier). not (is_some (mark_at y ks))) (x ∷ [])

-- those from a place on are the one there and the later ones
unwritten-more : (xs : List Carrier) (i : ℕ) (d : Carrier) (ks : List Marked) → i < length xs
    → unwritten_count (drop i xs) ks ≡ unwritten_count (get_or xs i d ∷ []) ks + unwritten_count (drop (i + 1) xs) ks
unwritten-more xs i d ks h =
    let split : unwritten_count (drop i xs) ks ≡ ones (not (is_some (mark_at (get_or xs i d) ks))) + unwritten_count (drop (i + 1) xs) ks =
    sum_by-drop_more (λ (y : Carrier). ones (not (is_some (mark_at y ks)))) xs i d h in
    omega (arith, split)

fewer : (b : Bool) (o : Option ℕ) (m : ℕ) → ones (not (is_some (joined_at b o m))) ≤ ones (not (is_some o))
fewer true o m = omega arith
fewer false o m = omega arith

-- no event takes a mark away
unwritten-fewer : (xs : List Carrier) (x : Carrier) (m : ℕ) (ks marks : List Marked) → marks ≡ noted_all xs m ks
    → unwritten_count (x ∷ []) marks ≤ unwritten_count (x ∷ []) ks
unwritten-fewer xs x m ks marks e =
    let joined : ones (not (is_some (mark_at x marks))) ≡ ones (not (is_some (joined_at (is_among x xs) (mark_at x ks) m))) =
    ap (λ (js : List Marked). ones (not (is_some (mark_at x js)))) e
    ∙ ap (λ (o : Option ℕ). ones (not (is_some o))) (mark_at-noted_all xs x m ks) in
    let less = fewer (is_among x xs) (mark_at x ks) m in
    omega (arith, joined, less)

-- where each was written there is none
pub all-written : (xs : List Carrier) (ks : List Marked) → AllByRecursion (λ (x : Carrier). is_some (mark_at x ks) ≡ true) xs → unwritten_count xs ks ≡ 0
all-written [] ks h = refl
all-written (x ∷ xs) ks h =
    let none : ones (not (is_some (mark_at x ks))) ≡ ones false = ap (λ (b : Bool). ones (not b)) h.0 in
    let split : unwritten_count (x ∷ xs) ks ≡ ones (not (is_some (mark_at x ks))) + unwritten_count xs ks =
    sum_by-cons (λ (y : Carrier). ones (not (is_some (mark_at y ks)))) x xs in
    let rest = all-written xs ks h.1 in
    omega (arith, none, split, rest)

-- the first i of these carriers are noted, and there is room for those of the others that no event wrote
pub record Noting (writes : List Carrier) (mark : ℕ) (old : Kept) (i : ℕ) (now : Kept) : Type 0 where
  pub noted : now.marks ≡ noted_all (take i writes) mark old.marks
  pub room : old.room ≤ now.room + i
  pub enough : unwritten_count (drop i writes) old.marks ≤ now.room

-- there is room for the next
pub noting-room : (writes : List Carrier) (mark : ℕ) (old : Kept) (i : ℕ) (now : Kept) (d : Carrier) → i < length writes → Noting writes mark old i now
    → unwritten_count (get_or writes i d ∷ []) now.marks ≤ now.room
noting-room writes mark old i now d h noting =
    let split = unwritten-more writes i d old.marks h in
    let less = unwritten-fewer (take i writes) (get_or writes i d) mark old.marks now.marks noting.noted in
    omega (arith, split, less, noting.enough)

-- and then the next is noted
pub noting-next : (writes : List Carrier) (mark : ℕ) (old : Kept) (i : ℕ) (now next : Kept) (d : Carrier) → i < length writes → Noting writes mark old i now
    → next.marks ≡ noted (get_or writes i d) mark now.marks → now.room ≤ next.room + unwritten_count (get_or writes i d ∷ []) now.marks
    → Noting writes mark old (i + 1) next
noting-next writes mark old i now next d h noting marks_are room_left =
    let split = unwritten-more writes i d old.marks h in
    let less = unwritten-fewer (take i writes) (get_or writes i d) mark old.marks now.marks noting.noted in
    let one = one-unwritten (get_or writes i d) now.marks in
    record {
      noted = marks_are ∙ noted_all-more writes i d mark old.marks now.marks h noting.noted;
      room = omega (arith, noting.room, one, room_left);
      enough = omega (arith, split, less, noting.enough, room_left);
    }

-- ---- the mark of one carrier
pub found-says : (log : List Entry) (marks : List Marked) (x : Carrier) → Keeps log marks → (found : Option ℕ) → found ≡ mark_at x marks
    → IfSome found (λ m. IsMarkOf m log (reader (x ∷ [])))
found-says log marks x keeps None e = tt
found-says log marks x keeps (Some m) e = record { says = λ c. ap (λ (o : Option ℕ). nat_le (unwrap_or o 0) c) e ∙ (keeps.marked x).says c }
