-- What a reader rests on: carrier by carrier, and event by event.
use Rattle.std.proofs.Common.{◌≡◌, ℕ, ◌+◌, Bool, true, false, if◌then◌else◌, List, [], ◌∷◌, ◌++◌, is_some, not, nat_lt, ◌||◌, ◌&&◌, refl, sym, ap, ◌∙◌, add_assoc, add-zero}
use Rattle.std.proofs.Math.Bool.{and-true, and_assoc, or-true, or-false}
use Rattle.kernel_model.specs.declared.carrier.Carrier.{Carrier}
use Rattle.kernel_model.specs.Entries.{Entry, meets}
use Rattle.kernel_model.specs.Paths.{change_count, wanted, is_durable_from, is_durable}
use Rattle.kernel_model.proofs.Meets.{meets-append, meets-none}
use Rattle.kernel_model.proofs.Paths.{count_of}
use Rattle.commit_deps.specs.Marks.{reader}

-- a list of what is wanted, with more where b holds
meets-if : (ws xs rs : List Carrier) (b : Bool) → meets ws (if b then xs ++ rs else xs) ≡ (meets ws xs || (b && meets ws rs))
meets-if ws xs rs true = meets-append ws xs rs
meets-if ws xs rs false = sym (or-false (meets ws xs))

or_shuffle : (a b x y r : Bool) → ((a || b) || ((x || y) && r)) ≡ ((a || (x && r)) || (b || (y && r)))
or_shuffle true b x y r = refl
or_shuffle false true x y true = sym (or-true (x && true))
or_shuffle false true x y false = sym (or-true (x && false))
or_shuffle false false true true true = refl
or_shuffle false false true false true = refl
or_shuffle false false false y r = refl
or_shuffle false false true true false = refl
or_shuffle false false true false false = refl

-- a reader of two lists wants what a reader of each wants
meets-wanted : (past : List Entry) (ws rs ss : List Carrier) → meets ws (wanted past (rs ++ ss)) ≡ (meets ws (wanted past rs) || meets ws (wanted past ss))
meets-wanted [] ws rs ss = meets-append ws rs ss
meets-wanted (x ∷ xs) ws rs ss =
    meets-if ws (wanted xs (rs ++ ss)) x.reads (meets x.writes (wanted xs (rs ++ ss)))
    ∙ ap (λ (b : Bool). b || (meets x.writes (wanted xs (rs ++ ss)) && meets ws x.reads)) (meets-wanted xs ws rs ss)
    ∙ ap (λ (b : Bool). (meets ws (wanted xs rs) || meets ws (wanted xs ss)) || (b && meets ws x.reads)) (meets-wanted xs x.writes rs ss)
    ∙ or_shuffle (meets ws (wanted xs rs)) (meets ws (wanted xs ss)) (meets x.writes (wanted xs rs)) (meets x.writes (wanted xs ss)) (meets ws x.reads)
    ∙ ap (λ (b : Bool). b || (meets ws (wanted xs ss) || (meets x.writes (wanted xs ss) && meets ws x.reads))) (sym (meets-if ws (wanted xs rs) x.reads (meets x.writes (wanted xs rs))))
    ∙ ap (λ (b : Bool). meets ws (if meets x.writes (wanted xs rs) then wanted xs rs ++ x.reads else wanted xs rs) || b) (sym (meets-if ws (wanted xs ss) x.reads (meets x.writes (wanted xs ss))))

and_shuffle : (p u v l m : Bool) → ((p || not (l || m)) && (u && v)) ≡ (((p || not l) && u) && ((p || not m) && v))
and_shuffle true true v l m = refl
and_shuffle true false v l m = refl
and_shuffle false u v true m = refl
and_shuffle false true v false true = refl
and_shuffle false true v false false = refl
and_shuffle false false v false true = refl
and_shuffle false false v false false = refl

-- and rests on what a reader of each rests on
pub durable-union : (c n : ℕ) (past : List Entry) (rs ss : List Carrier)
    → is_durable_from c n past (reader (rs ++ ss)) ≡ (is_durable_from c n past (reader rs) && is_durable_from c n past (reader ss))
durable-union c n [] rs ss = refl
durable-union c n (x ∷ xs) rs ss =
    ap (λ (b : Bool). (not (is_some x.change) || nat_lt n c || not b) && is_durable_from c (n + change_count x) xs (reader (rs ++ ss))) (meets-wanted xs x.writes rs ss)
    ∙ ap (λ (b : Bool). (not (is_some x.change) || nat_lt n c || not (meets x.writes (wanted xs rs) || meets x.writes (wanted xs ss))) && b) (durable-union c (n + change_count x) xs rs ss)
    ∙ and_shuffle (not (is_some x.change) || nat_lt n c) (is_durable_from c (n + change_count x) xs (reader rs)) (is_durable_from c (n + change_count x) xs (reader ss)) (meets x.writes (wanted xs rs)) (meets x.writes (wanted xs ss))

-- what is wanted before two lists of entries
wanted-append : (xs ys : List Entry) (rs : List Carrier) → wanted (xs ++ ys) rs ≡ wanted xs (wanted ys rs)
wanted-append [] ys rs = refl
wanted-append (x ∷ xs) ys rs = ap (λ (later : List Carrier). if meets x.writes later then later ++ x.reads else later) (wanted-append xs ys rs)

-- an event rests on what a reader of its carriers rests on, and on its own change

pub durable-event : (c n : ℕ) (past : List Entry) (e : Entry)
    → is_durable_from c n past e ≡ (is_durable_from c n past (reader e.reads) && (not (is_some e.change) || nat_lt (n + count_of past) c))
durable-event c n [] e = ap (λ (k : ℕ). not (is_some e.change) || nat_lt k c) (sym (add-zero n))
durable-event c n (x ∷ xs) e =
    ap (λ (b : Bool). (not (is_some x.change) || nat_lt n c || not (meets x.writes (wanted xs e.reads))) && b)
    (durable-event c (n + change_count x) xs e ∙ ap (λ (k : ℕ). is_durable_from c (n + change_count x) xs (reader e.reads) && (not (is_some e.change) || nat_lt k c)) (add_assoc n (change_count x) (count_of xs)))
    ∙ sym (and_assoc (not (is_some x.change) || nat_lt n c || not (meets x.writes (wanted xs e.reads))) (is_durable_from c (n + change_count x) xs (reader e.reads)) (not (is_some e.change) || nat_lt (n + (change_count x + count_of xs)) c))

-- a reader after one more entry d rests on what a reader of what is wanted before d rests on, and on the change of d where it
-- reads of it
durable-before : (c n : ℕ) (past : List Entry) (d : Entry) (rs : List Carrier)
    → is_durable_from c n (past ++ d ∷ []) (reader rs)
    ≡ (is_durable_from c n past (reader (wanted (d ∷ []) rs)) && (not (is_some d.change) || nat_lt (n + count_of past) c || not (meets d.writes rs)))
durable-before c n [] d rs = and-true (not (is_some d.change) || nat_lt n c || not (meets d.writes rs)) ∙ ap (λ (k : ℕ). not (is_some d.change) || nat_lt k c || not (meets d.writes rs)) (sym (add-zero n))
durable-before c n (x ∷ xs) d rs =
    ap (λ (later : List Carrier). (not (is_some x.change) || nat_lt n c || not (meets x.writes later)) && is_durable_from c (n + change_count x) (xs ++ d ∷ []) (reader rs)) (wanted-append xs (d ∷ []) rs)
    ∙ ap (λ (b : Bool). (not (is_some x.change) || nat_lt n c || not (meets x.writes (wanted xs (wanted (d ∷ []) rs)))) && b)
    (durable-before c (n + change_count x) xs d rs ∙ ap (λ (k : ℕ). is_durable_from c (n + change_count x) xs (reader (wanted (d ∷ []) rs)) && (not (is_some d.change) || nat_lt k c || not (meets d.writes rs))) (add_assoc n (change_count x) (count_of xs)))
    ∙ sym (and_assoc (not (is_some x.change) || nat_lt n c || not (meets x.writes (wanted xs (wanted (d ∷ []) rs)))) (is_durable_from c (n + change_count x) xs (reader (wanted (d ∷ []) rs))) (not (is_some d.change) || nat_lt (n + (change_count x + count_of xs)) c || not (meets d.writes rs)))

-- the same, where it is known whether d wrote one of rs
durable_at : (c : ℕ) (log : List Entry) (d : Entry) (rs : List Carrier) (b : Bool)
    → (is_durable_from c 0 log (reader (if b then rs ++ d.reads else rs)) && (not (is_some d.change) || nat_lt (0 + count_of log) c || not b))
    ≡ (is_durable c log (reader rs) && (not b || is_durable c log d))
durable_at c log d rs true =
    ap (λ (b : Bool). b && (not (is_some d.change) || nat_lt (0 + count_of log) c || false)) (durable-union c 0 log rs d.reads)
    ∙ ap (λ (b : Bool). (is_durable c log (reader rs) && is_durable c log (reader d.reads)) && b) (or-false (not (is_some d.change) || nat_lt (0 + count_of log) c))
    ∙ and_assoc (is_durable c log (reader rs)) (is_durable c log (reader d.reads)) (not (is_some d.change) || nat_lt (0 + count_of log) c)
    ∙ ap (λ (b : Bool). is_durable c log (reader rs) && b) (sym (durable-event c 0 log d))
durable_at c log d rs false = ap (λ (b : Bool). is_durable c log (reader rs) && b) (or-true (not (is_some d.change) || nat_lt (0 + count_of log) c))

-- After one more entry d a reader of rs rests on what it rested on before and, where d wrote one of rs, on what d rests on.
pub durable-reader : (c : ℕ) (log : List Entry) (d : Entry) (rs : List Carrier)
    → is_durable c (log ++ d ∷ []) (reader rs) ≡ (is_durable c log (reader rs) && (not (meets d.writes rs) || is_durable c log d))
durable-reader c log d rs = durable-before c 0 log d rs ∙ durable_at c log d rs (meets d.writes rs)

wanted-nothing : (past : List Entry) → wanted past [] ≡ []
wanted-nothing [] = refl
wanted-nothing (x ∷ xs) =
    ap (λ (later : List Carrier). if meets x.writes later then later ++ x.reads else later) (wanted-nothing xs)
    ∙ ap (λ (b : Bool). if b then [] ++ x.reads else []) (meets-none x.writes)

-- who reads nothing rests on nothing
pub durable-nothing : (c n : ℕ) (past : List Entry) → is_durable_from c n past (reader []) ≡ true
durable-nothing c n [] = refl
durable-nothing c n (x ∷ xs) =
    ap (λ (later : List Carrier). (not (is_some x.change) || nat_lt n c || not (meets x.writes later)) && is_durable_from c (n + change_count x) xs (reader [])) (wanted-nothing xs)
    ∙ ap (λ (b : Bool). (not (is_some x.change) || nat_lt n c || not b) && is_durable_from c (n + change_count x) xs (reader [])) (meets-none x.writes)
    ∙ ap (λ (b : Bool). b && is_durable_from c (n + change_count x) xs (reader [])) (or-true (not (is_some x.change) || nat_lt n c))
    ∙ durable-nothing c (n + change_count x) xs
