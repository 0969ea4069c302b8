-- What stands on a disk stands on each disk that is the same there.
use Rattle.std.proofs.Common.{◌≡◌, ℕ, ◌+◌, ◌<◌, ◌≤◌, Bool, true, false, List, [], ◌∷◌, ◌++◌, length, get_or, refl, sym, ap, subst, ◌∙◌, arith, length-append, append_assoc}
use Rattle.std.proofs.lemmas.List.{get_or_append_left, get_or-append-add, append-nil}
use Rattle.std.specs.Int.{w32, to_le_bytes}
use Rattle.disk_model.specs.declared.change.Change.{Change}
use Rattle.disk_model.specs.declared.change.NamedFile.{NamedFile}
use Rattle.disk_model.specs.Files.{Follow, IsFormed, IsMade, MayCome, files_after, changed}
use Rattle.disk_model.specs.Spelling.{body_of, sized_body, record_of, gate_after}
use Rattle.disk_model.specs.Held.{HasBytes, start_of, end_of, IsRecord, Records, joined, Reads}

-- ---- files

pub files_after-append : (files : List NamedFile) (xs ys : List Change) → files_after files (xs ++ ys) ≡ files_after (files_after files xs) ys
files_after-append files [] ys = refl
files_after-append files (x ∷ xs) ys = files_after-append (changed files x) xs ys

pub follow_both : (files : List NamedFile) (xs ys : List Change) → Follow files xs → Follow (files_after files xs) ys → Follow files (xs ++ ys)
follow_both files [] ys f g = g
follow_both files (x ∷ xs) ys f g = (f.0, f.1, follow_both (changed files x) xs ys f.2 g)

pub follow_split : (files : List NamedFile) (xs ys : List Change) → Follow files (xs ++ ys) → Follow files xs × Follow (files_after files xs) ys
follow_split files [] ys f = (tt, f)
follow_split files (x ∷ xs) ys f = let r = follow_split (changed files x) xs ys f.2 in ((f.0, f.1, r.0), r.1)

pub made_after : (files : List NamedFile) (cs : List Change) → IsMade files → Follow files cs → IsMade (files_after files cs)
made_after files cs made follow = (
  made.0 ++ cs,
  follow_both [] made.0 cs made.1 (subst (λ (fs : List NamedFile). Follow fs cs) made.2 follow),
  ap (λ (fs : List NamedFile). files_after fs cs) made.2 ∙ sym (files_after-append [] made.0 cs),
)

pub made_more : (files : List NamedFile) (c : Change) → IsMade files → IsFormed c → MayCome files c → IsMade (changed files c)
made_more files c made formed possible = made_after files (c ∷ []) made (formed, possible, tt)

-- ---- records

pub sized_length : (cs : List Change) → length (sized_body cs) ≡ 4 + length (body_of cs)
sized_length cs = omega (arith, length-append (to_le_bytes w32 (length (body_of cs))) (body_of cs))

pub record_length : (cs : List Change) → length (record_of cs) ≡ 5 + length (body_of cs)
record_length cs = omega (arith, sized_length cs, length-append (sized_body cs) (0 ∷ []))

pub records_le : (d : List ℕ) (last gate : ℕ) (css : List (List Change)) (upto : ℕ) → Records d last gate css upto → gate ≤ upto
records_le d last gate [] upto r = omega arith
records_le d last gate (cs ∷ css) upto r = omega (arith, records_le d last (gate_after gate cs) css upto r.1)

pub records_last : (d : List ℕ) (last gate : ℕ) (css : List (List Change)) (upto : ℕ) → gate < last → Records d last gate css upto → upto < last
records_last d last gate [] upto lt r = omega arith
records_last d last gate (cs ∷ css) upto lt r = records_last d last (gate_after gate cs) css upto r.0.within r.1

pub records_frame : (d e : List ℕ) (last gate : ℕ) (css : List (List Change)) (upto : ℕ)
    → ((i : ℕ) → gate ≤ i → i < upto → get_or e i 0 ≡ get_or d i 0) → Records d last gate css upto → Records e last gate css upto
records_frame d e last gate [] upto same r = r
records_frame d e last gate (cs ∷ css) upto same r =
    let le = records_le d last (gate_after gate cs) css upto r.1 in (
      record {
        opened = same gate (omega arith) (omega arith) ∙ r.0.opened;
        within = r.0.within;
        stands = λ i lt. same (gate + 1 + i) (omega arith) (omega (arith, sized_length cs)) ∙ r.0.stands i lt;
      },
      records_frame d e last (gate_after gate cs) css upto (λ i ge lt. same i (omega arith) lt) r.1,
    )

pub records_more : (d : List ℕ) (last gate : ℕ) (css : List (List Change)) (upto : ℕ) (cs : List Change) → Records d last gate css upto → IsRecord d last upto cs → Records d last gate (css ++ cs ∷ []) (gate_after upto cs)
records_more d last gate [] upto cs r one = (subst (λ (k : ℕ). IsRecord d last k cs) r one, ap (λ (k : ℕ). gate_after k cs) r)
records_more d last gate (ds ∷ css) upto cs r one = (r.0, records_more d last (gate_after gate ds) css upto cs r.1 one)

joined_more : (css : List (List Change)) (cs : List Change) → joined (css ++ cs ∷ []) ≡ joined css ++ cs
joined_more [] cs = append-nil cs
joined_more (ds ∷ css) cs = ap (λ (l : List Change). ds ++ l) (joined_more css cs) ∙ sym (append_assoc ds (joined css) cs)

start_end : (half : Bool) → start_of half < end_of half
start_end false = omega arith
start_end true = omega arith

pub reads_bounds : (d : List ℕ) (half : Bool) (gate : ℕ) (files : List NamedFile) → Reads d half gate files → (start_of half ≤ gate) × (gate < end_of half)
reads_bounds d half gate files r = (records_le d (end_of half) (start_of half) r.groups gate r.records, records_last d (end_of half) (start_of half) r.groups gate (start_end half) r.records)

pub reads_frame : (d e : List ℕ) (half : Bool) (gate : ℕ) (files : List NamedFile)
    → ((i : ℕ) → start_of half ≤ i → i < gate → get_or e i 0 ≡ get_or d i 0) → Reads d half gate files → Reads e half gate files
reads_frame d e half gate files same r = record {
  groups = r.groups;
  records = records_frame d e (end_of half) (start_of half) r.groups gate same r.records;
  possible = r.possible;
  makes = r.makes;
}

pub reads_none : (d : List ℕ) (half : Bool) → Reads d half (start_of half) []
reads_none d half = record { groups = []; records = refl; possible = tt; makes = refl }

-- one more record, after a gate that is open
pub reads_more : (e : List ℕ) (half : Bool) (gate : ℕ) (files : List NamedFile) (cs : List Change)
    → Reads e half gate files → Follow files cs → get_or e gate 0 ≡ 1 → gate_after gate cs < end_of half → HasBytes e (gate + 1) (record_of cs)
    → Reads e half (gate_after gate cs) (files_after files cs)
reads_more e half gate files cs r follow opened within stands = record {
  groups = r.groups ++ cs ∷ [];
  records = records_more e (end_of half) (start_of half) r.groups gate cs r.records (record {
    opened = opened;
    within = within;
    stands = λ i lt. stands i (omega (arith, length-append (sized_body cs) (0 ∷ []))) ∙ get_or_append_left (sized_body cs) (0 ∷ []) 0 i lt;
  });
  possible = subst (λ (l : List Change). Follow [] l) (sym (joined_more r.groups cs)) (follow_both [] (joined r.groups) cs r.possible (subst (λ (fs : List NamedFile). Follow fs cs) r.makes follow));
  makes = ap (λ (fs : List NamedFile). files_after fs cs) r.makes ∙ sym (files_after-append [] (joined r.groups) cs) ∙ ap (files_after []) (sym (joined_more r.groups cs));
}

-- and the gate after it is closed
pub closed_after : (e : List ℕ) (gate : ℕ) (cs : List Change) → HasBytes e (gate + 1) (record_of cs) → get_or e (gate_after gate cs) 0 ≡ 0
closed_after e gate cs stands =
    let l = sized_length cs in
    ap (λ (k : ℕ). get_or e k 0) (let same : gate_after gate cs ≡ gate + 1 + length (sized_body cs) = omega arith in same)
    ∙ stands (length (sized_body cs)) (omega (arith, length-append (sized_body cs) (0 ∷ [])))
    ∙ ap (λ (k : ℕ). get_or (record_of cs) k 0) (let same : length (sized_body cs) ≡ length (sized_body cs) + 0 = omega arith in same)
    ∙ get_or-append-add (sized_body cs) (0 ∷ []) 0 0
