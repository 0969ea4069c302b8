-- A disk has one outcome: it holds files, or its first fault is one.
use Rattle.std.proofs.Common.{Bool, ◌≡◌, ℕ, ◌+◌, ◌-◌, ◌≤◌, List, [], ◌∷◌, length, get_or, take, drop, Ok, Err, refl, sym, ap, subst, ◌∙◌, arith, inl, inr, ◌⊎◌}
use Rattle.std.specs.Prelude.{slice_index}
use Rattle.std.specs.List.{AllByRecursion}
use Rattle.std.specs.Int.{w32, from_le_bytes, to_le_bytes}
use Rattle.std.proofs.lemmas.List.{length-append, length-take, length-drop, get_or-drop, get_or-take, get_or_append_left, get_or-append-add, ext_get_or}
use Rattle.std.proofs.lemmas.Nat.{from_le_bytes-to_le_bytes_4}
use Rattle.disk_model.specs.declared.change.Change.{Change}
use Rattle.disk_model.specs.declared.change.NamedFile.{NamedFile}
use Rattle.disk_model.specs.Files.{IsFormed, Follow, files_after}
use Rattle.disk_model.specs.Spelling.{body_of, gate_after}
use Rattle.disk_model.specs.Held.{HasBytes, IsRecord, Records, joined, Reads, IsHeld, selected_half, start_of, end_of}
use Rattle.journal.specs.declared.fault.DiskFault.{DiskFault}
use Rattle.journal.specs.declared.fault.DiskFault.TheVariants.{BadRecord, BadChange, PastHalf, OutOfMemory}
use Rattle.journal.specs.Faults.{size_after, FaultAfter, IsFault}
use Rattle.journal.specs.Reading.{changes_at, recovered}
use Rattle.journal.proofs.Again.{changes_again}
use Rattle.journal.proofs.Found.{IsBytes, ok_is}
use Rattle.disk_model.proofs.Once.{formed_all}
use Rattle.journal.proofs.Whole.{half_facts, follow_parts}
use Rattle.journal.proofs.FoundAll.{recovered_held}
use Rattle.journal.proofs.Faulty.{told_fault}

-- a record tells its length, and its body comes next
pub record HasSize (d : List ℕ) (gate : ℕ) (cs : List Change) : Type 0 where
  pub size : length (body_of cs) ≡ size_after d gate
  pub body : HasBytes d (gate + 5) (body_of cs)

has_size : (d : List ℕ) (last gate : ℕ) (cs : List Change) → length d ≡ 2097152 → last ≤ 2097152 → IsRecord d last gate cs → HasSize d gate cs
has_size d last gate cs len le r =
    let within = r.within in
    let prefix = to_le_bytes w32 (length (body_of cs)) in
    let sl = length-append prefix (body_of cs) in
    let four : length prefix ≡ 4 = refl in
    let l3 = length-take 4 (drop (gate + 1) d) in let l4 = length-drop (gate + 1) d in
    let same : take 4 (drop (gate + 1) d) ≡ prefix = ext_get_or 0 (take 4 (drop (gate + 1) d)) prefix (omega arith) (λ i lt.
    get_or-take 4 (drop (gate + 1) d) i 0 (omega arith) ∙ get_or-drop (gate + 1) d i 0 ∙ r.stands i (omega arith) ∙ get_or_append_left prefix (body_of cs) 0 i (omega arith)) in
    record {
      size = sym (ap (from_le_bytes w32) same ∙ from_le_bytes-to_le_bytes_4 (length (body_of cs)) (omega arith));
      body = λ i lt. ap (λ (k : ℕ). get_or d k 0) (let q : gate + 5 + i ≡ gate + 1 + (4 + i) = omega arith in q) ∙ r.stands (4 + i) (omega arith) ∙ get_or-append-add prefix (body_of cs) i 0;
    }

-- two bodies that stand at the same place and have the same length are of the same changes
same_changes : (d : List ℕ) (at : ℕ) (cs ds : List Change) → AllByRecursion IsFormed cs → AllByRecursion IsFormed ds → length (body_of cs) ≡ length (body_of ds)
    → HasBytes d at (body_of cs) → HasBytes d at (body_of ds) → cs ≡ ds
same_changes d at cs ds fc fd len sc sd =
    let same : body_of cs ≡ body_of ds = ext_get_or 0 (body_of cs) (body_of ds) len (λ i lt. sym (sc i lt) ∙ sd i (omega arith)) in
    ok_is cs ds (sym (changes_again cs (length (body_of cs)) fc (omega arith)) ∙ ap (λ (l : List ℕ). changes_at (length l) l) same ∙ changes_again ds (length (body_of ds)) fd (omega arith))

one_record : (d : List ℕ) (last gate : ℕ) (cs ds : List Change) → length d ≡ 2097152 → last ≤ 2097152 → AllByRecursion IsFormed cs → AllByRecursion IsFormed ds
    → IsRecord d last gate cs → IsRecord d last gate ds → cs ≡ ds
one_record d last gate cs ds len le fc fd rc rd =
    let tc = has_size d last gate cs len le rc in let td = has_size d last gate ds len le rd in
    same_changes d (gate + 5) cs ds fc fd (tc.size ∙ sym td.size) tc.body td.body

-- a good record has no fault
no_fault_after : (d : List ℕ) (last gate : ℕ) (files : List NamedFile) (cs : List Change) (f : DiskFault) → length d ≡ 2097152 → last ≤ 2097152 → IsRecord d last gate cs → Follow files cs
    → FaultAfter d last gate files f → ⊥
no_fault_after d last gate files cs BadRecord len le r follow h = let t = has_size d last gate cs len le r in h.1 cs (formed_all files cs follow) t.size t.body
no_fault_after d last gate files cs BadChange len le r follow h = h.3 (subst (λ (l : List Change). Follow files l) (one_record d last gate cs h.0 len le (formed_all files cs follow) h.2 r h.1) follow)
no_fault_after d last gate files cs PastHalf len le r follow h = let t = (has_size d last gate cs len le r).size in let w = r.within in omega arith
no_fault_after d last gate files cs OutOfMemory len le r follow h = h

-- one record has one fault
one_fault_after : (d : List ℕ) (last gate : ℕ) (files : List NamedFile) (f g : DiskFault) → length d ≡ 2097152 → last ≤ 2097152 → FaultAfter d last gate files f → FaultAfter d last gate files g → f ≡ g
one_fault_after d last gate files BadRecord BadRecord len le h k = refl
one_fault_after d last gate files BadRecord BadChange len le h k = let t = has_size d last gate k.0 len le k.1 in absurd (h.1 k.0 k.2 t.size t.body)
one_fault_after d last gate files BadRecord PastHalf len le h k = let w = h.0 in absurd (omega arith)
one_fault_after d last gate files BadRecord OutOfMemory len le h k = absurd k
one_fault_after d last gate files BadChange BadRecord len le h k = let t = has_size d last gate h.0 len le h.1 in absurd (k.1 h.0 h.2 t.size t.body)
one_fault_after d last gate files BadChange BadChange len le h k = refl
one_fault_after d last gate files BadChange PastHalf len le h k = let t = (has_size d last gate h.0 len le h.1).size in let w = h.1.within in absurd (omega arith)
one_fault_after d last gate files BadChange OutOfMemory len le h k = absurd k
one_fault_after d last gate files PastHalf BadRecord len le h k = let w = k.0 in absurd (omega arith)
one_fault_after d last gate files PastHalf BadChange len le h k = let t = (has_size d last gate k.0 len le k.1).size in let w = k.1.within in absurd (omega arith)
one_fault_after d last gate files PastHalf PastHalf len le h k = refl
one_fault_after d last gate files PastHalf OutOfMemory len le h k = absurd k
one_fault_after d last gate files OutOfMemory g len le h k = absurd h

-- records from this gate on, possible after these files
pub record Chain (d : List ℕ) (last at : ℕ) (files : List NamedFile) (upto : ℕ) (later : List NamedFile) (groups : List (List Change)) : Type 0 where
  pub records : Records d last at groups upto
  pub follow : Follow files (joined groups)
  pub makes : later ≡ files_after files (joined groups)

chain_rest : (d : List ℕ) (last at : ℕ) (files : List NamedFile) (upto : ℕ) (later : List NamedFile) (cs : List Change) (css : List (List Change)) → Chain d last at files upto later (cs ∷ css)
    → IsRecord d last at cs × Follow files cs × Chain d last (gate_after at cs) (files_after files cs) upto later css
chain_rest d last at files upto later cs css c =
    let p = follow_parts files cs (joined css) c.follow in
    (c.records.0, p.0, record { records = c.records.1; follow = p.1; makes = c.makes ∙ p.2 })

-- where two chains end, the one up to a gate that is not open is the longer
pub held_or_fault : (d : List ℕ) (last at : ℕ) (files : List NamedFile) (upto gate : ℕ) (later before : List NamedFile) (css dss : List (List Change)) (f : DiskFault) → length d ≡ 2097152 → last ≤ 2097152
    → Chain d last at files upto later css → (get_or d upto 0 ≡ 1 → ⊥) → Chain d last at files gate before dss → get_or d gate 0 ≡ 1 → FaultAfter d last gate before f → ⊥
held_or_fault d last at files upto gate later before [] [] f len le c shut e one h = shut (ap (λ (k : ℕ). get_or d k 0) (c.records ∙ sym e.records) ∙ one)
held_or_fault d last at files upto gate later before [] (ds ∷ dss) f len le c shut e one h = shut (ap (λ (k : ℕ). get_or d k 0) c.records ∙ e.records.0.opened)
held_or_fault d last at files upto gate later before (cs ∷ css) [] f len le c shut e one h =
    let p = chain_rest d last at files upto later cs css c in
    no_fault_after d last at files cs f len le p.0 p.1 (subst (λ (k : ℕ). FaultAfter d last k files f) e.records (subst (λ (fs : List NamedFile). FaultAfter d last gate fs f) e.makes h))
held_or_fault d last at files upto gate later before (cs ∷ css) (ds ∷ dss) f len le c shut e one h =
    let p = chain_rest d last at files upto later cs css c in
    let q = chain_rest d last at files gate before ds dss e in
    let same = one_record d last at ds cs len le (formed_all files ds q.1) (formed_all files cs p.1) q.0 p.0 in
    held_or_fault d last (gate_after at cs) (files_after files cs) upto gate later before css dss f len le p.2 shut
    (subst (λ (l : List Change). Chain d last (gate_after at l) (files_after files l) gate before dss) same q.2) one h

pub fault_or_fault : (d : List ℕ) (last at : ℕ) (files : List NamedFile) (gate other : ℕ) (before others : List NamedFile) (css dss : List (List Change)) (f g : DiskFault) → length d ≡ 2097152 → last ≤ 2097152
    → Chain d last at files gate before css → get_or d gate 0 ≡ 1 → FaultAfter d last gate before f → Chain d last at files other others dss → get_or d other 0 ≡ 1 → FaultAfter d last other others g → f ≡ g
fault_or_fault d last at files gate other before others [] [] f g len le c oc h e oe k =
    one_fault_after d last at files f g len le
    (subst (λ (n : ℕ). FaultAfter d last n files f) c.records (subst (λ (fs : List NamedFile). FaultAfter d last gate fs f) c.makes h))
    (subst (λ (n : ℕ). FaultAfter d last n files g) e.records (subst (λ (fs : List NamedFile). FaultAfter d last other fs g) e.makes k))
fault_or_fault d last at files gate other before others [] (ds ∷ dss) f g len le c oc h e oe k =
    let q = chain_rest d last at files other others ds dss e in
    absurd (no_fault_after d last at files ds f len le q.0 q.1 (subst (λ (n : ℕ). FaultAfter d last n files f) c.records (subst (λ (fs : List NamedFile). FaultAfter d last gate fs f) c.makes h)))
fault_or_fault d last at files gate other before others (cs ∷ css) [] f g len le c oc h e oe k =
    let p = chain_rest d last at files gate before cs css c in
    absurd (no_fault_after d last at files cs g len le p.0 p.1 (subst (λ (n : ℕ). FaultAfter d last n files g) e.records (subst (λ (fs : List NamedFile). FaultAfter d last other fs g) e.makes k)))
fault_or_fault d last at files gate other before others (cs ∷ css) (ds ∷ dss) f g len le c oc h e oe k =
    let p = chain_rest d last at files gate before cs css c in
    let q = chain_rest d last at files other others ds dss e in
    let same = one_record d last at ds cs len le (formed_all files ds q.1) (formed_all files cs p.1) q.0 p.0 in
    fault_or_fault d last (gate_after at cs) (files_after files cs) gate other before others css dss f g len le p.2 oc h
    (subst (λ (l : List Change). Chain d last (gate_after at l) (files_after files l) other others dss) same q.2) oe k

reads_chain : (d : List ℕ) (half : Bool) (upto : ℕ) (files : List NamedFile) (r : Reads d half upto files) → Chain d (end_of half) (start_of half) [] upto files r.groups
reads_chain d half upto files r = record { records = r.records; follow = r.possible; makes = r.makes }

pub held_is_sound : (d : List ℕ) (files : List NamedFile) (f : DiskFault) → IsHeld d files → IsFault d f → ⊥
held_is_sound d files f held fault =
    let half = selected_half (slice_index d 0) in let b = half_facts half in let h = held.1 in
    held_or_fault d (end_of half) (start_of half) [] held.0 fault.gate files fault.files h.reads.groups fault.before.groups f h.size b.0
    (reads_chain d half held.0 files h.reads) h.closed (reads_chain d half fault.gate fault.files fault.before) fault.opened fault.after

pub one_fault : (d : List ℕ) (f g : DiskFault) → IsFault d f → IsFault d g → f ≡ g
one_fault d f g h k =
    let half = selected_half (slice_index d 0) in let b = half_facts half in
    fault_or_fault d (end_of half) (start_of half) [] h.gate k.gate h.files k.files h.before.groups k.before.groups f g h.size b.0
    (reads_chain d half h.gate h.files h.before) h.opened h.after (reads_chain d half k.gate k.files k.before) k.opened k.after

pub some_outcome : (d : List ℕ) → IsBytes d → length d ≡ 2097152 → ((files : List NamedFile) × IsHeld d files) ⊎ ((f : DiskFault) × IsFault d f)
some_outcome d fits size = elim (recovered d) as (λ r. recovered d ≡ r → ((files : List NamedFile) × IsHeld d files) ⊎ ((f : DiskFault) × IsFault d f)) [
  | Ok x ↦ λ e. inl (x.0, (end_of (selected_half (slice_index d 0)) - length x.1, (recovered_held d x fits size e).held))
  | Err f ↦ λ e. inr (f, told_fault d f fits size e)
] refl
