-- Reading records one after the other, as a loop does.
use Rattle.std.proofs.Common.{◌≡◌, ℕ, zero, suc, ◌-◌, ◌+◌, ◌<◌, List, Result, Ok, Err, Option, Some, None, sym, ap, ◌∙◌, arith}
use Rattle.disk_model.specs.declared.change.NamedFile.{NamedFile}
use Rattle.journal.specs.declared.fault.DiskFault.{DiskFault}
use Rattle.journal.specs.declared.fault.DiskFault.TheVariants.{BadRecord, BadChange, PastHalf, OutOfMemory}
use Rattle.journal.specs.Reading.{◌>>=◌, Fails, record_at, records_at, opened, on_some}

abbrev Answer : Type 0
Answer = Result (List NamedFile × List ℕ) DiskFault

next : (count i : ℕ) (files : List NamedFile) (rest bytes : List ℕ) → i < count → opened rest ≡ Some bytes
    → records_at (count - i) files rest ≡ (record_at files bytes >>= λ x. records_at (count - (i + 1)) x.0 x.1)
unfolding records_at
next count i files rest bytes lt open_gate =
    let k : count - i ≡ suc (count - (i + 1)) = omega arith in
    ap (λ (n : ℕ). records_at n files rest) k
    ∙ ap (λ (o : Option (List ℕ)). on_some o (λ b. record_at files b >>= λ x. records_at (count - (i + 1)) x.0 x.1) (Ok (files, rest))) open_gate

pub goes_on : (count i : ℕ) (files later : List NamedFile) (rest bytes after : List ℕ) (total : Answer) → i < count → opened rest ≡ Some bytes → record_at files bytes ≡ Ok (later, after)
    → records_at (count - i) files rest ≡ total → records_at (count - (i + 1)) later after ≡ total
goes_on count i files later rest bytes after total lt open_gate h so_far =
    ap (λ (r : Answer). r >>= λ x. records_at (count - (i + 1)) x.0 x.1) (sym h) ∙ sym (next count i files rest bytes lt open_gate) ∙ so_far

fault_ends : (f : DiskFault) (count i : ℕ) (files : List NamedFile) (rest bytes : List ℕ) (total : Answer) → i < count → opened rest ≡ Some bytes → record_at files bytes ≡ Err f
    → records_at (count - i) files rest ≡ total → total ≡ Err f
fault_ends f count i files rest bytes total lt open_gate h so_far =
    sym so_far ∙ next count i files rest bytes lt open_gate ∙ ap (λ (r : Answer). r >>= λ x. records_at (count - (i + 1)) x.0 x.1) h

pub ends : (e : DiskFault) (count i : ℕ) (files : List NamedFile) (rest bytes : List ℕ) (total : Answer) → i < count → opened rest ≡ Some bytes → Fails e (record_at files bytes)
    → records_at (count - i) files rest ≡ total → Fails e total
ends BadRecord count i files rest bytes total lt open_gate h so_far = fault_ends BadRecord count i files rest bytes total lt open_gate h so_far
ends BadChange count i files rest bytes total lt open_gate h so_far = fault_ends BadChange count i files rest bytes total lt open_gate h so_far
ends PastHalf count i files rest bytes total lt open_gate h so_far = fault_ends PastHalf count i files rest bytes total lt open_gate h so_far
ends OutOfMemory count i files rest bytes total lt open_gate h so_far = tt

-- after a gate that is not open nothing is read
pub still_shut : (half rest bytes : List ℕ) → (opened half ≡ None → rest ≡ half) → opened rest ≡ Some bytes → opened half ≡ None → ⊥
still_shut half rest bytes so_far some none = let e : None ≡ Some bytes = sym none ∙ ap opened (sym (so_far none)) ∙ some in cc

pub is_shut : (n : ℕ) (files : List NamedFile) (rest : List ℕ) (total : Answer) → opened rest ≡ None → records_at n files rest ≡ total → total ≡ Ok (files, rest)
unfolding records_at
is_shut zero files rest total shut so_far = sym so_far
is_shut (suc n) files rest total shut so_far =
    sym so_far ∙ ap (λ (o : Option (List ℕ)). on_some o (λ b. record_at files b >>= λ x. records_at n x.0 x.1) (Ok (files, rest))) shut

pub is_past : (n : ℕ) (files : List NamedFile) (rest : List ℕ) (total : Answer) → n ≡ 0 → records_at n files rest ≡ total → total ≡ Ok (files, rest)
unfolding records_at
is_past n files rest total none so_far = sym so_far ∙ ap (λ (k : ℕ). records_at k files rest) none
