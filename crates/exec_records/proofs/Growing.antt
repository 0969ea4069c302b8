-- One more at a key of a map of counts.
use Rattle.std.proofs.Common.{◌≡◌, ℕ, ◌+◌, sum, sym, ap, ◌∙◌, arith}
use Rattle.std.specs.BTreeMap.{BTreeMap, IsOrdered, get, values, insert_entry, is_at}
use Rattle.std.specs.Cmp.{nat_cmp_total}
use Rattle.std.specs.Map.{values_of, lookup}
use Rattle.std.specs.Option.{unwrap_or, option_map}
use Rattle.std.specs.Ordering.{nat_cmp}
use Rattle.std.proofs.lemmas.Map.Entries.{sum_by-insert_entry}
use Rattle.std.proofs.lemmas.Iterator.Adapters.{option_map_id}

-- a key's value that is one more than it was, or 1 where it had none, makes the sum of all one more
pub sum-one_more : (old new : BTreeMap ℕ ℕ) (k before count : ℕ) → IsOrdered nat_cmp old → before ≡ unwrap_or (get nat_cmp old k) 0 → count ≡ before + 1 → new.entries ≡ insert_entry nat_cmp old.entries k count → sum (values new) ≡ sum (values old) + 1
sum-one_more old new k before count ordered was more entries =
    let grown : sum (values_of (insert_entry nat_cmp old.entries k count)) + unwrap_or (option_map (λ (x : ℕ). x) (lookup (is_at (nat_cmp k)) old.entries)) 0 ≡ sum (values old) + count = sum_by-insert_entry (λ (x : ℕ). x) nat_cmp_total old.entries k count ordered in
    let same : unwrap_or (option_map (λ (x : ℕ). x) (lookup (is_at (nat_cmp k)) old.entries)) 0 ≡ before = ap (λ o. unwrap_or o 0) (option_map_id (lookup (is_at (nat_cmp k)) old.entries)) ∙ sym was in
    let put : sum (values new) ≡ sum (values_of (insert_entry nat_cmp old.entries k count)) = ap (λ es. sum (values_of es)) entries in
    omega (arith, grown, same, put, more)
