-- None of the runs so far begins past word n and before the one that is lowest so far.
use Rattle.std.proofs.Common.{◌≡◌, ℕ, ◌<◌, ◌≤◌, true, slice_index_or}
use Rattle.memory.specs.Pages.{Pages, has_word}
use Rattle.memory.proofs.place.next_start_of.Given as goal

abbrev pub invariant-loop-part : goal.invariant-loop-part
invariant-loop-part l =
    record {
      past : l.n < l.next;
      within : l.next ≤ l.end;
      none : (i : ℕ) (d : Pages) → i < l.part-index → (m : ℕ) → l.n ≤ m → m < l.next → has_word (slice_index_or l.parts i d) m ≡ true → has_word (slice_index_or l.parts i d) l.n ≡ true;
    }
