-- Events are noted.
use Rattle.std.proofs.Common.{◌≤◌, List, length, is_none}
use Rattle.std.proofs.lemmas.List.Sums.{count_by-le-length}
use Rattle.commit_deps.specs.Keeps.{mark_at, unwritten_count}
use Rattle.commit_deps.specs.Kept.{Marked}
use Rattle.kernel_model.specs.declared.carrier.Carrier.{Carrier}

-- no more of these carriers were never written than there are
pub few-unwritten : (xs : List Carrier) (marks : List Marked) → unwritten_count xs marks ≤ length xs
few-unwritten xs marks = count_by-le-length (λ (x : Carrier). is_none (mark_at x marks)) xs
