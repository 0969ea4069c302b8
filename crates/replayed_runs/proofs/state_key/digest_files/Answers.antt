-- How many were made, how many live, and each of these.
use Rattle.std.proofs.Common.{length, ap}
use Rattle.state_search.specs.Digests.{number_bytes}
use Rattle.replayed_runs.specs.StateKeys.{file_bytes, upto_bytes}
use Rattle.replayed_runs.proofs.Feeding.{fed_as, fed_both}
use Rattle.replayed_runs.proofs.state_key.digest_files.Goals as goal

pub returns : goal.returns
returns c =
    let files = c.args.files.now in
    let d0 = c.args.digest.now in
    let d1 = c.number.new.self in
    let d2 = c.number-2.new.self in
    let d3 = c.digest_each_file.new.digest in
    fed_both d0 d1 d3 (number_bytes files.made) _ (fed_as d0 d1 _ _ (ap number_bytes c.made.ensures) c.number.ensures)
    (fed_both d1 d2 d3 (number_bytes (length files.living)) (upto_bytes (file_bytes files) (length files.living)) (fed_as d1 d2 _ _ (ap number_bytes c.count.ensures) c.number-2.ensures)
    c.digest_each_file.ensures)
