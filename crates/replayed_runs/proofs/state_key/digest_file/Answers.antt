-- Its number, its name and its bytes.
use Rattle.std.proofs.Common.{slice_index, slice_index_or, ap}
use Rattle.state_search.specs.Digests.{number_bytes, text_bytes}
use Rattle.replayed_runs.specs.StateKeys.{no_file}
use Rattle.replayed_runs.proofs.Feeding.{fed_as, fed_both}
use Rattle.replayed_runs.proofs.state_key.digest_file.Goals as goal

pub returns : goal.returns
returns c =
    let files = c.args.files.now in
    let file = slice_index_or files.living c.args.place no_file in
    fed_both c.args.digest.now c.number-2.new.self c.bytes-3.new.self (number_bytes (slice_index files.numbers c.args.place)) _
    (fed_as c.args.digest.now c.number-2.new.self _ _ (ap number_bytes c.number.ensures) c.number-2.ensures)
    (fed_both c.number-2.new.self c.bytes.new.self c.bytes-3.new.self (text_bytes file.name) (text_bytes file.bytes)
    (fed_as c.number-2.new.self c.bytes.new.self _ _ (ap text_bytes (c.name.ensures no_file)) c.bytes.ensures)
    (fed_as c.bytes.new.self c.bytes-3.new.self _ _ (ap text_bytes (c.bytes-2.ensures no_file)) c.bytes-3.ensures))
