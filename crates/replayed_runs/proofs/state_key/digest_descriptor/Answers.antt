-- A file has its offset, and whether it is written, beside its number.
use Rattle.std.proofs.Common.{◌∷◌, ap}
use Rattle.state_search.specs.Digests.{number_bytes}
use Rattle.replayed_runs.proofs.Feeding.{fed_as, fed_both}
use Rattle.replayed_runs.proofs.state_key.digest_descriptor.Goals as goal

pub returns-in-File : goal.returns-in-File
returns-in-File c =
    let all = fed_both c.args.digest.now c.numbered-in-File.new.self c.flag.new.self (3 ∷ number_bytes c.in-File.file) _ c.numbered-in-File.ensures
    (fed_both c.numbered-in-File.new.self c.number.new.self c.flag.new.self (number_bytes c.in-File.offset) _
    (fed_as c.numbered-in-File.new.self c.number.new.self _ _ (ap number_bytes c.from-in-File.ensures) c.number.ensures) c.flag.ensures) in
    rw c.in-File.is all
