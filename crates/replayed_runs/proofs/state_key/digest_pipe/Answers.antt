-- How many descriptors stand for its ends, how many bytes it holds, and what was written to it.
use Rattle.std.proofs.Common.{length, Option, ap}
use Rattle.pipes.specs.Seen.{Seen}
use Rattle.state_search.specs.Digests.{number_bytes, text_bytes}
use Rattle.replayed_runs.specs.StateKeys.{pipe_bytes, written_in}
use Rattle.replayed_runs.proofs.Feeding.{fed_as, fed_both}
use Rattle.replayed_runs.proofs.state_key.digest_pipe.Goals as goal

pub returns-in-Some : goal.returns-in-Some
returns-in-Some c =
    let p = c.in-Some.pipe.now in
    let d0 = c.args.digest.now in
    let d1 = c.number.new.self in
    let d2 = c.number-in-Some.new.self in
    let d3 = c.number-in-Some-2.new.self in
    let d4 = c.bytes.new.self in
    let written = written_in c.args.texts.now.texts.items c.args.number in
    let all = fed_both d0 d1 d4 (number_bytes p.readers) _ (fed_as d0 d1 _ _ (ap number_bytes c.readers.ensures) c.number.ensures)
    (fed_both d1 d2 d4 (number_bytes p.writers) _ (fed_as d1 d2 _ _ (ap number_bytes c.writers.ensures) c.number-in-Some.ensures)
    (fed_both d2 d3 d4 (number_bytes (length p.held)) (text_bytes written) (fed_as d2 d3 _ _ (ap number_bytes c.held.ensures.held) c.number-in-Some-2.ensures)
    (fed_as d3 d4 _ _ (ap text_bytes c.written.ensures) c.bytes.ensures))) in
    fed_as d0 d4 _ _ (ap (λ (o : Option Seen). pipe_bytes o written) c.in-Some.ensures) all
