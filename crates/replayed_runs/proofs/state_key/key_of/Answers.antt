-- One thing after another is digested.
use Rattle.std.proofs.Common.{◌++◌, List, [], map, ap}
use Rattle.kernel_model.specs.Answers.{now}
use Rattle.kernel_model.specs.State.{TapeState}
use Rattle.pipes.specs.Seen.{Seen, seen_of}
use Rattle.processes.specs.Parts.{Part, part_of}
use Rattle.replayed_runs.specs.StateKeys.{files_bytes, pipes_bytes, processes_bytes, state_bytes, tapes_bytes, terminals_bytes}
use Rattle.replayed_runs.proofs.Feeding.{fed_as, fed_both}
use Rattle.replayed_runs.proofs.state_key.key_of.Goals as goal

pub returns : goal.returns
returns c =
    let r = c.args.replay.now in
    let s = (now r.core).sync in
    let sight = c.tables-tables.ensures in
    let sums = r.replies.sums.items in
    let texts = r.pipes.texts.items in
    let d0 = c.new-digest.result in
    let d1 = c.digest_processes.new.digest in
    let d2 = c.digest_files.new.digest in
    let d3 = c.digest_pipes.new.digest in
    let d4 = c.digest_tapes.new.digest in
    let d5 = c.digest_terminals.new.digest in
    let d6 = c.digest_window.new.digest in
    let w = c.digest_window.ensures in
    let state = fed_both d0 d1 d5 (processes_bytes s.processes sums (map part_of s.processes)) _ (fed_as d0 d1 _ _ (ap (λ (ps : List Part). processes_bytes s.processes sums ps) sight.parts) c.digest_processes.ensures)
    (fed_both d1 d2 d5 (files_bytes s.files) _ (fed_as d1 d2 _ _ (ap files_bytes sight.files) c.digest_files.ensures)
    (fed_both d2 d3 d5 (pipes_bytes (map seen_of s.pipes) texts) _ (fed_as d2 d3 _ _ (ap (λ (ps : List Seen). pipes_bytes ps texts) sight.pipes.shown) c.digest_pipes.ensures)
    (fed_both d3 d4 d5 (tapes_bytes 65536 s.tapes) (terminals_bytes r.core) (fed_as d3 d4 _ _ (ap (λ (ts : List TapeState). tapes_bytes 65536 ts) sight.tapes) c.digest_tapes.ensures) c.digest_terminals.ensures))) in
    let bytes = state_bytes r.core sums texts 65536 in
    let all = bytes ++ w.0 in
    record {
      window = w.0;
      no_window = w.1;
      is = c.key.ensures all (fed_both d0 d5 d6 bytes w.0 state w.2 [] c.new-digest.ensures);
    }
