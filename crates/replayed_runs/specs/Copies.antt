-- What a copy of a replay has.
use Rattle.std.specs.Prelude.{ℕ, List, map}
use Rattle.state_search.specs.declared.key.Key.{Key}
use Rattle.replayed_runs.specs.declared.pipe_texts.PipeText.{PipeText}
use Rattle.replayed_runs.specs.declared.replay.Replay.{Replay}

-- a text, wherever it is kept: what was written, and how much of it was held
abbrev pub text_in : PipeText → List ℕ × ℕ
text_in text = (text.written.items, text.held)

-- the texts of the pipes of a replay
abbrev pub texts_of : Replay → List (List ℕ × ℕ)
texts_of x = map text_in x.pipes.texts.items

-- the sums of the replies to its processes
abbrev pub sums_of : Replay → List Key
sums_of x = x.replies.sums.items
