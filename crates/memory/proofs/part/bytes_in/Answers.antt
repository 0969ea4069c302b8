-- A byte of the words, one after another.
use Rattle.std.proofs.Common.{◌≡◌, ℕ, ◌+◌, ◌*◌, ◌/◌, ◌%◌, ◌<◌, List, [], length, take, drop, ap, ◌∙◌, arith}
use Rattle.std.specs.Prelude.{slice_index, slice_index_or}
use Rattle.std.specs.List.{flat_map}
use Rattle.std.proofs.lemmas.List.{get_or-take, get_or-drop, length-take, length-drop}
use Rattle.memory.proofs.Flat.{AreWhole, flat-byte, length-flat}
use Rattle.memory.proofs.part.bytes_in.Goals as goal

one : (words : List (List ℕ)) (flat : List ℕ) (skipped k j : ℕ) → AreWhole words → flat ≡ flat_map (λ x. x) words → j < length (take k (drop skipped flat)) → slice_index (take k (drop skipped flat)) j ≡ slice_index (slice_index_or words ((skipped + j) / 4) []) ((skipped + j) % 4)
one words flat skipped k j whole is h =
    let within : j < k = omega (arith, length-take k (drop skipped flat)) in
    let below : skipped + j < 4 * length words = omega (arith, length-take k (drop skipped flat), length-drop skipped flat, ap length is, length-flat words whole) in
    get_or-take k (drop skipped flat) j 0 within ∙ get_or-drop skipped flat j 0 ∙ ap (λ f. slice_index f (skipped + j)) is ∙ flat-byte words (skipped + j) whole below

pub returns-clause-bytes : goal.returns-clause-bytes
returns-clause-bytes c = λ j h. one c.args.words.now c.as_flattened-bytes.result.now c.args.skipped _ j c.told-words c.as_flattened-bytes.ensures.value h
