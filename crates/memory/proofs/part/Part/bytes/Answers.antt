-- A byte of the words from the address's word on.
use Rattle.std.proofs.Common.{◌≡◌, ℕ, ◌+◌, ◌-◌, ◌*◌, ◌/◌, ◌%◌, ◌<◌, ◌≤◌, List, [], length, ap, ◌∙◌, arith}
use Rattle.std.specs.Prelude.{slice_index, slice_index_or}
use Rattle.std.specs.List.{between}
use Rattle.std.proofs.lemmas.List.Edits.{get_or-between, length-between}
use Rattle.memory.specs.Pages.{Pages, bytes_of}
use Rattle.memory.proofs.Places.{has_word-range}
use Rattle.memory.proofs.part.Part.bytes.Goals as goal

moved : (words : List (List ℕ)) (first at past j : ℕ) → first ≤ at / 4 → past ≤ length words → at % 4 + j < 4 * length (between (at / 4 - first) past words)
    → slice_index (slice_index_or (between (at / 4 - first) past words) ((at % 4 + j) / 4) []) ((at % 4 + j) % 4) ≡ slice_index (slice_index_or words ((at + j) / 4 - first) []) ((at + j) % 4)
moved words first at past j low within h =
    let size : length (between (at / 4 - first) past words) ≡ past - (at / 4 - first) = length-between words (at / 4 - first) past within in
    let number : at / 4 - first + (at % 4 + j) / 4 ≡ (at + j) / 4 - first = omega arith in
    let place : (at % 4 + j) % 4 ≡ (at + j) % 4 = omega arith in
    let below : at / 4 - first + (at % 4 + j) / 4 < past = omega arith in
    (λ i. slice_index (get_or-between words (at / 4 - first) past ((at % 4 + j) / 4) [] below i) (place i))
    ∙ ap (λ n. slice_index (slice_index_or words n []) ((at + j) % 4)) number

pub returns-clause-bytes : goal.returns-clause-bytes
returns-clause-bytes c = λ j h.
    let first : ℕ = c.self.inside.first in
    let low : first ≤ c.args.at / 4 = omega (arith, (has_word-range c.args.self.now (c.args.at / 4) c.requires.here).0, ap (λ (p : Pages). p.first) c.self.view_is) in
    let within : c.min-past.result ≤ length c.deref.result.now = omega (arith, c.min-past.ensures, c.len.ensures, c.deref.ensures.len) in
    c.bytes_in.ensures.bytes j h
    ∙ moved c.deref.result.now first c.args.at c.min-past.result j low within (omega (arith, c.bytes_in.ensures.within))
    ∙ ap (λ (ws : List (List ℕ)). slice_index (slice_index_or ws ((c.args.at + j) / 4 - first) []) ((c.args.at + j) % 4)) c.deref.ensures.value
    ∙ ap (λ (p : Pages). slice_index (bytes_of p ((c.args.at + j) / 4)) ((c.args.at + j) % 4)) c.self.view_is
