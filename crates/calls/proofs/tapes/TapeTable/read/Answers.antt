-- What is left of a tape.
use Rattle.std.proofs.Common.{◌≡◌, ◌≤◌, List, ℕ, length, get_or, take, drop, Some, ap, ◌∙◌, option_map}
use Rattle.calls.specs.Places.{bytes_of}
use Rattle.calls.proofs.Placing.{part-there, part-past}
use Rattle.calls.proofs.tapes.TapeTable.read.Goals as goal

pub returns-in_err-place : goal.returns-in_err-place
returns-in_err-place c =
    let ge : length c.self.inside.places ≤ c.args.tape = c.in_err-place.ensures.lookup.3 in
    ap (option_map (λ bytes. bytes.now)) c.from_residual.ensures
    ∙ part-past c.self.inside.tapes.value.items c.self.inside.places c.args.self.now c.args.tape c.args.n c.self.view_is ge

pub returns : goal.returns
returns c =
    let tapes = c.self.inside.tapes.value.items in
    let places = c.self.inside.places in
    let place = c.in_ok-place.ensures.lookup.3.1 0 in
    let bytes : c.bytes_of.result.now ≡ bytes_of tapes c.args.tape =
    c.bytes_of.ensures ∙ ap (λ (all : List (List ℕ)). bytes_of all c.args.tape) (c.as_slice.ensures.value ∙ ap (λ v. v.items) c.deref.ensures) in
    let is : c.part_of.result.now ≡ take c.args.n (drop (get_or places c.args.tape 0) (bytes_of tapes c.args.tape)) =
    c.part_of.ensures ∙ ap (λ (p : ℕ). take c.args.n (drop p c.bytes_of.result.now)) place
    ∙ ap (λ (all : List ℕ). take c.args.n (drop (get_or places c.args.tape 0) all)) bytes in
    ap (λ (all : List ℕ). Some all) is
    ∙ part-there tapes places c.args.self.now c.args.tape c.args.n c.self.view_is c.in_ok-place.ensures.lookup.3.0
