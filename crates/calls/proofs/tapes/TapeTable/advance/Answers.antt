-- A tape at a place further on.
use Rattle.std.proofs.Common.{◌≡◌, ◌<◌, ◌≤◌, List, ℕ, length, ap, ◌∙◌, arith}
use Rattle.calls.specs.Places.{bytes_of}
use Rattle.calls.proofs.Placing.{left-there, advanced-there, advanced-past}
use Rattle.calls.proofs.tapes.TapeTable.advance.Goals as goal

pub prove-unreachable-requires : goal.prove-unreachable-requires
prove-unreachable-requires c =
    let tapes = c.self.inside.tapes.value.items in
    let places = c.self.inside.places in
    let tape = c.args.read.tape in
    let lt : tape < length places = omega arith in
    let left = left-there tapes places c.args.self.now c.args.read c.self.view_is lt c.requires in
    let bytes : c.bytes_of-end.result.now ≡ bytes_of tapes tape =
    c.bytes_of-end.ensures ∙ ap (λ (all : List (List ℕ)). bytes_of all tape) (c.as_slice.ensures.value ∙ ap (λ v. v.items) c.deref.ensures) in
    let size : length c.bytes_of-end.result.now ≡ length (bytes_of tapes tape) = ap length bytes in
    omega arith

pub returns-then-tape-lt-TAPES : goal.returns-then-tape-lt-TAPES
returns-then-tape-lt-TAPES c =
    let lt : c.args.read.tape < length c.self.inside.places = omega arith in
    advanced-there c.self.inside.tapes.value.items c.self.inside.places c.args.self.now c.args.read.tape c.args.read.count c.self.view_is lt

pub returns-else-tape-lt-TAPES : goal.returns-else-tape-lt-TAPES
returns-else-tape-lt-TAPES c =
    let ge : length c.self.inside.places ≤ c.args.read.tape = omega arith in
    advanced-past c.self.inside.tapes.value.items c.self.inside.places c.args.self.now c.args.read.tape c.args.read.count c.self.view_is ge
