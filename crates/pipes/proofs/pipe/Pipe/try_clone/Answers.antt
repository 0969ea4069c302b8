-- What the pipe holds fits into its copy.
use Rattle.std.proofs.Common.{◌≡◌, ℕ, List, length, arith, ap}
use Rattle.std.proofs.lemmas.List.{length-append}
use Rattle.pipes.specs.Seen.{Seen}
use Rattle.pipes.proofs.pipe.Pipe.try_clone.Goals as goal

pub put-requires : goal.put-requires
put-requires c =
    let empty : length c.in_ok-copy.copy.held ≡ 0 = ap (λ (s : Seen). length s.held) c.in_ok-copy.ensures in
    let both = length-append c.as_slices.result.0.now c.as_slices.result.1.now in
    let all = ap (λ (bytes : List ℕ). length bytes) c.as_slices.ensures in
    let same = ap (λ (s : Seen). length s.held) c.self.view_is in
    let held = c.held-held.ensures.held in
    let few = c.held-held.ensures.within in
    omega (arith, empty, both, all, same, held, few)

pub put-requires-2 : goal.put-requires-2
put-requires-2 c =
    let empty : length c.in_ok-copy.copy.held ≡ 0 = ap (λ (s : Seen). length s.held) c.in_ok-copy.ensures in
    let first = ap (λ (s : Seen). length s.held) c.put.ensures in
    let longer = length-append c.in_ok-copy.copy.held c.as_slices.result.0.now in
    let both = length-append c.as_slices.result.0.now c.as_slices.result.1.now in
    let all = ap (λ (bytes : List ℕ). length bytes) c.as_slices.ensures in
    let same = ap (λ (s : Seen). length s.held) c.self.view_is in
    let held = c.held-held.ensures.held in
    let few = c.held-held.ensures.within in
    omega (arith, empty, first, longer, both, all, same, held, few)
