-- It is this one where both parts are.
use Rattle.std.proofs.Common.{◌≡◌, ◌&&◌, Bool, List, sym, ap, subst}
use Rattle.std.specs.Bool.{Decides}
use Rattle.std.proofs.lemmas.Slice.Eq.{slice_eq-Decides}
use Rattle.kernel_model.specs.declared.carrier.Carrier.{Carrier}
use Rattle.footprints.specs.Kept.{part}
use Rattle.footprints.proofs.Same.{same-Decides, footprint-Decides, footprint-differs}
use Rattle.footprints.proofs.footprints.is_footprint.Goals as goal

pub returns-then-eq : goal.returns-then-eq
returns-then-eq c =
    let read = part c.args.ends.from c.args.ends.reads c.args.carriers.now in
    let written = part c.args.ends.reads c.args.ends.writes c.args.carriers.now in
    let reads : Decides c.eq.result (read ≡ c.args.reads.now) =
    subst (λ (cs : List Carrier). Decides c.eq.result (cs ≡ c.args.reads.now)) c.part_of-read.ensures (slice_eq-Decides same-Decides _ _ _ c.eq.ensures) in
    let writes : Decides c.eq-then-eq.result (written ≡ c.args.writes.now) =
    subst (λ (cs : List Carrier). Decides c.eq-then-eq.result (cs ≡ c.args.writes.now)) c.part_of-written.ensures (slice_eq-Decides same-Decides _ _ _ c.eq-then-eq.ensures) in
    footprint-Decides read written c.args.reads.now c.args.writes.now c.eq.result c.eq-then-eq.result c.eq-then-eq.result reads writes (ap (λ (b : Bool). b && c.eq-then-eq.result) (sym c.if-eq.true))

pub returns-else-eq : goal.returns-else-eq
returns-else-eq c =
    let read = part c.args.ends.from c.args.ends.reads c.args.carriers.now in
    let written = part c.args.ends.reads c.args.ends.writes c.args.carriers.now in
    let reads : Decides c.eq.result (read ≡ c.args.reads.now) =
    subst (λ (cs : List Carrier). Decides c.eq.result (cs ≡ c.args.reads.now)) c.part_of-read.ensures (slice_eq-Decides same-Decides _ _ _ c.eq.ensures) in
    footprint-differs read written c.args.reads.now c.args.writes.now c.eq.result c.if-eq.false reads
