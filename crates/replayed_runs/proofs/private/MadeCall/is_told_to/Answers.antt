-- What a process has beside its machine is in one part.
use Rattle.std.proofs.Common.{◌≡◌, ◌∙◌, ℕ, zero, suc, List, Option, Some, None, refl, ap}
use Rattle.std.specs.Prelude.{option_map, unwrap_or}
use Rattle.std.proofs.lemmas.Option.{slice_get-map}
use Rattle.kernel_model.specs.Rows.{status_in}
use Rattle.kernel_model.specs.declared.descriptor.Descriptor.{Descriptor}
use Rattle.order_laws.specs.Privacy.{Claim}
use Rattle.processes.specs.Parts.{Part, children_in, part_at, statuses_of}
use Rattle.replayed_runs.specs.Owning.{claim_of, meets_by, meets_claim}
use Rattle.replayed_runs.proofs.private.MadeCall.is_told_to.Goals as goal

status_is : (parts : List Part) (p : ℕ) (z : Part) → part_at parts p ≡ Some z → status_in (statuses_of parts) p ≡ z.status
status_is parts zero z at = let no : ⊥ = cc in absurd no
status_is parts (suc k) z at =
    ap (λ (o : Option (Option ℕ)). unwrap_or o None) (slice_get-map (λ (part : Part). part.status) parts k ∙ ap (option_map (λ (part : Part). part.status)) at)

told_is : (c : Claim) (parts : List Part) (p : ℕ) (o : Option Part) (ds : List (Option Descriptor)) → part_at parts p ≡ o
    → Some ds ≡ option_map (λ (part : Part). part.descriptors) o → meets_by c p (status_in (statuses_of parts) p) ds (children_in o) ≡ meets_claim c p o
told_is c parts p None ds at is = let no : ⊥ = cc in absurd no
told_is c parts p (Some z) ds at is =
    let same : ds ≡ z.descriptors = cc in
    ap (λ (s : Option ℕ). meets_by c p s ds z.children) (status_is parts p z at) ∙ ap (λ (held : List (Option Descriptor)). meets_by c p z.status held z.children) same

pub returns-in-Some : goal.returns-in-Some
returns-in-Some c =
    let parts = c.args.tables.processes.now.parts in
    let claim = claim_of c.args.self.owner c.args.self.reads.now c.args.self.terminal in
    let told = rw (c.status.ensures, c.as_slice.ensures.value, c.children.ensures) at c.is_told_by.ensures in
    told ∙ told_is claim parts c.args.pid (part_at parts c.args.pid) c.in-Some.descriptors.now refl c.in-Some.ensures.value
