-- What is wanted of an event, by its kind.
use Rattle.std.specs.Prelude.{Result, Ok, Err, OnOk}
use Rattle.std.proofs.Common.{◌≡◌, ℕ, ◌||◌, List, [], ◌∷◌, sym, ap, ◌∙◌}
use Rattle.std.proofs.Math.Bool.{or-false}
use Rattle.kernel_model.specs.Entries.{Entry, is_among, meets}
use Rattle.kernel_model.specs.declared.carrier.Carrier.{Carrier}
use Rattle.kernel_model.specs.declared.carrier.Carrier.TheVariants.{Proc}
use Rattle.kernel_model.specs.declared.event.Event.{Event}
use Rattle.kernel_model.specs.declared.event.Event.TheVariants.{Turn, Enter}
use Rattle.footprints.specs.Footprints.{footprint_by}
use Rattle.footprints.proofs.Same.{added-both}

-- these carriers are added to those that are wanted
abbrev pub Adds : List Carrier → List Carrier → List Carrier → Type 0
Adds old new more = (x : Carrier) → is_among x new ≡ (is_among x old || is_among x more)

-- what is so of an Ok that follows from what is
pub on_ok : {T E : Type 0} (r : Result T E) (P Q : Type 0) → (P → Q) → OnOk r P → OnOk r Q
on_ok (Ok v) P Q f h = f h
on_ok (Err e) P Q f h = h

pub turn_writes : (e : Event) (pid n : ℕ) (kept : Entry) (want : List Carrier) → e ≡ Turn pid n → is_among (Proc pid) want ≡ meets (footprint_by e kept).writes want
turn_writes e pid n kept want is =
    sym (or-false (is_among (Proc pid) want)) ∙ ap (λ (x : Event). meets (footprint_by x kept).writes want) (sym is)

pub turn_reads : (e : Event) (pid n : ℕ) (kept : Entry) (old new : List Carrier) → e ≡ Turn pid n → Adds old new (Proc pid ∷ []) → Adds old new (footprint_by e kept).reads
turn_reads e pid n kept old new is adds x = adds x ∙ ap (λ (y : Event). is_among x old || is_among x (footprint_by y kept).reads) (sym is)

pub enter_reads : (e : Event) (pid : ℕ) (kept : Entry) (old between new rs : List Carrier) → e ≡ Enter pid → rs ≡ kept.reads → Adds old between (Proc pid ∷ []) → Adds between new rs
    → Adds old new (footprint_by e kept).reads
enter_reads e pid kept old between new rs is are first then x =
    added-both old between new (Proc pid ∷ []) rs first then x
    ∙ ap (λ (ys : List Carrier). is_among x old || is_among x (Proc pid ∷ ys)) are
    ∙ ap (λ (y : Event). is_among x old || is_among x (footprint_by y kept).reads) (sym is)

pub disk_reads : (e d : Event) (kept : Entry) (old : List Carrier) → e ≡ d → (footprint_by d kept).reads ≡ [] → Adds old old (footprint_by e kept).reads
disk_reads e d kept old is none x =
    sym (or-false (is_among x old)) ∙ ap (λ (ys : List Carrier). is_among x old || is_among x ys) (sym none)
    ∙ ap (λ (y : Event). is_among x old || is_among x (footprint_by y kept).reads) (sym is)
