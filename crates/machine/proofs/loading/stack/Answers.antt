-- The stack goes where nothing stands.
use Rattle.std.proofs.Common.{ℕ, ◌<◌, true, false, List, sym, ap, subst, ◌∙◌}
use Rattle.std.specs.Prelude.{slice_index}
use Rattle.machine.proofs.Pages.{mapped-holds, nothing-free, nothing-holds, stack-mapped}
use Rattle.machine.proofs.loading.stack.Goals as goal

pub map-requires-clause-free : goal.map-requires-clause-free
map-requires-clause-free c = λ a low high. nothing-free c.new-space.result c.new-space.ensures a

pub returns-clause-memory : goal.returns-clause-memory
returns-clause-memory c =
    stack-mapped c.new-space.result c.map.new.self c.as_slice.result.now c.new-space.ensures
    (c.as_slice.ensures.len ∙ c.in_ok-bytes.ensures.len)
    (λ k. ap (λ (bytes : List ℕ). slice_index bytes k) c.as_slice.ensures.value ∙ c.in_ok-bytes.ensures.bytes k)
    c.in_ok-map.ensures.ok

pub returns-clause-bytes : goal.returns-clause-bytes
returns-clause-bytes c =
    mapped-holds c.new-space.result c.map.new.self 0x7FFFC000 (record { read = true; write = true; execute = false }) c.as_slice.result.now (nothing-holds c.new-space.result c.new-space.ensures)
    (λ k. subst (λ (bytes : List ℕ). slice_index bytes k < 256) (sym c.as_slice.ensures.value) (c.in_ok-bytes.ensures.small k))
    c.in_ok-map.ensures.ok
