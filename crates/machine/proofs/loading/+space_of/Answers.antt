-- A segment goes where nothing stands, and makes the memory of one more.
use Rattle.std.proofs.Common.{ℕ, ◌<◌, List, length, sym, ap, subst, ◌∙◌, arith}
use Rattle.std.specs.Prelude.{◌-◌, slice_index, drop, take}
use Rattle.machine.proofs.Pages.{first-rest, mapped-holds, segment-free, segment-mapped}
use Rattle.machine.proofs.loading.+space_of.Goals as goal

pub map-requires-clause-free : goal.map-requires-clause-free
map-requires-clause-free t c =
    segment-free c.args.segments.now (take (length c.args.segments.now - 1) (drop 1 c.args.segments.now)) c.segment-item.result c.requires.ascending.0 c.as_slice.result.now c.in_ok-space-in-len1-up.space
    (first-rest c.args.segments.now c.segment-item.result (omega arith) c.segment-item.is) c.requires.loadable c.requires.ascending.1
    (c.as_slice.ensures.len ∙ c.in_ok-bytes-in-len1-up.ensures.len) c.in_ok-space-in-len1-up.ensures.memory

pub returns-in_ok-map-in-len1-up-clause-memory : goal.returns-in_ok-map-in-len1-up-clause-memory
returns-in_ok-map-in-len1-up-clause-memory t c =
    segment-mapped c.args.segments.now (take (length c.args.segments.now - 1) (drop 1 c.args.segments.now)) c.segment-item.result c.as_slice.result.now c.in_ok-space-in-len1-up.space c.map.new.self
    (first-rest c.args.segments.now c.segment-item.result (omega arith) c.segment-item.is) c.requires.loadable
    (c.as_slice.ensures.len ∙ c.in_ok-bytes-in-len1-up.ensures.len)
    (λ k. ap (λ (bytes : List ℕ). slice_index bytes k) c.as_slice.ensures.value ∙ c.in_ok-bytes-in-len1-up.ensures.bytes k)
    c.in_ok-space-in-len1-up.ensures.memory c.in_ok-map-in-len1-up.ensures.ok

pub returns-in_ok-map-in-len1-up-clause-bytes : goal.returns-in_ok-map-in-len1-up-clause-bytes
returns-in_ok-map-in-len1-up-clause-bytes t c =
    mapped-holds c.in_ok-space-in-len1-up.space c.map.new.self _ _ c.as_slice.result.now c.in_ok-space-in-len1-up.ensures.bytes
    (λ k. subst (λ (bytes : List ℕ). slice_index bytes k < 256) (sym c.as_slice.ensures.value) (c.in_ok-bytes-in-len1-up.ensures.small k))
    c.in_ok-map-in-len1-up.ensures.ok
