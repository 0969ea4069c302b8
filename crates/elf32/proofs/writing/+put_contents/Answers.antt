-- One more segment.
use Rattle.std.proofs.Common.{◌≡◌, ℕ, ◌++◌, List, length, ap, ◌∙◌, arith, rules, vec_len}
use Rattle.std.proofs.lemmas.Result.{on_ok_weaker}
use Rattle.elf32.specs.Files.{offset_after}
use Rattle.elf32.proofs.Written.{contents_first}
use Rattle.elf32.proofs.writing.+put_contents.Goals as goal

pub returns-in_ok-extend_from_slice-in-len1-up : goal.returns-in_ok-extend_from_slice-in-len1-up
returns-in_ok-extend_from_slice-in-len1-up t c =
    let size : vec_len c.args.file.now ≡ length c.args.file.now.items = search rules in
    let end : vec_len c.extend_from_slice.new.self ≡ length c.extend_from_slice.new.self.items = search rules in
    on_ok_weaker c.put_contents.result
    (contents_first c.args.file.now.items c.resize.new.self.items c.extend_from_slice.new.self.items c.put_contents.new.file.items c.offset_after-offset.result (vec_len c.args.file.now) (vec_len c.extend_from_slice.new.self) c.segment-item.result c.args.segments.now
    (omega arith) c.segment-item.is size (c.offset_after-offset.ensures ∙ ap (λ (n : ℕ). offset_after n c.segment-item.result) c.len.ensures) c.in_ok-resize-in-len1-up.ensures.items
    (c.in_ok-extend_from_slice-in-len1-up.ensures.items ∙ ap (λ (b : List ℕ). c.resize.new.self.items ++ b) c.as_slice.ensures) end)
    c.put_contents.ensures
