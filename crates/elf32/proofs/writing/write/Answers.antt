-- The file, part by part.
use Rattle.std.proofs.Common.{◌≡◌, length, rules, vec_len}
use Rattle.elf32.proofs.Written.{near, written}
use Rattle.elf32.proofs.writing.write.Goals as goal

pub put_table-requires : goal.put_table-requires
put_table-requires c = rw c.segments-segments.ensures.value (near c.args.image.now c.segments-segments.ensures.profile)

pub put_contents-requires : goal.put_contents-requires
put_contents-requires c = rw (c.in_ok-resize.ensures.len, c.segments-segments.ensures.value) (near c.args.image.now c.segments-segments.ensures.profile)

pub returns : goal.returns
returns c =
    let size : vec_len c.put_table.new.file ≡ length c.put_table.new.file.items = search rules in
    written c.args.image.now c.segments-segments.result.now c.entry.result _ (vec_len c.put_table.new.file) (vec_len c.resize.new.self) c.new-file.result.items c.put_file_header.new.file.items c.put_table.new.file.items c.resize.new.self.items c.put_contents.new.file.items
    c.segments-segments.ensures.profile c.segments-segments.ensures.value c.entry.ensures (search rules) c.new-file.ensures.items c.in_ok-put_file_header.ensures c.in_ok-put_table.ensures size c.in_ok-resize.ensures.items c.in_ok-resize.ensures.len c.in_ok-put_contents.ensures
