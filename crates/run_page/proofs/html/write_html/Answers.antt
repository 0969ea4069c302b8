-- The page's parts went out in their order.
use Rattle.std.proofs.Common.{◌∙◌, ap, List, ℕ}
use Rattle.std.specs.List.{flat_map}
use Rattle.pictures.specs.Escapes.{entity}
use Rattle.run_page.specs.Embedding.{embedded_byte}
use Rattle.run_page.proofs.Written.{page_written}
use Rattle.run_page.proofs.html.write_html.Goals as goal

pub returns : goal.returns
returns g c =
    page_written (g.O.Write.contents c.args.out.now) (g.O.Write.contents c.write_all.new.self) (g.O.Write.contents c.write_all-2.new.self)
    (g.O.Write.contents c.write_all-3.new.self) (g.O.Write.contents c.write_all-4.new.self) (g.O.Write.contents c.write_all-5.new.self)
    c.args.name.now c.args.json.now
    c.as_bytes.result.now c.as_slice.result.now c.as_bytes-2.result.now c.as_slice-2.result.now c.as_bytes-3.result.now
    c.as_bytes.ensures.value
    (c.as_slice.ensures.value ∙ c.in_ok-title.ensures ∙ ap (flat_map entity) c.as_bytes-name.ensures.value)
    c.as_bytes-2.ensures.value
    (c.as_slice-2.ensures.value ∙ c.in_ok-data.ensures ∙ ap (flat_map embedded_byte) c.as_bytes-json.ensures.value)
    c.as_bytes-3.ensures.value
    c.in_ok-write_all.ensures.bytes c.in_ok-write_all-2.ensures.bytes c.in_ok-write_all-3.ensures.bytes c.in_ok-write_all-4.ensures.bytes c.in_ok-write_all-5.ensures.bytes
