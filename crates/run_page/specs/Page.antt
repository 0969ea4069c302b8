-- The page around a run.
use Rattle.std.specs.Prelude.{ℕ, List, ◌++◌}
use Rattle.std.specs.List.{flat_map}
use Rattle.pictures.specs.Escapes.{entity}
use Rattle.run_page.specs.declared.texts.TheConstants.{START, MIDDLE, END}
use Rattle.run_page.specs.Embedding.{embedded_byte}

-- the page of a run of this name and with this JSON: between the page's three texts stand the name, escaped, and the JSON, embedded
unfoldable pub page_of : List ℕ → List ℕ → List ℕ
page_of name json = START.now ++ flat_map entity name ++ MIDDLE.now ++ flat_map embedded_byte json ++ END.now
