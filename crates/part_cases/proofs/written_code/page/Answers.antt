-- The page goes where nothing stands.
use Rattle.std.proofs.Common.{◌≡◌, ◌^◌, Bool, true, false, cond, ap, ◌∙◌, refl}
use Rattle.std.specs.Prelude.{nat_lt, Option, None}
use Rattle.std.specs.FinMap.{get}
use Rattle.memory_model.specs.Memory.{Memory, Cell}
use Rattle.memory_model.proofs.Memories.{get-memory_of}
use Rattle.part_cases.proofs.written_code.page.Goals as goal

none_anyway : (b : Bool) (none : Option Cell) → none ≡ None → cond b none None ≡ None
none_anyway true none e = e
none_anyway false none e = refl

pub map-requires-clause-free : goal.map-requires-clause-free
map-requires-clause-free c = λ a low high.
    ap (λ (m : Memory). get m a) c.new-space.ensures ∙ get-memory_of (λ _. None) a ∙ none_anyway (nat_lt a (2 ^ 32)) None refl
