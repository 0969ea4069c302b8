-- One more process is copied.
use Rattle.std.proofs.Common.{◌≡◌, ℕ, ◌+◌, ◌<◌, ◌++◌, ◌∷◌, [], List, length, take, get_or, sym, ap, ◌∙◌, map, arith}
use Rattle.std.proofs.lemmas.List.{map-append, length-map, take_more}
use Rattle.std.proofs.Math.ListN.{get_or-map}
use Rattle.processes.specs.Entries.{Entry}
use Rattle.processes.specs.Parts.{Part}
use Rattle.processes.specs.Table.{Table}
use Rattle.processes.proofs.table.ProcTable.try_clone.Goals as goal

pub loop-entry-preserved : goal.loop-entry-preserved
loop-entry-preserved c =
    let entries : List Entry = c.self.inside.entries.items in
    let parts : List Part = map (λ (e : Entry). e.part) entries in
    let same : parts ≡ c.args.self.now.parts = ap (λ (t : Table). t.parts) c.self.view_is in
    let i : ℕ = c.loop-entry.entry-index in
    let item : c.entry-item.result ≡ get_or entries i c.entry-item.result =
    c.entry-item.is ∙ ap (λ (es : List Entry). get_or es i c.entry-item.result) c.deref-entry-items.ensures.value in
    let size : length c.deref-entry-items.result.now ≡ length entries = ap (λ (es : List Entry). length es) c.deref-entry-items.ensures.value in
    let below : i < length parts = omega (arith, c.loop-entry-test.true, size, length-map entries (λ (e : Entry). e.part)) in
    ap (map (λ (e : Entry). e.part)) c.in_ok-push.ensures.items ∙ map-append (λ (e : Entry). e.part) _ _
    ∙ (λ t. c.loop-entry.invariant t ++ c.in_ok-try_clone.ensures t ∷ [])
    ∙ ap (λ (ps : List Part). take i ps ++ c.entry-item.result.part ∷ []) (sym same)
    ∙ ap (λ (p : Part). take i parts ++ p ∷ []) (ap (λ (e : Entry). e.part) item ∙ sym (get_or-map (λ (e : Entry). e.part) entries i c.entry-item.result))
    ∙ sym (take_more parts i c.entry-item.result.part below) ∙ ap (λ (ps : List Part). take (i + 1) ps) same
