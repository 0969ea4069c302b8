-- The plan begins the group.
use Rattle.std.proofs.Common.{◌≡◌, ◌+◌, ◌++◌, ◌∷◌, [], List, ℕ, Vec, length, refl, ap, ◌∙◌, rules, vec_len}
use Rattle.std.specs.Int.{w32, to_le_bytes}
use Rattle.std.specs.declared.alloc.Global.{Global}
use Rattle.disk_model.specs.declared.change.Piece.{Piece}
use Rattle.disk_model.specs.Spelling.{record_of}
use Rattle.disk_model.specs.Storage.{Storage, pieces, one_byte}
use Rattle.group_commit.specs.Stages.{items_of}
use Rattle.group_commit.proofs.Planning.{group_begins}
use Rattle.group_commit.proofs.committer.Committer.group_plan.Goals as goal

pub returns-clause-ok : goal.returns-clause-ok
returns-clause-ok c =
    let gate_is : c.self.inside.gate ≡ c.args.self.now.gate = ap (λ (st : Storage). st.gate) c.self.view_is in
    let size : vec_len c.in_ok-first.first ≡ length c.in_ok-first.first.items = search rules in
    group_begins c.args.self.now c.args.changes.now _
    (c.in_ok-first.ensures
    ∙ ap (λ (l : List ℕ). pieces (c.self.inside.gate + 1) (to_le_bytes w32 (length l) ++ l ++ 0 ∷ [])) c.requires.body
    ∙ ap (λ (k : ℕ). pieces (k + 1) (record_of c.args.changes.now)) gate_is)
    (ap items_of (c.in_ok-push.ensures.items ∙ ap (λ (vs : List (Vec Piece Global)). vs ++ c.in_ok-byte_piece.field-0 ∷ []) c.new-later.ensures.items)
    ∙ ap (λ (ps : List Piece). ps ∷ []) c.in_ok-byte_piece.ensures ∙ ap (λ (k : ℕ). one_byte k 1 ∷ []) gate_is)
    (ap (λ (k : ℕ). k + 1) (c.len.ensures ∙ size))
    (ap (λ (st : Storage). st.half) c.self.view_is)
    (c.gate_past.ensures ∙ ap (λ (k : ℕ). k + 5 + length c.args.bytes.now) gate_is ∙ ap (λ (l : List ℕ). c.args.self.now.gate + 5 + length l) c.requires.body)
    refl
    c.raised-committed.ensures
    c.requires.room
