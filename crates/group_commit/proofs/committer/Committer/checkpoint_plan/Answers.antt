-- The plan begins the checkpoint.
use Rattle.std.proofs.Common.{◌≡◌, ◌+◌, ◌++◌, ◌∷◌, [], List, ℕ, Bool, not, length, refl, ap, ◌∙◌, rules, vec_len}
use Rattle.std.specs.Int.{w32, to_le_bytes}
use Rattle.disk_model.specs.declared.change.Piece.{Piece}
use Rattle.disk_model.specs.Held.{start_of}
use Rattle.disk_model.specs.Spelling.{body_of, record_of}
use Rattle.disk_model.specs.Storage.{Storage, pieces, one_byte, selector}
use Rattle.group_commit.proofs.Planning.{checkpoint_begins}
use Rattle.group_commit.proofs.committer.Committer.checkpoint_plan.Goals as goal

pub returns-clause-ok : goal.returns-clause-ok
returns-clause-ok c =
    let half_is : c.self.inside.half ≡ c.args.self.now.half = ap (λ (st : Storage). st.half) c.self.view_is in
    let gate_is : c.first_gate-gate.result ≡ start_of (not c.args.self.now.half) = c.first_gate-gate.ensures ∙ ap (λ (h : Bool). start_of (not h)) half_is in
    let body_is : c.deref.result.now ≡ body_of c.args.all.now = c.deref.ensures.value ∙ c.in_ok-bytes.ensures in
    let pieces_is : c.in_ok-pieces.pieces.items ≡ pieces (start_of (not c.args.self.now.half) + 1) (record_of c.args.all.now) =
    c.in_ok-pieces.ensures
    ∙ ap (λ (l : List ℕ). pieces (c.first_gate-gate.result + 1) (to_le_bytes w32 (length l) ++ l ++ 0 ∷ [])) body_is
    ∙ ap (λ (k : ℕ). pieces (k + 1) (record_of c.args.all.now)) gate_is in
    let size : vec_len c.in_ok-pieces.pieces ≡ length c.in_ok-pieces.pieces.items = search rules in
    checkpoint_begins c.args.self.now c.args.count c.args.all.now _
    (c.in_ok-first.ensures ∙ ap (λ (k : ℕ). one_byte k 0) gate_is)
    (c.in_ok-later.ensures
    ∙ ap (λ (ps : List Piece). ps ∷ one_byte c.first_gate-gate.result 1 ∷ one_byte 0 (selector (not c.self.inside.half)) ∷ []) pieces_is
    ∙ ap (λ (k : ℕ). pieces (start_of (not c.args.self.now.half) + 1) (record_of c.args.all.now) ∷ one_byte k 1 ∷ one_byte 0 (selector (not c.self.inside.half)) ∷ []) gate_is
    ∙ ap (λ (h : Bool). pieces (start_of (not c.args.self.now.half) + 1) (record_of c.args.all.now) ∷ one_byte (start_of (not c.args.self.now.half)) 1 ∷ one_byte 0 (selector (not h)) ∷ []) half_is)
    (ap (λ (k : ℕ). k + 3) (c.len.ensures ∙ size ∙ ap (λ (ps : List Piece). length ps) pieces_is))
    (ap (λ (h : Bool). not h) half_is)
    (c.gate_past.ensures ∙ ap (λ (k : ℕ). k + 5 + length c.deref-2.result.now) gate_is ∙ ap (λ (l : List ℕ). start_of (not c.args.self.now.half) + 5 + length l) (c.deref-2.ensures.value ∙ c.in_ok-bytes.ensures))
    refl
    c.raised-committed.ensures
    c.requires.room
