-- The plans of a group and of a checkpoint.
use Rattle.std.proofs.Common.{◌≡◌, ℕ, ◌+◌, ◌<◌, ◌≤◌, Bool, true, false, not, List, [], ◌∷◌, length, refl, sym, ap, subst, ◌∙◌, arith}
use Rattle.disk_model.specs.declared.change.Change.{Change}
use Rattle.disk_model.specs.declared.change.Piece.{Piece}
use Rattle.disk_model.specs.Spelling.{record_of, gate_after}
use Rattle.disk_model.specs.Held.{start_of, end_of}
use Rattle.disk_model.specs.Storage.{Storage, sent, pieces, one_byte, selector, group, checkpoint}
use Rattle.disk_model.proofs.Reading.{record_length}
use Rattle.simdisk.specs.Room.{AreSpaced}
use Rattle.group_commit.specs.declared.plan.CutPlan.{CutPlan}
use Rattle.group_commit.specs.Stages.{items_of, AllSpaced}
use Rattle.group_commit.specs.Plans.{planned, HasRoom, Begins}
use Rattle.group_commit.proofs.Parts.{pieces_spaced}

end_within : (half : Bool) → end_of half ≤ 2097088
end_within false = omega arith
end_within true = omega arith

byte_spaced : (at byte : ℕ) → at + 1 ≤ 2097152 → AreSpaced 2097152 (one_byte at byte)
byte_spaced at byte le = (omega arith, omega arith, omega arith, refl, tt)

-- a record and its closing gate lie on the disk
record_spaced : (half : Bool) (gate : ℕ) (cs : List Change) → gate_after gate cs < end_of half → AreSpaced 2097152 (pieces (gate + 1) (record_of cs))
record_spaced half gate cs lt = pieces_spaced (gate + 1) (record_of cs) (omega (arith, record_length cs, end_within half))

gate_before : (half : Bool) (gate : ℕ) (cs : List Change) → gate_after gate cs < end_of half → gate + 1 ≤ 2097152
gate_before half gate cs lt = omega (arith, end_within half)

abbrev made_of : Storage → List Piece → List (List Piece) → Bool → ℕ → ℕ → Storage
made_of st first later half gate committed = record st { device = sent st.device first; stages = later; next_half = half; next_gate = gate; next_committed = committed }

planned_is : (st : Storage) (p : CutPlan) (first : List Piece) (later : List (List Piece)) (half : Bool) (gate committed : ℕ)
    → p.first.items ≡ first → items_of p.later.items ≡ later → p.half ≡ half → p.gate ≡ gate → p.committed ≡ committed → planned st p ≡ made_of st first later half gate committed
planned_is st p first later half gate committed a b h g c =
    ap (λ (x : List Piece). made_of st x (items_of p.later.items) p.half p.gate p.committed) a
    ∙ ap (λ (x : List (List Piece)). made_of st first x p.half p.gate p.committed) b
    ∙ ap (λ (x : Bool). made_of st first later x p.gate p.committed) h
    ∙ ap (λ (x : ℕ). made_of st first later half x p.committed) g
    ∙ ap (λ (x : ℕ). made_of st first later half gate x) c

room_is : (p : CutPlan) (first : List Piece) (later : List (List Piece)) (half : Bool) (gate : ℕ)
    → p.first.items ≡ first → items_of p.later.items ≡ later → p.half ≡ half → p.gate ≡ gate → AreSpaced 2097152 first → AllSpaced later → gate < end_of half → HasRoom p
room_is p first later half gate a b h g one others lt = record {
  first = subst (λ (x : List Piece). AreSpaced 2097152 x) (sym a) one;
  later = subst (λ (x : List (List Piece)). AllSpaced x) (sym b) others;
  gate = subst (λ (x : ℕ). x < end_of p.half) (sym g) (subst (λ (x : Bool). gate < end_of x) (sym h) lt);
}

pub group_begins : (st : Storage) (cs : List Change) (p : CutPlan)
    → p.first.items ≡ pieces (st.gate + 1) (record_of cs) → items_of p.later.items ≡ one_byte st.gate 1 ∷ [] → p.writes ≡ length p.first.items + 1
    → p.half ≡ st.half → p.gate ≡ gate_after st.gate cs → p.count ≡ length cs → p.committed ≡ st.committed + length cs
    → gate_after st.gate cs < end_of st.half → Begins st (group st cs) p
group_begins st cs p a b w h g n c lt = record {
  leads = planned_is st p (pieces (st.gate + 1) (record_of cs)) (one_byte st.gate 1 ∷ []) st.half (gate_after st.gate cs) (st.committed + length cs) a b h g c;
  count = ap (λ (k : ℕ). st.committed + k) (sym n);
  writes = w ∙ ap (λ (ps : List Piece). length ps + 1) a;
  room = room_is p (pieces (st.gate + 1) (record_of cs)) (one_byte st.gate 1 ∷ []) st.half (gate_after st.gate cs) a b h g
      (record_spaced st.half st.gate cs lt) (byte_spaced st.gate 1 (gate_before st.half st.gate cs lt), tt) lt;
}

pub checkpoint_begins : (st : Storage) (count : ℕ) (cs : List Change) (p : CutPlan)
    → p.first.items ≡ one_byte (start_of (not st.half)) 0
    → items_of p.later.items ≡ pieces (start_of (not st.half) + 1) (record_of cs) ∷ one_byte (start_of (not st.half)) 1 ∷ one_byte 0 (selector (not st.half)) ∷ []
    → p.writes ≡ length (pieces (start_of (not st.half) + 1) (record_of cs)) + 3
    → p.half ≡ not st.half → p.gate ≡ gate_after (start_of (not st.half)) cs → p.count ≡ count → p.committed ≡ st.committed + count
    → gate_after (start_of (not st.half)) cs < end_of (not st.half) → Begins st (checkpoint st count cs) p
checkpoint_begins st count cs p a b w h g n c lt =
    let there = start_of (not st.half) in
    let before = gate_before (not st.half) (start_of (not st.half)) cs lt in record {
      leads = planned_is st p (one_byte (start_of (not st.half)) 0) (pieces (start_of (not st.half) + 1) (record_of cs) ∷ one_byte (start_of (not st.half)) 1 ∷ one_byte 0 (selector (not st.half)) ∷ [])
          (not st.half) (gate_after (start_of (not st.half)) cs) (st.committed + count) a b h g c;
      count = ap (λ (k : ℕ). st.committed + k) (sym n);
      writes = w ∙ (let e : length (pieces (start_of (not st.half) + 1) (record_of cs)) + 3 ≡ 1 + (length (pieces (start_of (not st.half) + 1) (record_of cs)) + (1 + (1 + 0))) = omega arith in e);
      room = room_is p (one_byte (start_of (not st.half)) 0) (pieces (start_of (not st.half) + 1) (record_of cs) ∷ one_byte (start_of (not st.half)) 1 ∷ one_byte 0 (selector (not st.half)) ∷ [])
          (not st.half) (gate_after (start_of (not st.half)) cs) a b h g
          (byte_spaced (start_of (not st.half)) 0 before)
          (record_spaced (not st.half) (start_of (not st.half)) cs lt, (byte_spaced (start_of (not st.half)) 1 before, (byte_spaced 0 (selector (not st.half)) (omega arith), tt)))
          lt;
    }
