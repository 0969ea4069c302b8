-- Changes that are possible in order.
use Rattle.std.proofs.Common.{◌≡◌, ℕ, ◌+◌, ◌≤◌, Bool, true, false, List, [], ◌∷◌, ◌++◌, length, take, refl, sym, ap, ◌∙◌, subst, arith}
use Rattle.std.specs.Prelude.{if◌then◌else◌}
use Rattle.std.specs.List.{AllByRecursion}
use Rattle.std.proofs.lemmas.List.{take_all}
use Rattle.disk_model.specs.declared.change.Change.{Change}
use Rattle.disk_model.specs.declared.change.NamedFile.{NamedFile}
use Rattle.disk_model.specs.Files.{Follow, IsFormed, IsMade, MayCome, changed}
use Rattle.disk_model.specs.Held.{IsHeldTo}
use Rattle.disk_model.specs.Rebuild.{rebuild}
use Rattle.disk_model.specs.Runs.{first_storage}
use Rattle.disk_model.specs.Storage.{Storage, checkpoint, cut, fits, group, group_of}
use Rattle.disk_model.proofs.Reading.{files_after-append, follow_both, made_after}
use Rattle.disk_files.specs.Putting.{IsPut, Makes, with_file}

-- one change more
pub makes_more : (first files : List NamedFile) (cs : List Change) (c : Change) → Makes first files cs → IsFormed c → MayCome files c
    → Makes first (changed files c) (cs ++ c ∷ [])
makes_more first files cs c h formed may = record {
  possible = follow_both first cs (c ∷ []) h.possible (subst (λ (fs : List NamedFile). Follow fs (c ∷ [])) h.made (formed, may, tt));
  made = ap (λ (fs : List NamedFile). changed fs c) h.made ∙ sym (files_after-append first cs (c ∷ []));
}

-- what possible changes made stays such after more of them
pub still_made : (old new : List NamedFile) (cs : List Change) → IsMade old → Makes old new cs → IsMade new
still_made old new cs made h = subst IsMade (sym h.made) (made_after old cs made h.possible)

-- each of them is formed
all_formed : (files : List NamedFile) (cs : List Change) → Follow files cs → AllByRecursion IsFormed cs
all_formed files [] h = tt
all_formed files (c ∷ cs) h = (h.0, all_formed (changed files c) cs h.2)

pub formed : (old new : List NamedFile) (cs : List Change) → Makes old new cs → AllByRecursion IsFormed cs
formed old new cs h = all_formed old cs h.possible

-- a group has all of them where they are few
commits : (st : Storage) (cs : List Change) (files : List NamedFile) (b : Bool) → length cs ≤ 64 → st.committed ≡ 0
    → (if b then group st (group_of cs) else checkpoint st (length cs) (rebuild files)).next_committed ≡ length cs
unfolding group_of
commits st cs files true few none = ap (λ (n : ℕ). n + length (take 64 cs)) none ∙ (let all : take 64 cs ≡ cs = take_all 64 cs few in let e = ap (λ (l : List Change). length l) all in omega arith)
commits st cs files false few none = omega arith

all_committed : (disk : List ℕ) (gate : ℕ) (cs : List Change) (files : List NamedFile) → length cs ≤ 64
    → (cut (first_storage disk gate) cs files).next_committed ≡ length cs
all_committed disk gate [] files few = refl
all_committed disk gate (c ∷ cs) files few =
    commits (first_storage disk gate) (c ∷ cs) files (fits (first_storage disk gate) (group_of (c ∷ cs))) few refl

pub is_put : (disk name bytes : List ℕ) (gate : ℕ) (files new : List NamedFile) (cs : List Change) (storage : Storage)
    → IsHeldTo disk gate files → Makes files new cs → new ≡ with_file files name bytes → storage ≡ cut (first_storage disk gate) cs new → length cs ≤ 64
    → IsPut disk name bytes storage
is_put disk name bytes gate files new cs storage held makes is begun few = record {
  gate = gate;
  files = files;
  changes = cs;
  held = held;
  makes = subst (λ (fs : List NamedFile). Makes files fs cs) is makes;
  begun = begun ∙ ap (λ (fs : List NamedFile). cut (first_storage disk gate) cs fs) is;
  all = ap (λ (st : Storage). st.next_committed) begun ∙ all_committed disk gate cs new few;
}
