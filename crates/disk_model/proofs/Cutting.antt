-- What a Cut leaves as it is.
use Rattle.std.proofs.Common.{◌≡◌, Bool, true, false, List, [], ◌∷◌, length, refl}
use Rattle.std.specs.Prelude.{if◌then◌else◌}
use Rattle.disk_model.specs.Rebuild.{rebuild}
use Rattle.disk_model.specs.Storage.{Storage, cut, fits, group, group_of, checkpoint, is_quiet}
use Rattle.disk_model.specs.declared.change.Change.{Change}
use Rattle.disk_model.specs.declared.change.NamedFile.{NamedFile}

-- as many changes are committed as before
pub cut-committed : (st : Storage) (cs : List Change) (files : List NamedFile) → (cut st cs files).committed ≡ st.committed
cut-committed st [] files = refl
cut-committed st (c ∷ cs) files = by (is_quiet st.device) (fits st (group_of (c ∷ cs)))
  where
    by : (quiet fit : Bool) → (if quiet then (if fit then group st (group_of (c ∷ cs)) else checkpoint st (length (c ∷ cs)) (rebuild files)) else st).committed ≡ st.committed
    by true true = refl
    by true false = refl
    by false fit = refl
