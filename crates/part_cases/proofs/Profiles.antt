-- A program of one segment meets the profile.
use Rattle.std.proofs.Common.{suc, zero, ◌≡◌, ℕ, ◌%◌, ◌<◌, ◌≤◌, Bool, true, List, [], ◌∷◌, length, refl, sym, subst, arith}
use Rattle.std.specs.Prelude.{All}
use Rattle.machine_model.specs.declared.image.Segment.{Segment}
use Rattle.machine_model.specs.Images.{IsLoadable, IsProfile}

All-one : {X : Type 0} (P : X → Type 0) (x : X) → P x → All P (x ∷ [])
All-one P x p zero d lt = p
All-one P x p (suc k) d lt = absurd (omega (arith, lt))

pub IsProfile-one : (at size : ℕ) (write : Bool) (bytes : List ℕ) (segments : List Segment) → segments ≡ record { vaddr = at; memsz = size; rights = record { read = true; write = write; execute = true }; bytes = bytes } ∷ []
    → 0 < size → size ≤ 4096 → length bytes ≤ size → at % 4 ≡ 0 → 0x10000 ≤ at → at ≤ 0x20000 → IsProfile (record { entry = at; segments = segments })
IsProfile-one at size write bytes segments is some few within aligned above below =
    subst (λ (list : List Segment). IsProfile (record { entry = at; segments = list })) (sym is)
    (record {
      some = omega arith;
      few = omega arith;
      loadable = All-one IsLoadable _ (record { present = some; within = within; some_right = refl; above = above; below = omega (arith, few, below) });
      ascending = (omega arith, tt);
      small = omega (arith, some, few);
      aligned = aligned;
      in_code = (0, _, omega arith, refl, (refl, omega arith, omega (arith, some)));
    })
