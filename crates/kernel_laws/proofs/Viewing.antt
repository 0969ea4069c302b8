-- Runs that are alike but for quiet events are the same to their users.
use Rattle.std.proofs.Common.{◌≡◌, List, sym, ap, subst, ◌∙◌}
use Rattle.disk_model.specs.Storage.{Storage}
use Rattle.kernel_model.specs.Entries.{Entry}
use Rattle.kernel_model.specs.World.{World}
use Rattle.kernel_model.specs.Shown.{Given, printed, told, released}
use Rattle.kernel_model.specs.Views.{SameGiven, SameView}
use Rattle.kernel_laws.proofs.Quiet.{printed_told, told_told, telling}
use Rattle.kernel_laws.proofs.Swap.{Alike, changes_alike}

-- what two lists of events give is the same where it is the same without the quiet ones
given_alike : {A : Type 0} (f : List Entry → List (Given A)) → ((log : List Entry) → SameGiven (f log) (f (telling log)))
    → (xs ys : List Entry) → telling xs ≡ telling ys → SameGiven (f xs) (f ys)
given_alike {A} f quiet xs ys e =
    let rest : SameGiven (f (telling xs)) (f ys) = subst (λ (log : List Entry). SameGiven (f log) (f ys)) (sym e) (record {
      whole = sym (quiet ys).whole;
      prefixes = λ c. sym ((quiet ys).prefixes c);
    }) in
    record {
      whole = (quiet xs).whole ∙ rest.whole;
      prefixes = λ c. (quiet xs).prefixes c ∙ rest.prefixes c;
    }

pub same_view : (a b : World) → Alike a b → SameView a b
same_view a b h = record {
  sync = h.sync;
  storage = h.storage;
  changes = changes_alike a.log b.log h.log;
  same_printed = λ t. given_alike (printed t) (printed_told t) a.log b.log h.log;
  same_told = λ p. given_alike (told p) (told_told p) a.log b.log h.log;
  same_shown = λ t.
      ap (λ (st : Storage). released st.committed (printed t a.log)) h.storage
      ∙ (given_alike (printed t) (printed_told t) a.log b.log h.log).prefixes b.storage.committed;
  same_handed = λ p.
      ap (λ (st : Storage). released st.committed (told p a.log)) h.storage
      ∙ (given_alike (told p) (told_told p) a.log b.log h.log).prefixes b.storage.committed;
}
