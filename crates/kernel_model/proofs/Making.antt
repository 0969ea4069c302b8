-- Each edit of a file that a row makes becomes a change.
use Rattle.std.proofs.Common.{◌≡◌, ℕ, ◌==◌, true, List, Option, Some, None, IfSome, is_some, refl, sym, ◌∙◌, subst}
use Rattle.std.specs.Prelude.{option_map}
use Rattle.std.specs.List.{position}
use Rattle.std.specs.Str.{bytes_eq}
use Rattle.std.proofs.lemmas.Iterator.Adapters.{position_from-zero}
use Rattle.disk_model.specs.Numbers.{Numbered, at_place, lives, place_of}
use Rattle.disk_model.specs.declared.change.Change.{Change}
use Rattle.disk_model.specs.declared.change.Change.TheVariants as change
use Rattle.machine_model.specs.declared.stop.Stop.{Stop}
use Rattle.kernel_model.specs.Requests.{request_of}
use Rattle.kernel_model.specs.Rows.{CallEffect, directory, names_of, number_named}
use Rattle.kernel_model.specs.State.{Process, Shared}
use Rattle.kernel_model.specs.Steps.{change_by, effect_at}
use Rattle.kernel_model.specs.declared.descriptor.Descriptor.{Descriptor}
use Rattle.kernel_model.specs.declared.request.Request.{Request}
use Rattle.kernel_model.proofs.Cases.{OfEach, of_effect}
use Rattle.kernel_model.proofs.Gone.{none_number}
use Rattle.kernel_model.proofs.Names.{at_some}

-- there is a change where there is an edit
abbrev pub Makes : Numbered → CallEffect → Type 0
Makes files e = is_some (change_by files e.edit) ≡ is_some e.edit

-- a file that lives has a place
lives_placed : (files : Numbered) (number : ℕ) (f : ℕ → Change) → lives files number ≡ true → is_some (option_map f (place_of files number)) ≡ true
lives_placed files number f alive = by (place_of files number) alive
  where
    by : (o : Option ℕ) → is_some (at_place files.living o) ≡ true → is_some (option_map f o) ≡ true
    by None h = absurd (let no : ⊥ = cc in no)
    by (Some place) h = refl

-- so has one that has a name
named_placed : (files : Numbered) (name : List ℕ) (number : ℕ) (f : ℕ → Change) → number_named (directory files) name ≡ Some number
    → is_some (option_map f (place_of files number)) ≡ true
named_placed files name number f named = by (place_of files number) refl
  where
    by : (o : Option ℕ) → place_of files number ≡ o → is_some (option_map f o) ≡ true
    by None is =
        let found = at_some files.numbers (position (λ other. bytes_eq other name) (names_of files.living)) number named in
        absurd (none_number 0 files.numbers number found.0 (sym (position_from-zero (λ (m : ℕ). m == number) files.numbers) ∙ is) found.2)
    by (Some place) is = refl

each_makes : (s : Shared) (ds : List (Option Descriptor)) (children : List ℕ) (r : Request) → OfEach (Makes s.files) s ds children r
each_makes s ds children r = record {
  told = λ _ _ _. refl;
  waits = λ _ _. refl;
  shown = λ _ _. refl;
  filed = λ fd n file offset bytes is goes. lives_placed s.files file (λ (place : ℕ). change.Write place offset bytes) goes.alive;
  put = λ _ _ _ _ _ _ _ _. refl;
  played = λ _ _ _ _ _ _ _. refl;
  copied = λ _ _ _ _ _ _ _ _ _. refl;
  taken = λ _ _ _ _ _ _ _. refl;
  there = λ _ _ _ _ _ _. refl;
  emptied = λ fd file name free found. named_placed s.files name file change.Empty found;
  made = λ _ _ _ _ _ _ _. refl;
  unlinked = λ file n name is found. named_placed s.files name file change.Remove found;
  renamed = λ file n m names is new. named_placed s.files _ file (λ (place : ℕ). change.Rename place _) new.named;
  loaded = λ _ _ _ _ _ _ _ _. refl;
  closed = λ _ _ _. refl;
  moved = λ _ _ _ _ _ _. refl;
  piped = λ _ _ _ _ _ _ _. refl;
  forked = λ _. refl;
  collected = λ _ _ _ _. refl;
  ended = λ _. refl;
}

pub effect_makes : (s : Shared) (pid : ℕ) (p : Process) (stop : Option Stop) (e : CallEffect) → effect_at s pid p stop ≡ Some e
    → is_some (change_by s.files e.edit) ≡ is_some e.edit
effect_makes s pid p stop e is =
    subst (λ (o : Option CallEffect). IfSome o (Makes s.files)) is (of_effect (Makes s.files) s pid p stop (each_makes s p.descriptors p.children (request_of p.state)))
