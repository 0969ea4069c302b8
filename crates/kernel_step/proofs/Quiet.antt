-- Events that change no file, print nothing and tell nothing.
use Rattle.std.proofs.Common.{◌≡◌, ℕ, ◌+◌, ◌==◌, ◌&&◌, Bool, true, false, if◌then◌else◌, List, [], ◌∷◌, ◌++◌, Option, None, option_to_list, refl, sym, ap, subst, ◌∙◌, arith, length, length-append}
use Rattle.std.specs.List.{AllByRecursion, fold}
use Rattle.std.proofs.lemmas.Bool.{ne_eqb}
use Rattle.disk_model.specs.Files.{IsFormed, IsMade}
use Rattle.disk_model.specs.declared.change.Change.{Change}
use Rattle.disk_model.specs.Numbers.{Numbered}
use Rattle.kernel_model.specs.Entries.{Entry, Item, Got}
use Rattle.kernel_model.specs.Loans.{waits_after, is_waiting}
use Rattle.kernel_model.specs.Paths.{changes_in_log, with_change}
use Rattle.kernel_model.specs.Shown.{given_by, each_from, bytes_for, printed, items_for, is_made, told}
use Rattle.kernel_model.specs.Steps.{own_entry, disk_entry, zero_reply}
use Rattle.kernel_model.specs.World.{World}
use Rattle.kernel_model.proofs.Runs.{each_from-append, append-nil, told-entry}
use Rattle.kernel_model.specs.declared.effect.Output.{Output}
use Rattle.held_output.specs.Withheld.{Withheld}
use Rattle.kernel_step.specs.Seen.{Withholds, AreScreens}
use Rattle.kernel_step.specs.Mirrors.{AreChanges}
use Rattle.kernel_step.specs.declared.system.System.{System}
use Rattle.kernel_step.proofs.EnterLists.{withholds-same}

-- the event changes no file, prints nothing, tells nothing and makes no process
pub record IsSilent (e : Entry) : Type 0 where
  pub change : e.change ≡ None
  pub output : e.output ≡ None
  pub item : e.item ≡ None
  pub child : e.child ≡ None

pub own-silent : (pid : ℕ) → IsSilent (own_entry pid)
own-silent pid = record { change = refl; output = refl; item = refl; child = refl }

pub disk-silent : IsSilent disk_entry
disk-silent = record { change = refl; output = refl; item = refl; child = refl }

-- an event that gives nothing
pub each-nothing : {A : Type 0} (f : Entry → List A) (log : List Entry) (e : Entry) → f e ≡ [] → each_from f [] (log ++ e ∷ []) ≡ each_from f [] log
each-nothing f log e h =
    each_from-append f [] log e
    ∙ ap (λ xs. each_from f [] log ++ given_by log e xs) h
    ∙ append-nil (each_from f [] log)

if-nil : {A : Type 0} (b : Bool) (xs : List A) → xs ≡ [] → (if b then xs else []) ≡ []
if-nil true xs h = h
if-nil false xs h = refl

pub printed-quiet : (t : ℕ) (log : List Entry) (e : Entry) → e.output ≡ None → printed t (log ++ e ∷ []) ≡ printed t log
printed-quiet t log e h = each-nothing (λ (d : Entry). bytes_for t d.output) log e (ap (λ (o : Option Output). bytes_for t o) h)

-- what a process was told after an event that did not make it, and after the one that did
pub told-own : (p : ℕ) (log : List Entry) (e : Entry) → is_made e.child p ≡ false → told p (log ++ e ∷ []) ≡ told p log ++ given_by log e (items_for p e)
told-own p log e h =
    told-entry p log e
    ∙ ap (λ (b : Bool). if b then told e.process log ++ given_by log e (Got zero_reply ∷ []) else told p log ++ given_by log e (items_for p e)) h

pub told-made : (p : ℕ) (log : List Entry) (e : Entry) → is_made e.child p ≡ true
    → told p (log ++ e ∷ []) ≡ told e.process log ++ given_by log e (Got zero_reply ∷ [])
told-made p log e h =
    told-entry p log e
    ∙ ap (λ (b : Bool). if b then told e.process log ++ given_by log e (Got zero_reply ∷ []) else told p log ++ given_by log e (items_for p e)) h

pub told-quiet : (p : ℕ) (log : List Entry) (e : Entry) → IsSilent e → told p (log ++ e ∷ []) ≡ told p log
told-quiet p log e h =
    told-own p log e (ap (λ (o : Option ℕ). is_made o p) h.child)
    ∙ ap (λ (xs : List Item). told p log ++ given_by log e xs) (if-nil (e.process == p) (option_to_list e.item) (ap (λ (o : Option Item). option_to_list o) h.item))
    ∙ append-nil (told p log)

pub changes-quiet : (log : List Entry) (e : Entry) → e.change ≡ None → changes_in_log (log ++ e ∷ []) ≡ changes_in_log log
changes-quiet [] e h = ap (λ (o : Option Change). with_change o []) h
changes-quiet (x ∷ xs) e h = ap (λ cs. with_change x.change cs) (changes-quiet xs e h)

-- the screens stay
pub screens-quiet : (c : ℕ) (log : List Entry) (e : Entry) (ss : List (Withheld ℕ)) → IsSilent e → AreScreens c log ss → AreScreens c (log ++ e ∷ []) ss
screens-quiet c log e ss silent h = record {
  count = h.count;
  each = λ t s there. withholds-same c (printed t log) (printed t (log ++ e ∷ [])) s (printed-quiet t log e silent.output) (h.each t s there);
}

-- a trace stays
pub trace-quiet : (c : ℕ) (log : List Entry) (e : Entry) (p : ℕ) (t : Withheld Item) → IsSilent e → Withholds c (told p log) t
    → Withholds c (told p (log ++ e ∷ [])) t
trace-quiet c log e p t silent h = withholds-same c (told p log) (told p (log ++ e ∷ [])) t (told-quiet p log e silent) h

-- the changes stay
pub changes-part : (w v : World) (s s' : System) (e : Entry) → IsSilent e → v.log ≡ w.log ++ e ∷ [] → v.sync.files ≡ w.sync.files
    → s'.changes.items ≡ s.changes.items → s'.files ≡ s.files → AreChanges w s → AreChanges v s'
changes-part w v s s' e silent log files same_changes same_files h =
    let same : changes_in_log v.log ≡ changes_in_log w.log = ap (λ (l : List Entry). changes_in_log l) log ∙ changes-quiet w.log e silent.change in
    record {
      changes = same_changes ∙ h.changes ∙ sym same;
      formed = subst (λ (cs : List Change). AllByRecursion IsFormed cs) (sym same) h.formed;
      files = same_files ∙ h.files ∙ sym files;
      made = subst (λ (fs : Numbered). IsMade fs.living) (sym files) h.made;
      fresh = omega (arith, h.fresh, ap (λ (fs : Numbered). fs.made) files, ap (λ (l : List Entry). length l) log, length-append w.log (e ∷ []));
    }

-- nobody begins to wait
fold-snoc : {A B : Type 0} (f : A → B → A) (a : A) (xs : List B) (x : B) → fold f a (xs ++ x ∷ []) ≡ f (fold f a xs) x
fold-snoc f a [] x = refl
fold-snoc f a (y ∷ ys) x = fold-snoc f (f a y) ys x

pub waiting-more : (p : ℕ) (log : List Entry) (e : Entry) → is_waiting p (log ++ e ∷ []) ≡ waits_after p (is_waiting p log) e
waiting-more p log e = fold-snoc (waits_after p) false log e

if-and-false : (a b : Bool) → (if a && false then true else b) ≡ b
if-and-false true b = refl
if-and-false false b = refl

pub waits-own : (p pid : ℕ) (log : List Entry) → is_waiting p (log ++ own_entry pid ∷ []) ≡ is_waiting p log
waits-own p pid log = waiting-more p log (own_entry pid) ∙ if-and-false (pid == p) (is_waiting p log)

if-false : (a b : Bool) → a ≡ false → (if a && true then true else b) ≡ b
if-false true b h = cc
if-false false b h = refl

pub waits-disk : (place : ℕ) (log : List Entry) → is_waiting (place + 1) (log ++ disk_entry ∷ []) ≡ is_waiting (place + 1) log
waits-disk place log =
    waiting-more (place + 1) log disk_entry
    ∙ if-false (0 == (place + 1)) (is_waiting (place + 1) log) (ne_eqb 0 (place + 1) (λ h. absurd (omega arith)))
