-- What may be seen of a run from outside.
use Rattle.std.specs.Prelude.{ℕ, ◌==◌, Bool, false, if◌then◌else◌, List, [], ◌∷◌, ◌++◌, map, Option, Some, None, option_to_list}
use Rattle.machine_model.specs.declared.reply.Reply.{Reply}
use Rattle.kernel_model.specs.Entries.{Entry, Item, Got, End}
use Rattle.kernel_model.specs.Paths.{is_durable}
use Rattle.kernel_model.specs.Steps.{zero_reply}
use Rattle.kernel_model.specs.World.{World}
use Rattle.kernel_model.specs.declared.effect.Output.{Output}

-- something that an event gave, with the entry of the event and the entries before it
pub record Given (A : Type 0) : Type 0 where
  pub what : A
  pub past : List Entry
  pub entry : Entry

-- each of these, given by the event
abbrev pub given_by : {A : Type 0} → List Entry → Entry → List A → List (Given A)
given_by past e xs = map (λ x. record { what = x; past = past; entry = e }) xs

-- what each of these entries, which come after `past`, gives by f
abbrev pub each_from : {A : Type 0} → (Entry → List A) → List Entry → List Entry → List (Given A)
each_from f past [] = []
each_from f past (e ∷ es) = given_by past e (f e) ++ each_from f (past ++ e ∷ []) es

-- the bytes of an output that are for terminal t
abbrev pub bytes_for : ℕ → Option Output → List ℕ
bytes_for t None = []
bytes_for t (Some out) = if out.terminal == t then out.bytes else []

-- all bytes written to terminal t, each with its event
abbrev pub printed : ℕ → List Entry → List (Given ℕ)
printed t log = each_from (λ e. bytes_for t e.output) [] log

-- what an event tells process p by its call
abbrev pub items_for : ℕ → Entry → List Item
items_for p e = if e.process == p then option_to_list e.item else []

-- an event that made this process, if it made one, made process p
abbrev pub is_made : Option ℕ → ℕ → Bool
is_made None p = false
is_made (Some child) p = child == p

-- What process p was told after one more event, where `before` is what each process was told before it. A process that the
-- event made was told what its parent was told before, and then 0.
abbrev pub told_with : (ℕ → List (Given Item)) → List Entry → Entry → ℕ → List (Given Item)
told_with before past e p =
    if is_made e.child p then before e.process ++ given_by past e (Got zero_reply ∷ [])
    else before p ++ given_by past e (items_for p e)

-- what each process was told by these entries, which come after `past`, where `before` is what each was told by those
abbrev pub told_from : (ℕ → List (Given Item)) → List Entry → List Entry → ℕ → List (Given Item)
told_from before past [] = before
told_from before past (e ∷ es) = told_from (told_with before past e) (past ++ e ∷ []) es

-- all items that process p was told, its parent's before it was made among them, each with its event
abbrev pub told : ℕ → List Entry → List (Given Item)
told p log = told_from (λ q. []) [] log p

-- the longest prefix whose elements pass
abbrev pub prefix : {A : Type 0} → (A → Bool) → List A → List A
prefix test [] = []
prefix test (x ∷ xs) = if test x then x ∷ prefix test xs else []

-- What may be seen of this where c changes are committed: the longest prefix whose events rest on those alone.
abbrev pub released : {A : Type 0} → ℕ → List (Given A) → List A
released c xs = map (λ x. x.what) (prefix (λ x. is_durable c x.past x.entry) xs)

-- the bytes that terminal t shows
abbrev pub shown : World → ℕ → List ℕ
shown w t = released w.storage.committed (printed t w.log)

-- the items of process p that are handed out
abbrev pub handed : World → ℕ → List Item
handed w p = released w.storage.committed (told p w.log)

-- the replies among items
abbrev pub replies_in : List Item → List Reply
replies_in [] = []
replies_in (Got r ∷ items) = r ∷ replies_in items
replies_in (End status ∷ items) = replies_in items

-- the status with which a process ended, if that is among the items
abbrev pub end_in : List Item → Option ℕ
end_in [] = None
end_in (Got r ∷ items) = end_in items
end_in (End status ∷ items) = Some status
