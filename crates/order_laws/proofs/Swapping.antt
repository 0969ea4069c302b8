-- Two events one after the other that are independent come to the same in the other order.
use Rattle.std.proofs.Common.{◌≡◌, ℕ, ◌==◌, inl, inr, Bool, true, false, List, [], ◌∷◌, ◌++◌, append-nil, Option, Some, None, refl, sym, ap, subst, ◌∙◌}
use Rattle.std.specs.Prelude.{if◌then◌else◌}
use Rattle.std.specs.List.{AllByRecursion}
use Rattle.std.proofs.lemmas.Bool.{eqb-true, ne_eqb, eqb-false, false≢true, or_parts, or_cases}
use Rattle.kernel_model.specs.Entries.{Entry, Item, is_same, is_among, meets}
use Rattle.kernel_model.specs.Limits.{AreNumbered}
use Rattle.kernel_model.specs.Shown.{bytes_for}
use Rattle.kernel_model.specs.State.{SyncState}
use Rattle.kernel_model.specs.Steps.{step}
use Rattle.kernel_model.specs.declared.carrier.Carrier.{Carrier}
use Rattle.kernel_model.specs.declared.carrier.Carrier.TheVariants.{Proc, File, Names, Pipe, Pipes, Tasks, Tape}
use Rattle.kernel_model.specs.declared.effect.Output.{Output}
use Rattle.kernel_model.specs.declared.event.Event.{Event}
use Rattle.kernel_laws.specs.Agreement.{Agree, AgreeOn, IsAlike}
use Rattle.kernel_laws.proofs.Coned.{agree_all}
use Rattle.kernel_laws.proofs.Frames.{agree_trans, step_keeps_but}
use Rattle.kernel_laws.proofs.ConeLaws.{is_framed}
use Rattle.kernel_model.proofs.Meets.{same_is}
use Rattle.kernel_laws.proofs.Selected.{passed, step_numbered}
use Rattle.kernel_laws.proofs.Written.{step_reads}
use Rattle.order_laws.specs.Moves.{label_of, is_one_terminal}
use Rattle.order_laws.proofs.SameStates.{same_state}

-- ---- carriers
agree_sym : (s t : SyncState) (c : Carrier) → AgreeOn s t c → AgreeOn t s c
agree_sym s t (Proc p) a = sym a
agree_sym s t (File n) a = sym a
agree_sym s t Names a = sym a
agree_sym s t (Pipe k) a = sym a
agree_sym s t Pipes a = sym a
agree_sym s t Tasks a = sym a
agree_sym s t (Tape k) a = sym a

pub agree_syms : (s t : SyncState) (cs : List Carrier) → Agree s t cs → Agree t s cs
agree_syms s t [] a = tt
agree_syms s t (c ∷ cs) a = (agree_sym s t c a.0, agree_syms s t cs a.1)

pub at_one : (P : Carrier → Type 0) (c : Carrier) (rs : List Carrier) → AllByRecursion P rs → is_among c rs ≡ true → P c
at_one P c [] a h = absurd (false≢true h)
at_one P c (r ∷ rs) a h = elim (or_cases (is_same c r) (is_among c rs) h) as (λ _. P c) [
  | inl is ↦ subst P (sym (same_is c r is)) a.0
  | inr is ↦ at_one P c rs a.1 is
]

-- a carrier that is written, where nothing that is written is read
pub not_read : (ws rs : List Carrier) (c : Carrier) → meets ws rs ≡ false → is_among c ws ≡ true → is_among c rs ≡ false
not_read [] rs c h is = absurd (false≢true is)
not_read (w ∷ ws) rs c h is =
    let both = or_parts (is_among w rs) (meets ws rs) h in
    elim (or_cases (is_same c w) (is_among c ws) is) as (λ _. is_among c rs ≡ false) [
      | inl one ↦ subst (λ (x : Carrier). is_among x rs ≡ false) (sym (same_is c w one)) both.0
      | inr more ↦ not_read ws rs c both.1 more
    ]

-- what is not read is not written
pub not_written : (ws rs : List Carrier) (c : Carrier) → AllByRecursion (λ (x : Carrier). is_among x rs ≡ true) ws → is_among c rs ≡ false → is_among c ws ≡ false
not_written ws rs c within off = elim (is_among c ws) as (λ b. is_among c ws ≡ b → b ≡ false) [
  | true ↦ λ is. absurd (false≢true (sym off ∙ at_one (λ (x : Carrier). is_among x rs ≡ true) c ws within is))
  | false ↦ λ is. refl
] refl

-- ---- labels
pub same_label : (a b : Entry) → IsAlike a b → label_of a ≡ label_of b
same_label a b h =
    ap (λ (n : ℕ). record (label_of a) { process = n }) h.process
    ∙ ap (λ (cs : List Carrier). record { process = b.process; reads = cs; writes = a.writes; output = a.output; item = a.item; child = a.child }) h.reads
    ∙ ap (λ (cs : List Carrier). record { process = b.process; reads = b.reads; writes = cs; output = a.output; item = a.item; child = a.child }) h.writes
    ∙ ap (λ (o : Option Output). record { process = b.process; reads = b.reads; writes = b.writes; output = o; item = a.item; child = a.child }) h.output
    ∙ ap (λ (o : Option Item). record { process = b.process; reads = b.reads; writes = b.writes; output = b.output; item = o; child = a.child }) h.item
    ∙ ap (λ (o : Option ℕ). record { process = b.process; reads = b.reads; writes = b.writes; output = b.output; item = b.item; child = o }) h.child

-- ---- the states
module _ (s : SyncState) (e f : Event) (are : AreNumbered s.files)
    (off : meets (step s e).entry.writes (step (step s e).state f).entry.reads ≡ false)
    (back : meets (step (step s e).state f).entry.writes (step s e).entry.reads ≡ false) where
  abbrev pub one : SyncState
  one = (step s e).state

  abbrev pub other : SyncState
  other = (step s f).state

  one_numbered : AreNumbered one.files
  one_numbered = step_numbered s e are

  other_numbered : AreNumbered other.files
  other_numbered = step_numbered s f are

  -- f reads nothing that e wrote
  f_reads : Agree one s (step one f).entry.reads
  f_reads = passed s s e (step one f).entry.reads are off (agree_all s (step one f).entry.reads)

  pub f_alike : IsAlike (step one f).entry (step s f).entry
  f_alike = (is_framed one s f one_numbered are).does f_reads

  -- and e reads nothing that f writes
  e_reads : Agree s other (step s e).entry.reads
  e_reads = agree_syms other s (step s e).entry.reads
      (passed s s f (step s e).entry.reads are (ap (λ (ws : List Carrier). meets ws (step s e).entry.reads) (sym f_alike.writes) ∙ back) (agree_all s (step s e).entry.reads))

  pub e_alike : IsAlike (step s e).entry (step other e).entry
  e_alike = (is_framed s other e are other_numbered).does e_reads

  agree_last : (c : Carrier) → AgreeOn (step one f).state (step other e).state c
  agree_last c = elim (is_among c (step one f).entry.writes) as (λ b. is_among c (step one f).entry.writes ≡ b → AgreeOn (step one f).state (step other e).state c) [
    | true ↦ λ is.
        let unread = not_read (step one f).entry.writes (step s e).entry.reads c back is in
        let unwritten = ap (λ (ws : List Carrier). is_among c ws) (sym e_alike.writes) ∙ not_written (step s e).entry.writes (step s e).entry.reads c (step_reads s e) unread in
        agree_trans (step one f).state other (step other e).state c
        (at_one (AgreeOn (step one f).state other) c (step one f).entry.writes ((is_framed one s f one_numbered are).written f_reads) is)
        (agree_sym (step other e).state other c (step_keeps_but other e other_numbered c unwritten))
    | false ↦ λ is.
        let unwritten = ap (λ (ws : List Carrier). is_among c ws) (sym f_alike.writes) ∙ is in
        agree_trans (step one f).state one (step other e).state c
        (step_keeps_but one f one_numbered c is)
        ((is_framed s other e are other_numbered).kept e_reads c (agree_sym other s c (step_keeps_but s f are c unwritten)))
  ] refl

  pub same_last : (step other e).state ≡ (step one f).state
  same_last = sym (same_state (step one f).state (step other e).state (step_numbered one f one_numbered) (step_numbered other e other_numbered) agree_last)

-- ---- texts
-- what two outputs that are not for one terminal write to a terminal, in both orders
pub other_text : (a b : Option Output) → is_one_terminal a b ≡ false → (t : ℕ) → bytes_for t a ++ bytes_for t b ≡ bytes_for t b ++ bytes_for t a
other_text None b off t = sym (append-nil (bytes_for t b))
other_text (Some a) None off t = append-nil (bytes_for t (Some a))
other_text (Some a) (Some b) off t = elim (a.terminal == t) as (λ x. (a.terminal == t) ≡ x
    → (if x then a.bytes else []) ++ bytes_for t (Some b) ≡ bytes_for t (Some b) ++ (if x then a.bytes else [])) [
      | true ↦ λ is.
          let not_it : (b.terminal == t) ≡ false = ne_eqb b.terminal t (λ (k : b.terminal ≡ t). eqb-false a.terminal b.terminal off (eqb-true a.terminal t is ∙ sym k)) in
          ap (λ (x : Bool). a.bytes ++ (if x then b.bytes else [])) not_it ∙ append-nil a.bytes
          ∙ sym (ap (λ (x : Bool). (if x then b.bytes else []) ++ a.bytes) not_it)
      | false ↦ λ is. sym (append-nil (bytes_for t (Some b)))
    ] refl
