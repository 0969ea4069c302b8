-- The turns of the thread that commits.
use Rattle.std.proofs.Common.{◌≡◌, ℕ, Bool, true, false, Option, Some, None, option_map, refl, List, [], ◌∷◌, ◌++◌, Result, Ok, Err, sym, ap, subst, ◌∙◌}
use Rattle.kernel_model.specs.declared.answer.Refused.{Refused}
use Rattle.durable_disk.specs.FileRecords.{FileRecord}
use Rattle.durable_disk.specs.Stages.{Staging, staging, completes, call_of_end, left_after}
use Rattle.durable_disk.specs.declared.core_call.CoreCall.{CoreCall}
use Rattle.run_threads.specs.declared.note.Note.{Note}
use Rattle.run_threads.specs.CoreCalls.{calls_in}
use Rattle.run_threads.specs.Committing.{Committing, CompletesFirst, TellsNothing, at_stage, Completes, CommitsStages, DoesStages}
use Rattle.run_threads.specs.Committing.CommitsStages.{none, more}

joined : {a b c : Staging} → CommitsStages a b → CommitsStages b c → CommitsStages a c
joined s none = s
joined s (more c result t last) = more c result (joined s t) last

-- ---- without a file
not_both : (o : Option FileRecord) (f : FileRecord) → o ≡ None → o ≡ Some f → ⊥
not_both o f gone there = let both : None ≡ Some f = sym gone ∙ there in cc

pub no_record : {A : Type 0} (record_of : A → FileRecord) (o : Option A) → ((x : A) → o ≡ Some x → ⊥) → option_map record_of o ≡ None
no_record record_of None gone = refl
no_record record_of (Some x) gone = absurd (gone x refl)

without_file : (a b : Committing) (result : Result Bool Refused) → a.file ≡ None → CompletesFirst a b result → Completes a b result
without_file a b result gone h = (λ f is. absurd (not_both a.file f gone is), λ _. h)

abbrev committing : List Note → Option FileRecord → ℕ → Committing
committing notes file left = record { notes = notes; file = file; left = left }

module _ (old asked new : List Note) (file : Option FileRecord) (left left_then : ℕ) (gone : file ≡ None) (same : calls_in asked ≡ calls_in old) where
  -- no write is in flight
  pub nothing_first : Completes (record { notes = old; file = file; left = left }) (record { notes = asked; file = file; left = left }) (let r : Result Bool Refused = Ok false in r)
  nothing_first = without_file (committing old file left) (committing asked file left) (Ok false) gone (same, refl)

  -- the core refuses what it is told
  pub refused_first : (why : Refused) → calls_in new ≡ calls_in asked
      → Completes (record { notes = old; file = file; left = left }) (record { notes = new; file = file; left = left_then }) (Err why)
  refused_first why untold = without_file (committing old file left) (committing new file left_then) (Err why) gone (untold ∙ same)

  -- the core is told how the first write ends
  pub told_first : (at : ℕ) (b : Bool) → calls_in new ≡ calls_in asked ++ call_of_end b at ∷ [] → b ≡ completes true left → left_then ≡ left_after true left
      → Completes (record { notes = old; file = file; left = left }) (record { notes = new; file = file; left = left_then }) (let r : Result Bool Refused = Ok true in r)
  told_first at b told by less =
      without_file (committing old file left) (committing new file left_then) (Ok true) gone (at, told ∙ (λ i. same i ++ call_of_end (by i) at ∷ []), less)

-- ---- stages
pub no_stage : (t : Committing) → DoesStages t t
no_stage t = λ f is. (f, is, none)

pub and_then : (a b c : Committing) → DoesStages a b → DoesStages b c → DoesStages a c
and_then a b c h k = λ f is. let s = h f is in let t = k s.0 s.1 in (t.0, t.1, joined s.2 t.2)

pub one_stage : (a b : Committing) (result : Result Bool Refused) → Completes a b result → DoesStages a b
one_stage a b result h = λ f is. let s = h.0 f is in (s.0, s.1, more (at_stage b s.0) result none s.2)

pub after : (a m b : Committing) (result : Result Bool Refused) → m ≡ a → Completes m b result → DoesStages a b
after a m b result same h = subst (λ (t : Committing). DoesStages t b) same (one_stage m b result h)

pub no_write : (a b : Committing) → TellsNothing a b → DoesStages a b
no_write a b same = λ f is.
    let here : at_stage b f ≡ at_stage a f =
    ap (λ (cs : List CoreCall). staging cs f b.left) same.0 ∙ ap (staging (calls_in a.notes) f) same.2 in
    (f, same.1 ∙ is, subst (CommitsStages (at_stage a f)) (sym here) none)
