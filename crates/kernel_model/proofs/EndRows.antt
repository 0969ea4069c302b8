-- Each row of the table of calls keeps the number of each end and the number of descriptors that stand for it in step.
use Rattle.std.proofs.Common.{◌≡◌, ℕ, ◌+◌, ◌<◌, ◌≤◌, ◌==◌, Bool, true, false, List, [], ◌∷◌, ◌++◌, ◌⊎◌, inl, inr, length, slice_get, slice_set, Option, Some, None, refl, ap, arith}
use Rattle.std.specs.Prelude.{if◌then◌else◌}
use Rattle.std.specs.Int.{w32, to_le_bytes}
use Rattle.kernel_model.specs.Ends.{count_among}
use Rattle.kernel_model.specs.Rows.{CallEffect, number, with_bytes, ends_of, row, row_end, row_close, pipe_made, free_descriptor, descriptor_at}
use Rattle.kernel_model.specs.State.{Shared, PipeState, all_stepped}
use Rattle.kernel_model.specs.Steps.{set_slots}
use Rattle.kernel_model.specs.declared.descriptor.Descriptor.{Descriptor}
use Rattle.kernel_model.specs.declared.descriptor.Descriptor.TheVariants as descriptor
use Rattle.kernel_model.specs.declared.descriptor.PipeEnd.{PipeEnd}
use Rattle.kernel_model.specs.declared.descriptor.PipeEnd.TheVariants as pipe_end
use Rattle.kernel_model.specs.declared.request.Request.{Request}
use Rattle.kernel_model.specs.declared.request.Verdict.{Verdict}
use Rattle.kernel_model.specs.declared.request.Verdict.TheVariants.{Waits, Replies, Ends}
use Rattle.kernel_model.proofs.Cases.{child_made, OfEach, of_row}
use Rattle.kernel_model.proofs.Ends.{weight, count_ends_of, among_set, among_kept, descriptor_there, free_is, IsAfter, after_is, free_still, number_at, pipe_of, put_number, take_number, open_number, below_new, drops_number, adds_number, are_there}

-- the caller goes on
abbrev pub GoesOn : Verdict → Type 0
GoesOn Waits = Unit {0}
GoesOn (Replies r) = Unit {0}
GoesOn (Ends status) = ⊥

-- how many descriptors of a process that is made stand for an end, where its parent has these
abbrev pub count_made : PipeEnd → List (Option Descriptor) → Option ℕ → ℕ
count_made f ds None = 0
count_made f ds (Some child) = count_among f ds

-- of an end, an effect on these pipes and the caller's descriptors adds as many to its number as descriptors come to stand for
-- it; and it sets no descriptor for an end of a pipe that is there
pub record InStep (f : PipeEnd) (pipes : List PipeState) (ds : List (Option Descriptor)) (e : CallEffect) : Type 0 where
  pub goes_on : GoesOn e.verdict
  pub counted : number_at f (all_stepped pipes e.pipes) + count_among f ds ≡ number_at f pipes + count_among f (set_slots ds e.slots) + count_made f ds e.child
  pub no_new : pipe_of f < length pipes → count_among f (set_slots ds e.slots) ≤ count_among f ds

bytes_go_on : (n at : ℕ) (bytes : List ℕ) → GoesOn (with_bytes n at bytes)
bytes_go_on n at [] = tt
bytes_go_on n at (b ∷ bs) = tt

one_goes_on : (b : Bool) (n at : ℕ) (bytes : List ℕ) → GoesOn (if b then number n else with_bytes n at bytes)
one_goes_on true n at bytes = tt
one_goes_on false n at bytes = bytes_go_on n at bytes

-- Below, of one end, what a call may look at and its caller's descriptors, where the pipes have at least as many of each end as
-- the caller has descriptors.
module _ (f : PipeEnd) (s : Shared) (ds : List (Option Descriptor)) (has : (g : PipeEnd) → count_among g ds ≤ number_at g s.pipes) where
  -- neither number changes
  still : (e : CallEffect) → GoesOn e.verdict → number_at f (all_stepped s.pipes e.pipes) ≡ number_at f s.pipes → count_among f (set_slots ds e.slots) ≡ count_among f ds → e.child ≡ None
      → InStep f s.pipes ds e
  still e on steps slots child = record {
    goes_on = on;
    counted = omega (arith, steps, slots, ap (count_made f ds) child);
    no_new = λ there. omega (arith, slots);
  }

  -- a descriptor that was free stands for a file
  opened_still : (fd : ℕ) (new : Option Descriptor) → free_descriptor ds ≡ Some fd → weight f new ≡ 0 → count_among f (slice_set ds fd new) ≡ count_among f ds
  opened_still fd new free none = omega (arith, among_set f ds fd None new (free_is ds fd free), none)

  closed_fits : (fd : ℕ) (d : Descriptor) → descriptor_at ds fd ≡ Some d → InStep f s.pipes ds (row_close (Some d) fd)
  closed_fits fd d e =
      let fewer = among_set f ds fd (Some d) None (descriptor_there ds fd d e) in
      let dropped = drops_number f (ends_of (Some d ∷ [])) s.pipes in
      let ends = count_ends_of f (Some d ∷ []) in
      record {
        goes_on = tt;
        counted = omega (arith, fewer, dropped, ends, has f);
        no_new = λ there. omega (arith, fewer);
      }

  pipe_made_fits : (at reader writer : ℕ) → slice_get ds reader ≡ Some None → IsAfter ds reader writer → InStep f s.pipes ds (pipe_made (length s.pipes) at reader writer)
  pipe_made_fits at reader writer free is =
      let k = length s.pipes in
      let end = Some (descriptor.Pipe (pipe_end.Read k)) in
      let first = among_set f ds reader None end free in
      let second = among_set f (slice_set ds reader end) writer None (Some (descriptor.Pipe (pipe_end.Write k))) (free_still ds reader writer end is) in
      let opened = open_number f s.pipes in
      record {
        goes_on = bytes_go_on 0 at (to_le_bytes w32 reader ++ to_le_bytes w32 writer);
        counted = omega (arith, first, second, opened);
        no_new = λ there. let new = below_new f k there in omega (arith, first, second, new.reads, new.writes);
      }

  child_made_fits : (child : ℕ) → InStep f s.pipes ds (child_made child ds)
  child_made_fits child =
      let there = are_there (ends_of ds) s.pipes (λ g. omega (arith, has g, count_ends_of g ds)) in
      let added = adds_number f (ends_of ds) s.pipes there in
      record { goes_on = tt; counted = omega (arith, added, count_ends_of f ds); no_new = λ there. omega arith }

  -- a row keeps both in step, or the caller ends
  abbrev FitsOrEnds : CallEffect → Type 0
  FitsOrEnds e = InStep f s.pipes ds e ⊎ ((status : ℕ) × (e ≡ row_end ds status))

  each_fits : (children : List ℕ) (r : Request) → OfEach FitsOrEnds s ds children r
  each_fits children r = record {
    told = λ _ _ _. inl (still _ tt refl refl refl);
    waits = λ _ _. inl (still _ tt refl refl refl);
    shown = λ _ _. inl (still _ tt refl refl refl);
    filed = λ fd n file offset bytes is goes. inl (still _ tt refl (among_kept f ds fd _ (ap (weight f) goes.stands) refl) refl);
    put = λ fd n k bytes p is found room. inl (still _ tt (put_number f s.pipes k _) refl refl);
    played = λ fd at n t tape is found. inl (still _ (bytes_go_on _ at _) refl refl refl);
    copied = λ fd at n file offset file_is is stands found. inl (still _ (bytes_go_on _ at _) refl (among_kept f ds fd _ (ap (weight f) stands) refl) refl);
    taken = λ fd at n k p is found. inl (still _ (bytes_go_on _ at _) (take_number f s.pipes k _) refl refl);
    there = λ fd file name writes free found. inl (still _ tt refl (opened_still fd _ free refl) refl);
    emptied = λ fd file name free found. inl (still _ tt refl (opened_still fd _ free refl) refl);
    made = λ fd n mode name is free new. inl (still _ tt refl (opened_still fd _ free refl) refl);
    unlinked = λ _ _ _ _ _. inl (still _ tt refl refl refl);
    renamed = λ _ _ _ _ _ _. inl (still _ tt refl refl refl);
    loaded = λ _ _ _ _ _ _ _ _. inl (still _ tt refl refl refl);
    closed = λ fd d stands. inl (closed_fits fd d stands);
    moved = λ fd file old offset writes stands. inl (still _ tt refl (among_kept f ds fd _ (ap (weight f) stands) refl) refl);
    piped = λ at reader writer is free next few. inl (pipe_made_fits at reader writer (free_is ds reader free) (after_is ds reader writer next));
    forked = λ few. inl (child_made_fits (length s.statuses + 1));
    collected = λ at e is found. inl (still _ (one_goes_on (at == 0) e.child at (to_le_bytes w32 e.status)) refl refl refl);
    ended = λ status. inr (status, refl);
  }

  pub row_fits : (p : ℕ) (children : List ℕ) (r : Request) → InStep f s.pipes ds (row s p ds children r) ⊎ ((status : ℕ) × (row s p ds children r ≡ row_end ds status))
  row_fits p children r = of_row FitsOrEnds s ds children r (each_fits children r) p
