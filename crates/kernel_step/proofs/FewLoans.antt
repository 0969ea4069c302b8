-- How many loans are out, and that each process had few.
use Rattle.std.proofs.Common.{◌≡◌, ℕ, ◌+◌, ◌≤◌, inl, inr, false, List, map, slice_get, slice_set, Option, Some, None, is_some, count_by, refl, sym, ap, subst, ◌∙◌, arith}
use Rattle.std.proofs.lemmas.List.{map-set}
use Rattle.kernel_model.specs.Answers.{Lending, never_lent, with_child}
use Rattle.kernel_step.specs.Tasks.{out_of, lending_of, count_out, unsettled, AreFewLoans}
use Rattle.kernel_step.specs.declared.task.Task.{Task}
use Rattle.kernel_step.proofs.Lists.{get-map, get-set, get-snoc, count-map}

-- as many loans are out as tasks
pub out-lent : (tasks : List Task) → count_by (λ (l : Lending). is_some l.out) (map lending_of tasks) ≡ count_out tasks
out-lent tasks = count-map lending_of (λ (l : Lending). is_some l.out) tasks

-- the tasks are lent as before
pub same-out : (old new : List Task) → map lending_of new ≡ map lending_of old → count_out new ≡ count_out old
same-out old new same =
    sym (out-lent new)
    ∙ ap (λ (ls : List Lending). count_by (λ (l : Lending). is_some l.out) ls) same
    ∙ out-lent old

-- there may be more events
pub few-longer : (n m : ℕ) (ls : List Lending) → n ≤ m → AreFewLoans n ls → AreFewLoans m ls
few-longer n m ls more h = record {
  each = λ place l there. let few : l.loans ≤ n + unsettled l.out = h.each place l there in omega (arith, more, few);
}

-- the tasks are lent as before, and there may be more events
pub few-same : (n m : ℕ) (old new : List Task) → n ≤ m → map lending_of new ≡ map lending_of old → AreFewLoans n (map lending_of old)
    → AreFewLoans m (map lending_of new)
few-same n m old new more same h = subst (λ (ls : List Lending). AreFewLoans m ls) (sym same) (few-longer n m (map lending_of old) more h)

-- a process that was made had none
pub few-child : (n : ℕ) (ls : List Lending) (o : Option ℕ) → AreFewLoans n ls → AreFewLoans n (with_child ls o)
few-child n ls None h = h
few-child n ls (Some child) h = record {
  each = λ place l there. elim (get-snoc ls never_lent place l there) [
    | inl g ↦ h.each place l g
    | inr g ↦ subst (λ (x : Lending). x.loans ≤ n + unsettled x.out) (sym g.1) (omega arith)
  ];
}

-- a task whose loans are few stands in another's place
pub few-put : (n : ℕ) (tasks : List Task) (place : ℕ) (u : Task) → u.loans ≤ n + unsettled (out_of u) → AreFewLoans n (map lending_of tasks)
    → AreFewLoans n (map lending_of (slice_set tasks place u))
few-put n tasks place u few h = subst (λ (ls : List Lending). AreFewLoans n ls) (sym (map-set lending_of tasks place u)) (record {
  each = λ k l there. elim (get-set (map lending_of tasks) place k (lending_of u) l there) [
    | inl g ↦ subst (λ (x : Lending). x.loans ≤ n + unsettled x.out) (sym g.1) few
    | inr g ↦ h.each k l g.1
  ];
})

-- the loans of the task at a place are few
pub few-at : (n : ℕ) (tasks : List Task) (place : ℕ) (t : Task) → AreFewLoans n (map lending_of tasks) → slice_get tasks place ≡ Some t
    → t.loans ≤ n + unsettled (out_of t)
few-at n tasks place t h there = h.each place (lending_of t) (get-map lending_of tasks place t there)

-- and of one that is not out there are no more than events
unsettled-none : (o : Option ℕ) → is_some o ≡ false → unsettled o ≡ 0
unsettled-none None h = refl
unsettled-none (Some q) h = cc

pub few-here : (n : ℕ) (tasks : List Task) (place : ℕ) (t : Task) → AreFewLoans n (map lending_of tasks) → slice_get tasks place ≡ Some t
    → is_some (out_of t) ≡ false → t.loans ≤ n
few-here n tasks place t h there here =
    let few : t.loans ≤ n + unsettled (out_of t) = few-at n tasks place t h there in
    let none : unsettled (out_of t) ≡ 0 = unsettled-none (out_of t) here in
    omega (arith, few, none)
