-- What a plan does to the pipes and to the table of processes.
use Rattle.std.proofs.Common.{◌≡◌, ℕ, zero, suc, ◌+◌, ◌<◌, ◌≤◌, ◌⊎◌, inl, inr, not, List, [], ◌∷◌, ◌++◌, length, filter, drop, get_or, slice_get, Option, Some, None, IfSome, option_to_list, refl, sym, ap, subst, ◌∙◌, arith}
use Rattle.std.proofs.lemmas.List.{length-set, append-nil, drop_all}
use Rattle.std.specs.List.{AllByRecursion}
use Rattle.calls.specs.Plans.{IsNext, MayAllStep, OpensNone, all_seen}
use Rattle.calls.specs.declared.plan.CallPlan.{CallPlan}
use Rattle.pipes.specs.Seen.{Seen}
use Rattle.pipes.specs.Stepping.{seen_after}
use Rattle.processes.specs.Parts.{Part, part_at, put_part, with_part, with_slots, with_child, without_child, child_part, ended_part, after_fork}
use Rattle.kernel_model.specs.Steps.{is_collected}
use Rattle.kernel_model.specs.declared.effect.PipeStep.{PipeStep}
use Rattle.kernel_model.specs.declared.effect.Slot.{Slot}
use Rattle.kernel_model.specs.declared.request.Verdict.{Verdict}
use Rattle.kernel_model.specs.declared.request.Verdict.TheVariants.{Waits, Replies, Ends}
use Rattle.kernel_step.specs.Entering.{descriptors_after, status_after, family_of, born, with_children, parts_after}
use Rattle.kernel_step.proofs.EnterPlans.{all-kept}

-- ---- what is left of a list
pub drop-there : {A : Type 0} (xs : List A) (i : ℕ) (x : A) → i < length xs → x ≡ get_or xs i x → drop i xs ≡ x ∷ drop (i + 1) xs
drop-there [] i x within is = absurd (omega arith)
drop-there (y ∷ ys) zero x within is = ap (λ z. z ∷ ys) (sym is)
drop-there {A} (y ∷ ys) (suc i) x within is =
    let next : suc i + 1 ≡ suc (i + 1) = omega arith in
    drop-there ys i x (omega arith) is ∙ ap (λ (k : ℕ). x ∷ drop k (y ∷ ys)) (sym next)

-- ---- steps of pipes
-- these steps are left, each of which may come, and in the end the pipes are these
pub record AreLeftSteps (pipes : List Seen) (rest : List PipeStep) (final : List Seen) : Type 0 where
  pub plain : AllByRecursion OpensNone rest
  pub may : MayAllStep pipes rest
  pub ends : all_seen pipes rest ≡ final

pub left-first : (pipes final : List Seen) (steps : List PipeStep) (i : ℕ) (step : PipeStep) → i < length steps → step ≡ get_or steps i step
    → AreLeftSteps pipes (drop i steps) final → AreLeftSteps pipes (step ∷ drop (i + 1) steps) final
left-first pipes final steps i step within is h = subst (λ (rest : List PipeStep). AreLeftSteps pipes rest final) (drop-there steps i step within is) h

pub left-next : (pipes pipes' final : List Seen) (rest : List PipeStep) (step : PipeStep) → pipes' ≡ seen_after pipes step
    → AreLeftSteps pipes (step ∷ rest) final → AreLeftSteps pipes' rest final
left-next pipes pipes' final rest step is h =
    subst (λ (x : List Seen). AreLeftSteps x rest final) (sym is) (record { plain = h.plain.1; may = h.may.1; ends = h.ends })

pub left-none : (pipes final : List Seen) (steps : List PipeStep) (i : ℕ) → length steps ≤ i → AreLeftSteps pipes (drop i steps) final → pipes ≡ final
left-none pipes final steps i past h =
    (subst (λ (rest : List PipeStep). AreLeftSteps pipes rest final) (drop_all i steps past) h).ends

-- ---- the part of one process
with-further : (x : Part) (xs : List Part) (k : ℕ) (o : Option Part) (f : Part → Part) → with_part (x ∷ xs) (suc (suc k)) o f ≡ x ∷ with_part xs (suc k) o f
with-further x xs k None f = refl
with-further x xs k (Some part) f = refl

pub with-twice : (parts : List Part) (pid : ℕ) (f g : Part → Part)
    → with_part (with_part parts pid (part_at parts pid) f) pid (part_at (with_part parts pid (part_at parts pid) f) pid) g
    ≡ with_part parts pid (part_at parts pid) (λ x. g (f x))
with-twice parts zero f g = refl
with-twice parts (suc k) f g = by parts k
  where
    by : (xs : List Part) (i : ℕ) → with_part (with_part xs (suc i) (part_at xs (suc i)) f) (suc i) (part_at (with_part xs (suc i) (part_at xs (suc i)) f) (suc i)) g
        ≡ with_part xs (suc i) (part_at xs (suc i)) (λ x. g (f x))
    by [] i = refl
    by (x ∷ xs) zero = refl
    by (x ∷ xs) (suc i) =
        ap (λ (ys : List Part). with_part ys (suc (suc i)) (part_at ys (suc (suc i))) g) (with-further x xs i (slice_get xs i) f)
        ∙ with-further x (with_part xs (suc i) (slice_get xs i) f) i (slice_get (with_part xs (suc i) (slice_get xs i) f) i) g
        ∙ ap (λ (ys : List Part). x ∷ ys) (by xs i)
        ∙ sym (with-further x xs i (slice_get xs i) (λ y. g (f y)))

pub with-same : (parts : List Part) (pid : ℕ) (f : Part → Part) → ((x : Part) → f x ≡ x) → with_part parts pid (part_at parts pid) f ≡ parts
with-same parts zero f same = refl
with-same parts (suc k) f same = by parts k
  where
    by : (xs : List Part) (i : ℕ) → with_part xs (suc i) (part_at xs (suc i)) f ≡ xs
    by [] i = refl
    by (x ∷ xs) zero = ap (λ (y : Part). y ∷ xs) (same x)
    by (x ∷ xs) (suc i) = with-further x xs i (slice_get xs i) f ∙ ap (λ (ys : List Part). x ∷ ys) (by xs i)

with-length : (parts : List Part) (pid : ℕ) (o : Option Part) (f : Part → Part) → length (with_part parts pid o f) ≡ length parts
with-length parts pid None f = refl
with-length parts zero (Some part) f = refl
with-length parts (suc k) (Some part) f = length-set parts k (f part)

with-joined : (parts more : List Part) (pid : ℕ) (f : Part → Part) → 0 < pid → pid ≤ length parts
    → with_part (parts ++ more) pid (part_at (parts ++ more) pid) f ≡ with_part parts pid (part_at parts pid) f ++ more
with-joined parts more zero f from_1 there = absurd (omega arith)
with-joined parts more (suc k) f from_1 there = by parts k there
  where
    by : (xs : List Part) (i : ℕ) → suc i ≤ length xs → with_part (xs ++ more) (suc i) (part_at (xs ++ more) (suc i)) f ≡ with_part xs (suc i) (part_at xs (suc i)) f ++ more
    by [] i h = absurd (omega arith)
    by (x ∷ xs) zero h = refl
    by (x ∷ xs) (suc i) h =
        with-further x (xs ++ more) i (slice_get (xs ++ more) i) f
        ∙ ap (λ (ys : List Part). x ∷ ys) (by xs i (omega arith))
        ∙ ap (λ (ys : List Part). ys ++ more) (sym (with-further x xs i (slice_get xs i) f))

-- an element is itself, whatever stands for none
get-self : {A : Type 0} (xs : List A) (i : ℕ) (d : A) → i < length xs → get_or xs i d ≡ get_or xs i (get_or xs i d)
get-self [] i d h = absurd (omega arith)
get-self (x ∷ xs) zero d h = refl
get-self {A} (x ∷ xs) (suc i) d h = get-other xs i d (get_or xs i d) (omega arith)
  where
    get-other : (ys : List A) (j : ℕ) (a b : A) → j < length ys → get_or ys j a ≡ get_or ys j b
    get-other [] j a b g = absurd (omega arith)
    get-other (y ∷ ys) zero a b g = refl
    get-other (y ∷ ys) (suc j) a b g = get-other ys j a b (omega arith)

-- one more slot is set
slots-next : (parts parts' final : List Part) (pid : ℕ) (slots : List Slot) (i : ℕ) (slot : Slot) → i < length slots → slot ≡ get_or slots i slot
    → parts' ≡ with_part parts pid (part_at parts pid) (with_slots (slot ∷ []))
    → with_part parts pid (part_at parts pid) (with_slots (drop i slots)) ≡ final
    → with_part parts' pid (part_at parts' pid) (with_slots (drop (i + 1) slots)) ≡ final
slots-next parts parts' final pid slots i slot within is set h =
    ap (λ (xs : List Part). with_part xs pid (part_at xs pid) (with_slots (drop (i + 1) slots))) set
    ∙ with-twice parts pid (with_slots (slot ∷ [])) (with_slots (drop (i + 1) slots))
    ∙ ap (λ (rest : List Slot). with_part parts pid (part_at parts pid) (with_slots rest)) (sym (drop-there slots i slot within is))
    ∙ h

pub slots-set : (parts parts' final : List Part) (pid : ℕ) (slots : List Slot) (i : ℕ) (d : Slot) → i < length slots
    → parts' ≡ with_part parts pid (part_at parts pid) (with_slots (get_or slots i d ∷ []))
    → with_part parts pid (part_at parts pid) (with_slots (drop i slots)) ≡ final
    → with_part parts' pid (part_at parts' pid) (with_slots (drop (i + 1) slots)) ≡ final
slots-set parts parts' final pid slots i d within set h = slots-next parts parts' final pid slots i (get_or slots i d) within (get-self slots i d within) set h

pub slots-none : (parts final : List Part) (pid : ℕ) (slots : List Slot) (i : ℕ) → length slots ≤ i
    → with_part parts pid (part_at parts pid) (with_slots (drop i slots)) ≡ final → parts ≡ final
slots-none parts final pid slots i past h =
    sym (with-same parts pid (with_slots []) (λ x. refl))
    ∙ ap (λ (rest : List Slot). with_part parts pid (part_at parts pid) (with_slots rest)) (sym (drop_all i slots past))
    ∙ h

-- ---- children
-- the parts where these are the child that is made and the one that is collected
abbrev family_parts : List Part → ℕ → Part → Option ℕ → Option ℕ → List Part
family_parts parts pid part child collects =
    put_part parts pid (record part { children = filter (λ other. not (is_collected collects other)) part.children ++ option_to_list child }) ++ born (Some part) child

family-is : (parts : List Part) (pid : ℕ) (part : Part) (plan : CallPlan) (child collects : Option ℕ) → plan.child ≡ child → plan.collects ≡ collects
    → family_parts parts pid part child collects ≡ with_part parts pid (Some part) (λ x. family_of x plan) ++ born (Some part) plan.child
family-is parts pid part plan child collects made gone =
    ap (λ (o : Option ℕ). family_parts parts pid part child o) (sym gone)
    ∙ ap (λ (o : Option ℕ). family_parts parts pid part o plan.collects) (sym made)

fork-by : (parts : List Part) (pid : ℕ) (o : Option Part) (plan : CallPlan) (child : ℕ) → plan.child ≡ Some child → plan.collects ≡ None → child ≡ length parts + 1
    → after_fork parts pid o ≡ with_part parts pid o (λ x. family_of x plan) ++ born o plan.child
fork-by parts pid None plan child made gone next = sym (append-nil parts)
fork-by parts pid (Some part) plan child made gone next =
    ap (λ (n : ℕ). put_part parts pid (with_child n part) ++ child_part part ∷ []) (sym next)
    ∙ ap (λ (cs : List ℕ). put_part parts pid (record part { children = cs ++ child ∷ [] }) ++ child_part part ∷ []) (sym (all-kept part.children))
    ∙ family-is parts pid part plan (Some child) None made gone

pub fork-children : (parts parts' : List Part) (pid : ℕ) (plan : CallPlan) (child : ℕ) → plan.child ≡ Some child → (plan.child ≡ None) ⊎ (plan.collects ≡ None)
    → IfSome plan.child (IsNext (length parts)) → parts' ≡ after_fork parts pid (part_at parts pid) → parts' ≡ with_children parts pid plan
fork-children parts parts' pid plan child made (inl none) next is = let both : Some child ≡ None = sym made ∙ none in cc
fork-children parts parts' pid plan child made (inr gone) next is =
    let one : IfSome (Some child) (IsNext (length parts)) = subst (λ (o : Option ℕ). IfSome o (IsNext (length parts))) made next in
    is ∙ fork-by parts pid (part_at parts pid) plan child made gone one.0

collect-by : (parts : List Part) (pid : ℕ) (o : Option Part) (plan : CallPlan) (child : ℕ) → plan.child ≡ None → plan.collects ≡ Some child
    → with_part parts pid o (without_child child) ≡ with_part parts pid o (λ x. family_of x plan) ++ born o plan.child
collect-by parts pid None plan child made gone = sym (append-nil parts)
collect-by parts pid (Some part) plan child made gone =
    let left : List ℕ = filter (λ other. not (is_collected (Some child) other)) part.children in
    ap (λ (cs : List ℕ). put_part parts pid (record part { children = cs })) (sym (append-nil left))
    ∙ sym (append-nil (put_part parts pid (record part { children = left ++ [] })))
    ∙ family-is parts pid part plan None (Some child) made gone

pub collect-children : (parts parts' : List Part) (pid : ℕ) (plan : CallPlan) (child : ℕ) → plan.child ≡ None → plan.collects ≡ Some child
    → parts' ≡ with_part parts pid (part_at parts pid) (without_child child) → parts' ≡ with_children parts pid plan
collect-children parts parts' pid plan child made gone is = is ∙ collect-by parts pid (part_at parts pid) plan child made gone

none-by : (parts : List Part) (pid : ℕ) (o : Option Part) (plan : CallPlan) → plan.child ≡ None → plan.collects ≡ None
    → with_part parts pid o (λ x. x) ≡ with_part parts pid o (λ x. family_of x plan) ++ born o plan.child
none-by parts pid None plan made gone = sym (append-nil parts)
none-by parts pid (Some part) plan made gone =
    ap (λ (cs : List ℕ). put_part parts pid (record part { children = cs })) (sym (append-nil (filter (λ other. not (is_collected None other)) part.children) ∙ all-kept part.children))
    ∙ sym (append-nil (put_part parts pid (record part { children = filter (λ other. not (is_collected None other)) part.children ++ [] })))
    ∙ family-is parts pid part plan None None made gone

pub same-children : (parts : List Part) (pid : ℕ) (plan : CallPlan) → plan.child ≡ None → plan.collects ≡ None → parts ≡ with_children parts pid plan
same-children parts pid plan made gone = sym (with-same parts pid (λ x. x) (λ x. refl)) ∙ none-by parts pid (part_at parts pid) plan made gone

-- ---- all of it
abbrev parts_told : List Part → ℕ → CallPlan → Verdict → List Part
parts_told parts pid plan verdict = with_part parts pid (part_at parts pid) (λ part. record {
  descriptors = descriptors_after part.descriptors verdict plan.slots.items;
  children = (family_of part plan).children;
  status = status_after verdict part.status;
}) ++ born (part_at parts pid) plan.child

pub parts-wait : (parts parts' : List Part) (pid : ℕ) (plan : CallPlan) → plan.verdict ≡ Waits → parts' ≡ with_children parts pid plan → parts' ≡ parts_after parts pid plan
parts-wait parts parts' pid plan verdict is = is ∙ ap (λ (v : Verdict). parts_told parts pid plan v) (sym verdict)

-- a reply
abbrev pub IsReply : Verdict → Type 0
IsReply Waits = ⊥
IsReply (Replies r) = Unit {0}
IsReply (Ends status) = ⊥

-- what becomes of the process's own part
own-part : (parts before after : List Part) (pid : ℕ) (plan : CallPlan) (f : Part → Part) → 0 < pid → pid ≤ length parts
    → before ≡ with_children parts pid plan → after ≡ with_part before pid (part_at before pid) f
    → after ≡ with_part parts pid (part_at parts pid) (λ x. f (family_of x plan)) ++ born (part_at parts pid) plan.child
own-part parts before after pid plan f from_1 there was is =
    let family : List Part = with_part parts pid (part_at parts pid) (λ x. family_of x plan) in
    let size : length family ≡ length parts = with-length parts pid (part_at parts pid) (λ x. family_of x plan) in
    is
    ∙ ap (λ (xs : List Part). with_part xs pid (part_at xs pid) f) was
    ∙ with-joined family (born (part_at parts pid) plan.child) pid f from_1 (omega (arith, there, size))
    ∙ ap (λ (xs : List Part). xs ++ born (part_at parts pid) plan.child) (with-twice parts pid (λ x. family_of x plan) f)

pub parts-reply : (parts before after : List Part) (pid : ℕ) (plan : CallPlan) (slots : List Slot) (verdict : Verdict) → 0 < pid → pid ≤ length parts
    → IsReply verdict → plan.verdict ≡ verdict → slots ≡ plan.slots.items
    → before ≡ with_children parts pid plan → after ≡ with_part before pid (part_at before pid) (with_slots slots) → after ≡ parts_after parts pid plan
parts-reply parts before after pid plan slots Waits from_1 there reply is same was set = absurd reply
parts-reply parts before after pid plan slots (Ends status) from_1 there reply is same was set = absurd reply
parts-reply parts before after pid plan slots (Replies r) from_1 there reply is same was set =
    own-part parts before after pid plan (with_slots slots) from_1 there was set
    ∙ ap (λ (xs : List Slot). with_part parts pid (part_at parts pid) (λ x. with_slots xs (family_of x plan)) ++ born (part_at parts pid) plan.child) same
    ∙ ap (λ (v : Verdict). parts_told parts pid plan v) (sym is)

pub parts-end : (parts before after : List Part) (pid : ℕ) (plan : CallPlan) (status : ℕ) → 0 < pid → pid ≤ length parts
    → plan.verdict ≡ Ends status
    → before ≡ with_children parts pid plan → after ≡ with_part before pid (part_at before pid) (ended_part status) → after ≡ parts_after parts pid plan
parts-end parts before after pid plan status from_1 there is was set =
    own-part parts before after pid plan (ended_part status) from_1 there was set
    ∙ ap (λ (v : Verdict). parts_told parts pid plan v) (sym is)
