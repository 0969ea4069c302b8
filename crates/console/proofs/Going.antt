-- What a writer holds once a text went out through it.
use Rattle.std.proofs.Common.{◌≡◌, ℕ, ◌+◌, ◌-◌, ◌≤◌, List, [], ◌++◌, length, take, drop, Option, Some, None, Result, Ok, Err, sym, ap, ◌∙◌, subst, arith, append-nil, drop-drop, length-drop}
use Rattle.std.proofs.lemmas.List.{take_all}
use Rattle.std.specs.Prelude.{slice_range}
use lib.Seq.{take-add}
use Rattle.std.specs.declared.io.Error.{Error}
use Rattle.std.specs.Io.KnownBytes.{Appends, Keeps}
use Rattle.std.proofs.KnownBytes.{Appends-nil, Appends-trans, Appends-kept, Keeps-refl, Keeps-trans}
use Rattle.console.specs.Sinks.{IsInterrupted, TakesNothing, Interrupts, Calls, GoesOut, IsRefused}
use Rattle.console.specs.Sinks.Interrupts.{never, again}
use Rattle.console.specs.Sinks.GoesOut.{nothing, some}
use Rattle.console.specs.Writers.{writer_answers}

-- bytes that stay, and then grow
Keeps-appends : (a b c : Option (List ℕ)) (bs : List ℕ) → Keeps a b → Appends b c bs → Appends a c bs
Keeps-appends None b c bs p q = tt
Keeps-appends (Some x) None c bs p q = absurd p
Keeps-appends (Some x) (Some y) None bs p q = absurd q
Keeps-appends (Some x) (Some y) (Some z) bs p q = q ∙ ap (λ l. l ++ bs) p

-- bytes that grow by none
Appends-none : (a b : Option (List ℕ)) → Appends a b [] → Keeps a b
Appends-none None b p = tt
Appends-none (Some x) None p = absurd p
Appends-none (Some x) (Some y) p = p ∙ append-nil x

-- a part of a text, and the part after it
slice_range-more : (text : List ℕ) (from upto count : ℕ) → from ≤ upto
    → slice_range text from upto ++ take count (drop upto text) ≡ slice_range text from (upto + count)
slice_range-more text from upto count begun =
    let place : from + (upto - from) ≡ upto = omega arith in
    let size : (upto - from) + count ≡ upto + count - from = omega arith in
    ap (λ (xs : List ℕ). slice_range text from upto ++ take count xs) (ap (λ (n : ℕ). drop n text) (sym place) ∙ sym (drop-drop (upto - from) from text))
    ∙ sym (take-add (upto - from) count (drop from text))
    ∙ ap (λ (n : ℕ). take n (drop from text)) size

slice_range-none : (text : List ℕ) (from : ℕ) → slice_range text from from ≡ []
slice_range-none text from = let none : from - from ≡ 0 = omega arith in ap (λ (n : ℕ). take n (drop from text)) none

slice_range-rest : (text : List ℕ) (from upto : ℕ) → upto ≡ length text → slice_range text from upto ≡ drop from text
slice_range-rest text from upto end = take_all (upto - from) (drop from text) (omega (arith, length-drop from text))

module _ {W : Type 0} (contents : W → Option (List ℕ)) where
  -- an interruption leaves the bytes as they were
  interruption-keeps : (bytes : List ℕ) (s t : W) (answer : Result ℕ Error) → writer_answers contents s bytes answer t → IsInterrupted answer → Keeps (contents s) (contents t)
  interruption-keeps bytes s t (Ok count) a z = absurd z
  interruption-keeps bytes s t (Err error) a z = a

  interrupts-keep : (bytes : List ℕ) (s t : W) → Interrupts (writer_answers contents) bytes s t → Keeps (contents s) (contents t)
  interrupts-keep bytes s t never = Keeps-refl (contents s)
  interrupts-keep bytes s t (again {t = u} answer i a z) =
      Keeps-trans (contents s) (contents u) (contents t) (interrupts-keep bytes s u i) (interruption-keeps bytes u t answer a z)

  -- a call that takes bytes appends them
  call-appends : (bytes : List ℕ) (s t : W) (count : ℕ) → Calls (writer_answers contents) bytes s (Ok count) t → Appends (contents s) (contents t) (take count bytes)
  call-appends bytes s t count call =
      Keeps-appends (contents s) (contents call.before) (contents t) (take count bytes) (interrupts-keep bytes s call.before call.interrupted) call.answered

  -- a call that takes none leaves them as they were
  refusal-keeps : (bytes : List ℕ) (s t : W) (answer : Result ℕ Error) → Calls (writer_answers contents) bytes s answer t → TakesNothing answer → Keeps (contents s) (contents t)
  refusal-keeps bytes s t (Ok count) call z =
      Appends-none (contents s) (contents t) (subst (λ (n : ℕ). Appends (contents s) (contents t) (take n bytes)) z (call-appends bytes s t count call))
  refusal-keeps bytes s t (Err error) call z =
      Keeps-trans (contents s) (contents call.before) (contents t) (interrupts-keep bytes s call.before call.interrupted) call.answered

  going-ascends : (text : List ℕ) (s : W) (from : ℕ) (t : W) (upto : ℕ) → GoesOut (writer_answers contents) text s from t upto → from ≤ upto
  going-ascends text s from t upto nothing = omega arith
  going-ascends text s from t upto' (some {t = u} {upto} count out call above) = let before = going-ascends text s from u upto out in omega arith

  -- what went out is in the writer
  going-appends : (text : List ℕ) (s : W) (from : ℕ) (t : W) (upto : ℕ) → GoesOut (writer_answers contents) text s from t upto
      → Appends (contents s) (contents t) (slice_range text from upto)
  going-appends text s from t upto nothing = rw (slice_range-none text from) (Appends-nil (contents s))
  going-appends text s from t upto' (some {t = u} {upto} count out call above) =
      subst (Appends (contents s) (contents t)) (slice_range-more text from upto count (going-ascends text s from u upto out))
      (Appends-trans (contents s) (contents u) (contents t) (slice_range text from upto) (take count (drop upto text)) (going-appends text s from u upto out) (call-appends (drop upto text) u t count call))

  -- all of the text's rest
  pub all_goes : (text : List ℕ) (s : W) (from : ℕ) (t : W) (upto : ℕ) → GoesOut (writer_answers contents) text s from t upto → upto ≡ length text
      → Appends (contents s) (contents t) (drop from text)
  all_goes text s from t upto out end = subst (Appends (contents s) (contents t)) (slice_range-rest text from upto end) (going-appends text s from t upto out)

  -- up to where the writer took nothing
  pub part_goes : (text : List ℕ) (s : W) (from : ℕ) (t : W) (upto : ℕ) → IsRefused (writer_answers contents) text s from t upto
      → Appends (contents s) (contents t) (slice_range text from upto)
  part_goes text s from t upto refused =
      Appends-kept (contents s) (contents refused.before) (contents t) (slice_range text from upto) (going-appends text s from refused.before upto refused.out)
      (refusal-keeps (drop upto text) refused.before t refused.answer refused.last refused.nothing_taken)

  pub part_ascends : (text : List ℕ) (s : W) (from : ℕ) (t : W) (upto : ℕ) → IsRefused (writer_answers contents) text s from t upto → from ≤ upto
  part_ascends text s from t upto refused = going-ascends text s from refused.before upto refused.out
