-- Steps that all gave a value.
use Rattle.std.proofs.Common.{◌≡◌, Result, Ok, Err, Option, Some, None, refl, ap}
use Rattle.std.specs.Option.{ok_or}
use Rattle.asm_statements.specs.Tokens.{and_then}

pub and_then-ok : {A B E : Type 0} (r : Result A E) (f : A → Result B E) (y : B) → and_then r f ≡ Ok y → (x : A) × (r ≡ Ok x) × (f x ≡ Ok y)
and_then-ok (Ok x) f y is = (x, refl, is)
and_then-ok (Err e) f y is = cc

pub ok_or-ok : {A E : Type 0} (o : Option A) (e : E) (x : A) → ok_or o e ≡ Ok x → o ≡ Some x
ok_or-ok (Some y) e x is = cc
ok_or-ok None e x is = cc

pub and_then-at : {A B E : Type 0} (r : Result A E) (f : A → Result B E) (x : A) → r ≡ Ok x → and_then r f ≡ f x
and_then-at {A} {B} {E} r f x is = ap (λ (s : Result A E). and_then s f) is

pub and_then-err : {A B E : Type 0} (r : Result A E) (f : A → Result B E) (e : E) → r ≡ Err e → and_then r f ≡ Err e
and_then-err {A} {B} {E} r f e is = ap (λ (s : Result A E). and_then s f) is

-- steps after two others are steps after the first
pub and_then-each : {A B C E : Type 0} (r : Result A E) (f : A → Result B E) (g : B → Result C E) (h : A → Result C E) → ((x : A) → h x ≡ and_then (f x) g) → and_then r h ≡ and_then (and_then r f) g
and_then-each (Ok x) f g h same = same x
and_then-each (Err e) f g h same = refl
