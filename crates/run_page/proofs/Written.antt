-- What a writer holds once the parts of a page went out through it.
use Rattle.std.proofs.Common.{◌≡◌, ℕ, List, ◌++◌, Option, ap, subst, ◌∙◌}
use Rattle.std.specs.List.{flat_map}
use Rattle.std.specs.Io.KnownBytes.{Appends}
use Rattle.std.proofs.KnownBytes.{Appends-trans}
use Rattle.pictures.specs.Escapes.{entity}
use Rattle.run_page.specs.declared.texts.TheConstants.{START, MIDDLE, END}
use Rattle.run_page.specs.Embedding.{embedded_byte}
use Rattle.run_page.specs.Page.{page_of}

-- five texts, one after the other
five_texts : (a b c d e f : Option (List ℕ)) (v w x y z : List ℕ) → Appends a b v → Appends b c w → Appends c d x → Appends d e y → Appends e f z
    → Appends a f (v ++ w ++ x ++ y ++ z)
five_texts a b c d e f v w x y z p q r s t =
    Appends-trans a e f (v ++ w ++ x ++ y) z (Appends-trans a d e (v ++ w ++ x) y (Appends-trans a c d (v ++ w) x (Appends-trans a b c v w p q) r) s) t

texts_are : (name json v w x y z : List ℕ) → v ≡ START.now → w ≡ flat_map entity name → x ≡ MIDDLE.now → y ≡ flat_map embedded_byte json → z ≡ END.now
    → v ++ w ++ x ++ y ++ z ≡ page_of name json
unfolding page_of
texts_are name json v w x y z p q r s t =
    ap (λ (l : List ℕ). l ++ w ++ x ++ y ++ z) p
    ∙ ap (λ (l : List ℕ). START.now ++ l ++ x ++ y ++ z) q
    ∙ ap (λ (l : List ℕ). START.now ++ flat_map entity name ++ l ++ y ++ z) r
    ∙ ap (λ (l : List ℕ). START.now ++ flat_map entity name ++ MIDDLE.now ++ l ++ z) s
    ∙ ap (λ (l : List ℕ). START.now ++ flat_map entity name ++ MIDDLE.now ++ flat_map embedded_byte json ++ l) t

-- together they are the page
pub page_written : (a b c d e f : Option (List ℕ)) (name json v w x y z : List ℕ)
    → v ≡ START.now → w ≡ flat_map entity name → x ≡ MIDDLE.now → y ≡ flat_map embedded_byte json → z ≡ END.now
    → Appends a b v → Appends b c w → Appends c d x → Appends d e y → Appends e f z → Appends a f (page_of name json)
page_written a b c d e f name json v w x y z p q r s t one two three four five =
    subst (Appends a f) (texts_are name json v w x y z p q r s t) (five_texts a b c d e f v w x y z one two three four five)
