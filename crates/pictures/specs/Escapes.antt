-- Texts in a file of XML: what stands for each byte, and how that is read back.
use Rattle.std.specs.Prelude.{ℕ, ◌==◌, ◌&&◌, ◌||◌, Bool, not, nat_eq, nat_le, if◌then◌else◌, List, [], ◌∷◌, ◌++◌, Option, Some, None, codes}
use Rattle.std.specs.Cmp.Lexicographic.{pointwise}

-- a byte of printable ASCII is drawn as it is, and any other one as a dot
abbrev pub drawn : ℕ → ℕ
drawn b = if nat_le 32 b && nat_le b 126 then b else 46

-- what stands for a byte
abbrev pub entity : ℕ → List ℕ
entity b =
    if b == 38 then codes "&amp;"
    else (if b == 60 then codes "&lt;"
    else (if b == 62 then codes "&gt;"
    else (if b == 34 then codes "&quot;"
    else drawn b ∷ [])))

-- the byte of this name; a space where there is none
abbrev pub named : List ℕ → ℕ
named name =
    if pointwise nat_eq name (codes "amp") then 38
    else (if pointwise nat_eq name (codes "lt") then 60
    else (if pointwise nat_eq name (codes "gt") then 62
    else (if pointwise nat_eq name (codes "quot") then 34
    else 32)))

-- what a reader of XML makes of a text: where it is in a name, with the bytes of that so far, it goes on to the semicolon
abbrev pub read_on : Option (List ℕ) → List ℕ → List ℕ
read_on _ [] = []
read_on None (b ∷ bs) = if b == 38 then read_on (Some []) bs else b ∷ read_on None bs
read_on (Some name) (b ∷ bs) = if b == 59 then named name ∷ read_on None bs else read_on (Some (name ++ b ∷ [])) bs

-- neither a sign that begins or ends a tag, nor a quote
abbrev pub is_plain : ℕ → Bool
is_plain b = not ((b == 60) || ((b == 62) || (b == 34)))
