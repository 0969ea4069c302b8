-- Where the pages of a process are kept: in runs of words.
use Rattle.std.specs.Prelude.{◌≡◌, ℕ, ◌+◌, ◌-◌, ◌*◌, ◌<◌, ◌&&◌, Bool, true, false, nat_lt, nat_le, if◌then◌else◌, ◌/◌, ◌%◌, List, [], ◌∷◌, ◌++◌, length, take, drop, slice_index_or, slice_set, Option, Some, None}
use Rattle.memory.specs.Words.{Word, word_fault, memory_of_words}
use Rattle.memory_model.specs.Access.{put_bytes, to_write}
use Rattle.memory_model.specs.Bytes.{put_in}
use Rattle.std.specs.Simd.{first_chunks}
use Rattle.memory_model.specs.declared.access.Rights.{Rights}

-- a run of pages with one set of rights, but for the right to write: the number of its first word, and its words
pub record Pages : Type 0 where
  pub first : ℕ
  pub read : Bool
  pub execute : Bool
  pub words : List (List ℕ)

abbrev pub has_word : Pages → ℕ → Bool
has_word p n = nat_le p.first n && nat_lt (n - p.first) (length p.words)

-- the bytes of the word of a number that a run has
abbrev pub bytes_of : Pages → ℕ → List ℕ
bytes_of p n = slice_index_or p.words (n - p.first) []

-- the word of a number that a run has
abbrev pub word_in : Bool → Pages → ℕ → Word
word_in write p n = record { bytes = bytes_of p n; rights = record { read = p.read; write = write; execute = p.execute } }

-- the word of a number in the first run that has it
abbrev pub word_among : Bool → List Pages → Option Word → ℕ → Option Word
word_among write [] rest n = rest
word_among write (p ∷ ps) rest n = if has_word p n then Some (word_in write p n) else word_among write ps rest n

-- a process's words: those of its own runs may be written, and those of the shared ones not
abbrev pub words_of : List Pages → List Pages → ℕ → Option Word
words_of own shared n = word_among true own (word_among false shared None n) n

-- a run with these bytes from an address on, in the word of that address
abbrev pub with_bytes : Pages → ℕ → List ℕ → Pages
with_bytes p at bytes = record { first = p.first; read = p.read; execute = p.execute; words = slice_set p.words (at / 4 - p.first) (put_in (bytes_of p (at / 4)) (at % 4) bytes) }

-- a run with these words from word n on
abbrev pub with_words : Pages → ℕ → List (List ℕ) → Pages
with_words p n ws = record { first = p.first; read = p.read; execute = p.execute; words = take (n - p.first) p.words ++ (ws ++ drop (n - p.first + length ws) p.words) }

-- the run of pages from a page on that bytes fill
abbrev pub pages_of : ℕ → Rights → List ℕ → Pages
pages_of page rights bytes = record { first = page * 1024; read = rights.read; execute = rights.execute; words = first_chunks 4 (length bytes / 4) bytes }

-- a run of no pages, which takes no word's place
abbrev pub no_pages : Pages
no_pages = record { first = 0; read = true; execute = false; words = [] }

-- a process's own runs with one more: its words stand there, if none stood in their place, and all others stay
abbrev pub Adds : List Pages → Pages → List Pages → Type 0
Adds old p new = (rest : Option Word) (n : ℕ) → (has_word p n ≡ true → word_among true old rest n ≡ None) → word_among true new rest n ≡ (if has_word p n then Some (word_in true p n) else word_among true old rest n)

-- neither of the first two runs has the word of a number
abbrev pub MissesNear : List Pages → ℕ → Type 0
MissesNear (p ∷ q ∷ ps) n = (has_word p n ≡ false) × (has_word q n ≡ false)
MissesNear ps n = Unit {0}

-- a process's own runs after a store of bytes at an address that they have, whatever else stands in the memory
abbrev pub Stores : List Pages → ℕ → List ℕ → List Pages → Type 0
Stores old at bytes new =
    ((rest : Option Word) → word_fault to_write (word_among true old rest (at / 4)) ≡ None)
    × ((rest : ℕ → Option Word) → memory_of_words (λ n. word_among true new (rest n) n) ≡ put_bytes (memory_of_words (λ n. word_among true old (rest n) n)) at bytes)

-- each of these runs that has word m has word n too
abbrev pub HaveBoth : List Pages → ℕ → ℕ → Type 0
HaveBoth ps n m = (i : ℕ) (d : Pages) → i < length ps → has_word (slice_index_or ps i d) m ≡ true → has_word (slice_index_or ps i d) n ≡ true

-- a process's own runs after bytes were put from an address on, whatever else stands in the memory
abbrev pub Puts : List Pages → ℕ → List ℕ → List Pages → Type 0
Puts old at bytes new = (rest : ℕ → Option Word) → memory_of_words (λ n. word_among true new (rest n) n) ≡ put_bytes (memory_of_words (λ n. word_among true old (rest n) n)) at bytes
