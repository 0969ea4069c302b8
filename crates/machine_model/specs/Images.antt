-- What may be loaded: a program's segments, and where it begins.
use Rattle.std.specs.Prelude.{◌≡◌, ℕ, ◌+◌, ◌-◌, ◌*◌, ◌/◌, ◌%◌, ◌<◌, ◌≤◌, ◌&&◌, ◌||◌, Bool, true, false, List, [], ◌∷◌, ◌++◌, length, All, Any, sum_by, refl}
use Rattle.std.specs.Coded.{Coded, code_by, coded×, coded_ℕ, coded_bool, coded_list}
use Rattle.memory_model.specs.Access.{low_bytes}
use Rattle.machine_model.specs.declared.image.Segment.{Segment}

-- where a program begins, and its segments
pub record Program : Type 0 where
  pub entry : ℕ
  pub segments : List Segment

abbrev pub segment_code : Coded Segment
segment_code =
    code_by (ℕ × (ℕ × ((Bool × (Bool × Bool)) × List ℕ))) (coded× coded_ℕ (coded× coded_ℕ (coded× (coded× coded_bool (coded× coded_bool coded_bool)) (coded_list coded_ℕ))))
    (λ s. (s.vaddr, (s.memsz, ((s.rights.read, (s.rights.write, s.rights.execute)), s.bytes))))
    (λ p. record { vaddr = p.0; memsz = p.1.0; rights = record { read = p.1.1.0.0; write = p.1.1.0.1.0; execute = p.1.1.0.1.1 }; bytes = p.1.1.1 })
    (λ _. refl)

-- by this code a proof tells programs apart
abbrev pub program_code : Coded Program
program_code = code_by (ℕ × List Segment) (coded× coded_ℕ (coded_list segment_code)) (λ p. (p.entry, p.segments)) (λ p. record { entry = p.0; segments = p.1 }) (λ _. refl)

-- the numbers of a segment's first and last page; a page has 4,096 bytes
abbrev pub first_page : Segment → ℕ
first_page s = s.vaddr / 4096

abbrev pub last_page : Segment → ℕ
last_page s = (s.vaddr + s.memsz - 1) / 4096

abbrev pub page_count : Segment → ℕ
page_count s = last_page s + 1 - first_page s

-- A segment that may be loaded. It is not empty, has no more bytes in the file than in memory, and has some right. It lies within
-- the addresses from 0x00010000 up to 0x7FFF0000.
pub record IsLoadable (s : Segment) : Type 0 where
  pub present : 0 < s.memsz
  pub within : length s.bytes ≤ s.memsz
  pub some_right : (s.rights.read || s.rights.write || s.rights.execute) ≡ true
  pub above : 0x00010000 ≤ s.vaddr
  pub below : s.vaddr + s.memsz ≤ 0x7FFF0000

-- each segment's first page is this one or a later one, and lies above the last page of the segment before
abbrev pub AreAscending : ℕ → List Segment → Type 0
AreAscending page [] = Unit {0}
AreAscending page (s ∷ ss) = (page ≤ first_page s) × AreAscending (last_page s + 1) ss

-- an address lies in a segment that may be executed
abbrev pub IsCode : ℕ → Segment → Type 0
IsCode at s = (s.rights.execute ≡ true) × (s.vaddr ≤ at) × (at < s.vaddr + s.memsz)

-- The profile of what may be loaded. The segments are 1 to 4 and ascend with no page in common, with at most 60 pages in all. The
-- entry is a multiple of 4 in a segment that may be executed.
pub record IsProfile (p : Program) : Type 0 where
  pub some : 0 < length p.segments
  pub few : length p.segments ≤ 4
  pub loadable : All IsLoadable p.segments
  pub ascending : AreAscending 0 p.segments
  pub small : sum_by page_count p.segments ≤ 60
  pub aligned : p.entry % 4 ≡ 0
  pub in_code : Any (IsCode p.entry) p.segments

-- the bytes of words, each little-endian
abbrev pub bytes_of_words : List ℕ → List ℕ
bytes_of_words [] = []
bytes_of_words (word ∷ words) = low_bytes 4 word ++ bytes_of_words words

-- the program of words at 0x00010000, which may be read and executed and begins with its first word
abbrev pub program_of_words : List ℕ → Program
program_of_words words = record { entry = 0x00010000; segments = record { vaddr = 0x00010000; memsz = 4 * length words; rights = record { read = true; write = false; execute = true }; bytes = bytes_of_words words } ∷ [] }
