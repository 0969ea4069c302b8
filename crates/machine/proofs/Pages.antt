-- A program's first memory, segment by segment.
use Rattle.std.proofs.Common.{◌≡◌, ℕ, suc, zero, ◌+◌, ◌-◌, ◌*◌, ◌/◌, ◌^◌, ◌<◌, ◌≤◌, Bool, true, false, cond, leb, ltb, List, [], ◌∷◌, ◌++◌, length, get_or, replicate, take, refl, sym, ap, subst, ◌∙◌, arith, inl, inr}
use Rattle.std.specs.Prelude.{◌&&◌, Option, Some, None, All, drop, slice_index, slice_index_or}
use Rattle.std.specs.FinMap.{get}
use Rattle.std.proofs.lemmas.Bool.Decides.{leb_tells, nat_tests}
use Rattle.std.proofs.lemmas.List.Elements.{All-head, All-tail}
use Rattle.std.proofs.lemmas.List.{get_or-append_right, get_or_append_left, get_or-replicate, get_or_past, take_all, take_rest, length-append, length-replicate}
use Rattle.memory_model.specs.Memory.{Memory, Cell, memory_of}
use Rattle.memory_model.specs.Access.{HoldsBytes, byte_of, mapped, cell_with}
use Rattle.memory_model.specs.declared.access.Rights.{Rights}
use Rattle.memory_model.proofs.Memories.{get-memory_of, same_memory}
use Rattle.machine_model.specs.declared.image.Segment.{Segment}
use Rattle.machine_model.specs.Images.{IsLoadable, AreAscending, first_page, last_page, page_count}
use Rattle.machine_model.specs.First.{first_cell, byte_at}

zeros-at : (n k : ℕ) → slice_index (replicate n 0) k ≡ 0
zeros-at n k =
    elim (leb_tells (suc k) n) [
      | inl f ↦ get_or-replicate n k 0 0 (omega (arith, f.1))
      | inr f ↦ get_or_past (replicate n 0) k 0 (omega (arith, f.1, length-replicate n (zero)))
    ]

-- zeros, bytes and zeros again
pub padded-at : (zeros : ℕ) (bytes : List ℕ) (rest k : ℕ) → slice_index ((replicate zeros 0 ++ bytes) ++ replicate rest 0) k ≡ cond (leb zeros k) (get_or bytes (k - zeros) 0) 0
padded-at zeros bytes rest k =
    elim (leb_tells (suc k) (zeros + length bytes)) [
      | inl f ↦ get_or_append_left (replicate zeros 0 ++ bytes) (replicate rest 0) 0 k (omega (arith, f.1, size)) ∙ prefix
      | inr f ↦
          get_or-append_right (replicate zeros 0 ++ bytes) (replicate rest 0) (zeros + length bytes) k 0 size (omega (arith, f.1)) ∙ zeros-at rest (k - (zeros + length bytes))
          ∙ sym (beyond (omega (arith, f.1)))
    ]
  where
    size : length (replicate zeros 0 ++ bytes) ≡ zeros + length bytes
    size = omega (arith, length-append (replicate zeros 0) bytes, length-replicate zeros (zero))

    prefix : get_or (replicate zeros 0 ++ bytes) k 0 ≡ cond (leb zeros k) (get_or bytes (k - zeros) 0) 0
    prefix =
        elim (leb_tells zeros k) [
          | inl f ↦ get_or-append_right (replicate zeros 0) bytes zeros k 0 (length-replicate zeros (zero)) f.1 ∙ sym (ap (λ (b : Bool). cond b (get_or bytes (k - zeros) 0) 0) f.0)
          | inr f ↦ get_or_append_left (replicate zeros 0) bytes 0 k (omega (arith, f.1, length-replicate zeros (zero))) ∙ zeros-at zeros k ∙ sym (ap (λ (b : Bool). cond b (get_or bytes (k - zeros) 0) 0) f.0)
        ]

    beyond : zeros + length bytes ≤ k → cond (leb zeros k) (get_or bytes (k - zeros) 0) 0 ≡ 0
    beyond far =
        elim (leb_tells zeros k) [
          | inl f ↦ ap (λ (b : Bool). cond b (get_or bytes (k - zeros) 0) 0) f.0 ∙ get_or_past bytes (k - zeros) 0 (omega (arith, far))
          | inr f ↦ ap (λ (b : Bool). cond b (get_or bytes (k - zeros) 0) 0) f.0
        ]

-- bytes between zeros, as they are put together
pub padded : (zeros size n0 n1 : ℕ) (bytes none first second all : List ℕ) → none ≡ [] → n0 ≡ 0 → first ≡ take zeros none ++ replicate (zeros - n0) 0 → second ≡ first ++ bytes → all ≡ take size second ++ replicate (size - n1) 0
    → zeros + length bytes ≤ size → (k : ℕ) → slice_index all k ≡ cond (leb zeros k) (slice_index bytes (k - zeros)) 0
padded zeros size n0 n1 bytes none first second all empty n0-is first-is second-is all-is fits k =
    ap (λ (items : List ℕ). slice_index items k) (all-is ∙ ap (λ (items : List ℕ). items ++ replicate (size - n1) 0) (take_all size second short ∙ whole)) ∙ padded-at zeros bytes (size - n1) k
  where
    prefix : first ≡ replicate zeros 0
    prefix = first-is ∙ ap (λ (items : List ℕ). take zeros items ++ replicate (zeros - n0) 0) empty ∙ ap (λ (items : List ℕ). items ++ replicate (zeros - n0) 0) (take_all zeros [] (omega arith)) ∙ ap (λ (n : ℕ). replicate n 0) (omega (arith, n0-is))

    whole : second ≡ replicate zeros 0 ++ bytes
    whole = second-is ∙ ap (λ (items : List ℕ). items ++ bytes) prefix

    short : length second ≤ size
    short = omega (arith, ap length whole, length-append (replicate zeros 0) bytes, length-replicate zeros (zero), fits)

-- each of them is a byte
pub padded-small : (zeros : ℕ) (bytes all : List ℕ) → ((k : ℕ) → get_or bytes k 0 < 256) → ((k : ℕ) → slice_index all k ≡ cond (leb zeros k) (slice_index bytes (k - zeros)) 0) → (k : ℕ) → slice_index all k < 256
padded-small zeros bytes all small is k = subst (λ (b : ℕ). b < 256) (sym (is k)) (by (leb zeros k))
  where
    by : (t : Bool) → cond t (slice_index bytes (k - zeros)) 0 < 256
    by true = small (k - zeros)
    by false = omega arith

within : (q : ℕ) → q < 2 ^ 32 → ltb q (2 ^ 32) ≡ true
within q small = grind (arith, nat_tests)

-- what stands in a memory made from a function once bytes are mapped
get-mapped : (f : ℕ → Option Cell) (at : ℕ) (rights : Rights) (bytes : List ℕ) (q : ℕ) → q < 2 ^ 32
    → get (mapped (memory_of f) at rights bytes) q ≡ cond (leb at q && ltb q (at + length bytes)) (Some (cell_with rights (slice_index bytes (q - at)))) (f q)
get-mapped f at rights bytes q small =
    get-memory_of _ q
    ∙ ap (λ (b : Bool). cond b (cond (leb at q && ltb q (at + length bytes)) (Some (cell_with rights (slice_index bytes (q - at)))) (get (memory_of f) q)) None) (within q small)
    ∙ ap (cond (leb at q && ltb q (at + length bytes)) (Some (cell_with rights (slice_index bytes (q - at))))) (get-memory_of f q ∙ ap (λ (b : Bool). cond b (f q) None) (within q small))

-- mapped memories by what stands at each address
pub mapped-is : (f g : ℕ → Option Cell) (at : ℕ) (rights : Rights) (bytes : List ℕ)
    → ((q : ℕ) → q < 2 ^ 32 → cond (leb at q && ltb q (at + length bytes)) (Some (cell_with rights (slice_index bytes (q - at)))) (f q) ≡ g q)
    → mapped (memory_of f) at rights bytes ≡ memory_of g
mapped-is f g at rights bytes same = same_memory (mapped (memory_of f) at rights bytes) (memory_of g) (λ q. alike q)
  where
    alike : (q : ℕ) → get (mapped (memory_of f) at rights bytes) q ≡ get (memory_of g) q
    alike q =
        elim (leb_tells (suc q) (2 ^ 32)) [
          | inl h ↦ get-mapped f at rights bytes q (omega (arith, h.1)) ∙ same q (omega (arith, h.1)) ∙ sym (get-memory_of g q ∙ ap (λ (b : Bool). cond b (g q) None) h.0)
          | inr h ↦ get-memory_of (λ a. cond (leb at a && ltb a (at + length bytes)) (Some (cell_with rights (slice_index bytes (a - at)))) (get (memory_of f) a)) q ∙ ap (λ (b : Bool). cond b (cond (leb at q && ltb q (at + length bytes)) (Some (cell_with rights (slice_index bytes (q - at)))) (get (memory_of f) q)) None) h.0 ∙ sym (get-memory_of g q ∙ ap (λ (b : Bool). cond b (g q) None) h.0)
        ]

page_from : (first q : ℕ) → leb (4096 * first) q ≡ leb first (q / 4096)
page_from first q =
    elim (leb_tells (4096 * first) q) [
      | inl f ↦ elim (leb_tells first (q / 4096)) [ inl g ↦ f.0 ∙ sym g.0 | inr g ↦ absurd (omega (arith, f.1, g.1)) ]
      | inr f ↦ elim (leb_tells first (q / 4096)) [ inl g ↦ absurd (omega (arith, f.1, g.1)) | inr g ↦ f.0 ∙ sym g.0 ]
    ]

page_to : (first last size q : ℕ) → first ≤ last → size ≡ 4096 * (last + 1 - first) → ltb q (4096 * first + size) ≡ leb (q / 4096) last
page_to first last size q some is =
    elim (leb_tells (suc q) (4096 * first + size)) [
      | inl f ↦ elim (leb_tells (q / 4096) last) [ inl g ↦ f.0 ∙ sym g.0 | inr g ↦ absurd (omega (arith, f.1, g.1, some, is)) ]
      | inr f ↦ elim (leb_tells (q / 4096) last) [ inl g ↦ absurd (omega (arith, f.1, g.1, some, is)) | inr g ↦ f.0 ∙ sym g.0 ]
    ]

pub first_page-le : (s : Segment) → IsLoadable s → first_page s ≤ last_page s
first_page-le s ok = omega (arith, ok.present)

-- a segment's pages over those of the segments after it
pub mapped-segment : (s : Segment) (rest : List Segment) (bytes : List ℕ) → IsLoadable s → length bytes ≡ 4096 * page_count s → ((k : ℕ) → slice_index bytes k ≡ byte_at s (4096 * first_page s + k))
    → mapped (memory_of (first_cell rest)) (4096 * first_page s) s.rights bytes ≡ memory_of (first_cell (s ∷ rest))
mapped-segment s rest bytes ok size is = mapped-is (first_cell rest) (first_cell (s ∷ rest)) (4096 * first_page s) s.rights bytes (λ q small. alike q)
  where
    alike : (q : ℕ) → cond (leb (4096 * first_page s) q && ltb q (4096 * first_page s + length bytes)) (Some (cell_with s.rights (slice_index bytes (q - 4096 * first_page s)))) (first_cell rest q) ≡ first_cell (s ∷ rest) q
    alike q =
        elim (leb_tells (4096 * first_page s) q) [
          | inl f ↦
              ap (λ (b : Bool). cond (b && ltb q (4096 * first_page s + length bytes)) (Some (cell_with s.rights (slice_index bytes (q - 4096 * first_page s)))) (first_cell rest q)) (page_from (first_page s) q)
              ∙ ap (λ (b : Bool). cond (leb (first_page s) (q / 4096) && b) (Some (cell_with s.rights (slice_index bytes (q - 4096 * first_page s)))) (first_cell rest q)) (page_to (first_page s) (last_page s) (length bytes) q (first_page-le s ok) size)
              ∙ ap (λ (byte : ℕ). cond (leb (first_page s) (q / 4096) && leb (q / 4096) (last_page s)) (Some (cell_with s.rights byte)) (first_cell rest q)) (is (q - 4096 * first_page s) ∙ ap (byte_at s) (omega (arith, f.1)))
          | inr f ↦
              ap (λ (b : Bool). cond (b && ltb q (4096 * first_page s + length bytes)) (Some (cell_with s.rights (slice_index bytes (q - 4096 * first_page s)))) (first_cell rest q)) f.0
              ∙ sym (ap (λ (b : Bool). cond (b && leb (q / 4096) (last_page s)) (Some (cell_with s.rights (byte_at s q))) (first_cell rest q)) (sym (page_from (first_page s) q) ∙ f.0))
        ]

-- below the pages of segments and below the stack nothing stands
pub first_cell-below : (page : ℕ) (segments : List Segment) (a : ℕ) → All IsLoadable segments → AreAscending page segments → a < 4096 * page → a < 0x7FFF0000 → first_cell segments a ≡ None
first_cell-below page [] a ok up small low = grind (arith, nat_tests)
first_cell-below page (s ∷ ss) a ok up small low =
    ap (λ (b : Bool). cond (b && leb (a / 4096) (last_page s)) (Some (cell_with s.rights (byte_at s a))) (first_cell ss a)) before
    ∙ first_cell-below (last_page s + 1) ss a (All-tail IsLoadable s ss ok) up.1 (omega (arith, small, up.0, first_page-le s (All-head IsLoadable s ss ok))) low
  where
    before : leb (first_page s) (a / 4096) ≡ false
    before = elim (leb_tells (first_page s) (a / 4096)) [ inl f ↦ absurd (omega (arith, f.1, up.0, small)) | inr f ↦ f.0 ]

-- the first element of a list, and the rest
pub first-rest : (segments : List Segment) (s : Segment) → 0 < length segments → s ≡ slice_index_or segments 0 s → segments ≡ s ∷ take (length segments - 1) (drop 1 segments)
first-rest segments s some is = whole segments some is ∙ ap (λ (rest : List Segment). s ∷ rest) (sym (take_rest segments 1))
  where
    whole : (list : List Segment) → 0 < length list → s ≡ slice_index_or list 0 s → list ≡ s ∷ drop 1 list
    whole [] some is = absurd (omega (arith, some))
    whole (x ∷ xs) some is = ap (λ (y : Segment). y ∷ xs) (sym is)

-- where a segment's pages go, nothing stands yet
pub segment-free : (segments rest : List Segment) (s : Segment) (page : ℕ) (bytes : List ℕ) (m : Memory) → segments ≡ s ∷ rest → All IsLoadable segments → AreAscending page segments → length bytes ≡ 4096 * page_count s → m ≡ memory_of (first_cell rest)
    → (a : ℕ) → 4096 * first_page s ≤ a → a < 4096 * first_page s + length bytes → get m a ≡ None
segment-free segments rest s page bytes m is loadable up size from a low high =
    ap (λ (x : Memory). get x a) from ∙ get-memory_of (first_cell rest) a ∙ ap (λ (c : Option Cell). cond (ltb a (2 ^ 32)) c None) empty ∙ none (ltb a (2 ^ 32))
  where
    none : (b : Bool) → cond {A = Option Cell} b None None ≡ None
    none true = refl
    none false = refl

    all : All IsLoadable (s ∷ rest)
    all = subst (All IsLoadable) is loadable

    ok : IsLoadable s
    ok = All-head IsLoadable s rest all

    ascending : AreAscending page (s ∷ rest)
    ascending = subst (AreAscending page) is up

    empty : first_cell rest a ≡ None
    empty =
        first_cell-below (last_page s + 1) rest a (All-tail IsLoadable s rest all) ascending.1
        (omega (arith, high, size, first_page-le s ok)) (omega (arith, high, size, first_page-le s ok, ok.below, ok.present))

-- the memory once a segment's pages are there
pub segment-mapped : (segments rest : List Segment) (s : Segment) (bytes : List ℕ) (m new : Memory) → segments ≡ s ∷ rest → All IsLoadable segments → length bytes ≡ 4096 * page_count s → ((k : ℕ) → slice_index bytes k ≡ byte_at s (4096 * first_page s + k)) → m ≡ memory_of (first_cell rest)
    → new ≡ mapped m (4096 * first_page s) s.rights bytes → new ≡ memory_of (first_cell segments)
segment-mapped segments rest s bytes m new is loadable size spelled from e =
    e ∙ ap (λ (x : Memory). mapped x (4096 * first_page s) s.rights bytes) from
    ∙ mapped-segment s rest bytes (All-head IsLoadable s rest (subst (All IsLoadable) is loadable)) size spelled
    ∙ ap (λ (list : List Segment). memory_of (first_cell list)) (sym is)

-- where nothing stands
pub nothing-free : (m : Memory) → m ≡ memory_of (λ _. None) → (a : ℕ) → get m a ≡ None
nothing-free m from a = ap (λ (x : Memory). get x a) from ∙ get-memory_of (λ _. None) a ∙ none (ltb a (2 ^ 32))
  where
    none : (b : Bool) → cond {A = Option Cell} b None None ≡ None
    none true = refl
    none false = refl

-- the memory once the stack alone is there
pub stack-mapped : (m new : Memory) (bytes : List ℕ) → m ≡ memory_of (λ _. None) → length bytes ≡ 16384 → ((k : ℕ) → slice_index bytes k ≡ cond (leb 0 k) (slice_index [] (k - 0)) 0)
    → new ≡ mapped m 0x7FFFC000 (record { read = true; write = true; execute = false }) bytes → new ≡ memory_of (first_cell [])
stack-mapped m new bytes from size is e =
    e ∙ ap (λ (x : Memory). mapped x 0x7FFFC000 (record { read = true; write = true; execute = false }) bytes) from
    ∙ mapped-is (λ _. None) (first_cell []) 0x7FFFC000 (record { read = true; write = true; execute = false }) bytes (λ q small. alike q)
  where
    zero_byte : (k : ℕ) → cond (leb 0 k) 0 0 ≡ zero
    zero_byte k = elim (leb_tells 0 k) [ inl f ↦ ap (λ (b : Bool). cond b 0 0) f.0 | inr f ↦ ap (λ (b : Bool). cond b 0 0) f.0 ]

    alike : (q : ℕ) → cond (leb 0x7FFFC000 q && ltb q (0x7FFFC000 + length bytes)) (Some (cell_with (record { read = true; write = true; execute = false }) (slice_index bytes (q - 0x7FFFC000)))) None ≡ first_cell [] q
    alike q =
        ap (λ (n : ℕ). cond (leb 0x7FFFC000 q && ltb q (0x7FFFC000 + n)) (Some (cell_with (record { read = true; write = true; execute = false }) (slice_index bytes (q - 0x7FFFC000)))) None) size
        ∙ ap (λ (byte : ℕ). cond (leb 0x7FFFC000 q && ltb q 0x80000000) (Some (cell_with (record { read = true; write = true; execute = false }) byte)) None) (is (q - 0x7FFFC000) ∙ zero_byte (q - 0x7FFFC000))

-- a memory that holds bytes does so once bytes are mapped
pub mapped-holds : (m new : Memory) (at : ℕ) (rights : Rights) (bytes : List ℕ) → HoldsBytes m → ((k : ℕ) → slice_index bytes k < 256) → new ≡ mapped m at rights bytes → HoldsBytes new
mapped-holds m new at rights bytes holds small e a =
    subst (λ (c : Option Cell). byte_of c < 256)
    (sym (ap (λ (x : Memory). get x a) e ∙ get-memory_of (λ q. cond (leb at q && ltb q (at + length bytes)) (Some (cell_with rights (slice_index bytes (q - at)))) (get m q)) a))
    (by (ltb a (2 ^ 32)) (leb at a && ltb a (at + length bytes)))
  where
    by : (below there : Bool) → byte_of (cond below (cond there (Some (cell_with rights (slice_index bytes (a - at)))) (get m a)) None) < 256
    by true true = small (a - at)
    by true false = holds a
    by false there = omega arith

-- where nothing stands, bytes do
pub nothing-holds : (m : Memory) → m ≡ memory_of (λ _. None) → HoldsBytes m
nothing-holds m from a = subst (λ (c : Option Cell). byte_of c < 256) (sym (nothing-free m from a)) (omega arith)
