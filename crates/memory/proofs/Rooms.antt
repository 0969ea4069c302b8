-- Memories that differ in nothing but bytes that may be written.
use Rattle.std.proofs.Common.{◌≡◌, ℕ, suc, zero, ◌+◌, ◌-◌, ◌/◌, ◌%◌, ◌^◌, ◌<◌, ◌≤◌, Bool, true, false, cond, List, [], ◌∷◌, length, map, refl, sym, ap, ◌∙◌, arith, inl, inr, subst}
use Rattle.std.specs.Prelude.{slice_index, slice_index_or, nat_le, nat_lt, ◌&&◌, Option, Some, None, option_map, Result, Ok, Err, OnOk}
use Rattle.std.specs.FinMap.{get}
use Rattle.std.proofs.lemmas.Bool.{cases_lt}
use Rattle.memory_model.specs.Memory.{Memory, Cell}
use Rattle.memory_model.specs.Access.{cell_with, fault_at, put_bytes, range_fault, or_fault, to_write}
use Rattle.memory_model.specs.declared.access.Rights.{Rights}
use Rattle.memory_model.specs.declared.access.BusFault.{BusFault}
use Rattle.memory_model.specs.declared.access.BusFault.TheVariants.{NoRight}
use Rattle.memory_model.proofs.Memories.{same_memory}
use Rattle.memory.specs.Access.{Stand}
use Rattle.memory.specs.Words.{Word, cell_of, memory_of_words}
use Rattle.memory.specs.Pages.{Pages, has_word, word_in, word_among, words_of}
use Rattle.memory.specs.Rooms.{form_of, IsRoomFor, IsAlike, AreAlike}
use Rattle.memory.proofs.Cells.{get-past, get-cell}
use Rattle.memory.proofs.Stretches.{put_bytes-before, put_bytes-past, put_bytes-within, with_value}

-- ---- one cell
clash : {A : Type 0} {x : A} → None ≡ Some x → ⊥
clash e = cc

same_cell : (c d : Cell) → Some c ≡ Some d → c ≡ d
same_cell c d e = cc

form-none : (x : Option Cell) → form_of x ≡ None → x ≡ None
form-none None e = refl
form-none (Some c) e = absurd (clash (sym e))

-- a cell of the form of one with these rights
form-rights : (c : Cell) (rights : Rights) (byte : ℕ) → form_of (Some c) ≡ form_of (Some (cell_with rights byte)) → c.rights ≡ rights
form-rights c rights byte e = ap (λ (d : Cell). d.rights) (same_cell _ _ e)

form-fixed : (x : Option Cell) (rights : Rights) (byte : ℕ) → form_of x ≡ form_of (Some (cell_with rights byte)) → rights.write ≡ false → x ≡ Some (cell_with rights byte)
form-fixed None rights byte e ro = absurd (clash e)
form-fixed (Some c) rights byte e ro =
    let same : c.rights ≡ rights = form-rights c rights byte e in
    let off : c.rights.write ≡ false = ap (λ (r : Rights). r.write) same ∙ ro in
    let bytes : cond c.rights.write 0 c.byte ≡ cond rights.write 0 byte = ap (λ (d : Cell). d.byte) (same_cell _ _ e) in
    let byte_eq : c.byte ≡ byte = ap (λ b. cond b 0 c.byte) (sym off) ∙ bytes ∙ ap (λ b. cond b 0 byte) ro in
    λ i. Some (record { byte = byte_eq i; rights = same i })

form-written : (x : Option Cell) (rights : Rights) (byte b : ℕ) → form_of x ≡ form_of (Some (cell_with rights byte)) → with_value b x ≡ Some (cell_with rights b)
form-written None rights byte b e = absurd (clash e)
form-written (Some c) rights byte b e = ap (λ (r : Rights). Some (cell_with r b)) (form-rights c rights byte e)

form-may : (x : Option Cell) (rights : Rights) (byte : ℕ) (rest : Option BusFault) → form_of x ≡ form_of (Some (cell_with rights byte)) → rights.write ≡ true → fault_at to_write x rest ≡ rest
form-may None rights byte rest e may = absurd (clash e)
form-may (Some c) rights byte rest e may = ap (λ b. cond b rest (Some NoRight)) (ap (λ (r : Rights). r.write) (form-rights c rights byte e) ∙ may)

-- ---- a stretch
stand-first : (m : Memory) (at b : ℕ) (bytes : List ℕ) (rights : Rights) → Stand m at (b ∷ bytes) rights → get m at ≡ Some (cell_with rights b)
stand-first m at b bytes rights stand = ap (get m) (omega arith) ∙ stand 0 (omega arith)

stand-rest : (m : Memory) (at b : ℕ) (bytes : List ℕ) (rights : Rights) → Stand m at (b ∷ bytes) rights → Stand m (at + 1) bytes rights
stand-rest m at b bytes rights stand = λ j h.
    let place : at + 1 + j ≡ at + suc j = omega arith in
    ap (get m) place ∙ stand (suc j) (omega arith)

writable : (m from : Memory) (at : ℕ) (bytes : List ℕ) (rights : Rights) → IsRoomFor m from → Stand from at bytes rights → rights.write ≡ true → range_fault to_write m at (length bytes) ≡ None
writable m from at [] rights room stand may = refl
writable m from at (b ∷ bytes) rights room stand may =
    form-may (get m at) rights b (range_fault to_write m (at + 1) (length bytes)) (room at ∙ ap form_of (stand-first from at b bytes rights stand)) may
    ∙ writable m from (at + 1) bytes rights room (stand-rest from at b bytes rights stand) may

module _ (old new from : Memory) (at : ℕ) (bytes : List ℕ) (rights : Rights) (room : IsRoomFor old from) (stand : Stand from at bytes rights) where
  -- what may not be written stands there already
  pub fixed-same : rights.write ≡ false → (a : ℕ) → at ≤ a → a < at + length bytes → get old a ≡ get from a
  fixed-same ro a low high =
      let place : at + (a - at) ≡ a = omega arith in
      let there : get from a ≡ Some (cell_with rights (slice_index bytes (a - at))) = ap (get from) (sym place) ∙ stand (a - at) (omega arith) in
      form-fixed (get old a) rights (slice_index bytes (a - at)) (room a ∙ ap form_of there) ro ∙ sym there

  module _ (r : Result (Unit {0}) BusFault) (may : rights.write ≡ true) (answer : r ≡ or_fault (range_fault to_write old at (length bytes)) tt) (ok : OnOk r (new ≡ put_bytes old at bytes)) where
    put : new ≡ put_bytes old at bytes
    put = by r (answer ∙ ap (λ f. or_fault f tt) (writable old from at bytes rights room stand may)) ok
      where
        by : (r : Result (Unit {0}) BusFault) → r ≡ Ok tt → OnOk r (new ≡ put_bytes old at bytes) → new ≡ put_bytes old at bytes
        by (Ok x) e done = done
        by (Err f) e done = absurd cc

    pub put-copied : (a : ℕ) → at ≤ a → a < at + length bytes → get new a ≡ get from a
    put-copied a low high =
        let place : at + (a - at) ≡ a = omega arith in
        let there : get from (at + (a - at)) ≡ Some (cell_with rights (slice_index bytes (a - at))) = stand (a - at) (omega arith) in
        ap (λ (m : Memory). get m a) put ∙ ap (get (put_bytes old at bytes)) (sym place)
        ∙ put_bytes-within old at bytes (a - at) (omega arith)
        ∙ form-written (get old (at + (a - at))) rights (slice_index bytes (a - at)) (slice_index bytes (a - at)) (room (at + (a - at)) ∙ ap form_of there)
        ∙ sym there ∙ ap (get from) place

    elsewhere : (a : ℕ) → (at ≤ a → a < at + length bytes → ⊥) → get new a ≡ get old a
    elsewhere a away =
        ap (λ (m : Memory). get m a) put
        ∙ elim (cases_lt a at) [
          | inl h ↦ put_bytes-before old at bytes a h
          | inr h ↦
              elim (cases_lt a (at + length bytes)) [
                | inl l ↦ absurd (away h l)
                | inr l ↦ put_bytes-past old at bytes a l
              ]
        ]

    by_place : (Q : Type 0) (a : ℕ) → (get new a ≡ get from a → Q) → (get new a ≡ get old a → Q) → Q
    by_place Q a f g =
        elim (cases_lt a at) [
          | inl h ↦ g (elsewhere a (λ low high. omega arith))
          | inr h ↦
              elim (cases_lt a (at + length bytes)) [
                | inl l ↦ f (put-copied a h l)
                | inr l ↦ g (elsewhere a (λ low high. omega arith))
              ]
        ]

    pub put-kept : (a : ℕ) → get old a ≡ get from a → get new a ≡ get from a
    put-kept a same = by_place (get new a ≡ get from a) a (λ e. e) (λ e. e ∙ same)

    pub put-room : IsRoomFor new from
    put-room a = by_place (form_of (get new a) ≡ form_of (get from a)) a (λ e. ap form_of e) (λ e. ap form_of e ∙ room a)

-- ---- runs
alike-refl : (ps : List Pages) → AreAlike ps ps
alike-refl [] = tt
alike-refl (p ∷ ps) = (record { first = refl; read = refl; execute = refl; words = refl }, alike-refl ps)

pub alike-same : (ps qs : List Pages) → ps ≡ qs → AreAlike ps qs
alike-same ps qs e = subst (AreAlike ps) e (alike-refl ps)

among-alike : (ps qs : List Pages) (rest : Option Word) (n j : ℕ) → AreAlike ps qs → form_of (option_map (cell_of j) (word_among true ps rest n)) ≡ form_of (option_map (cell_of j) (word_among true qs rest n))
among-alike [] [] rest n j alike = refl
among-alike [] (q ∷ qs) rest n j alike = absurd alike
among-alike (p ∷ ps) [] rest n j alike = absurd alike
among-alike (p ∷ ps) (q ∷ qs) rest n j alike = by (has_word p n) (has_word q n) (λ i. nat_le (alike.0.first i) n && nat_lt (n - alike.0.first i) (alike.0.words i)) (among-alike ps qs rest n j alike.1)
  where
    other : true ≡ false → ⊥
    other e = cc

    by : (x y : Bool) → x ≡ y → form_of (option_map (cell_of j) (word_among true ps rest n)) ≡ form_of (option_map (cell_of j) (word_among true qs rest n)) → form_of (option_map (cell_of j) (cond x (Some (word_in true p n)) (word_among true ps rest n))) ≡ form_of (option_map (cell_of j) (cond y (Some (word_in true q n)) (word_among true qs rest n)))
    by true true e f = λ i. Some (record { byte = 0; rights = record { read = alike.0.read i; write = true; execute = alike.0.execute i } })
    by false false e f = f
    by true false e f = absurd (other e)
    by false true e f = absurd (other (sym e))

-- runs that are alike are room for one another
pub alike-room : (own own' shared : List Pages) → AreAlike own own' → IsRoomFor (memory_of_words (words_of own shared)) (memory_of_words (words_of own' shared))
alike-room own own' shared alike a =
    elim (cases_lt a (2 ^ 32)) [
      | inl h ↦
          ap form_of (get-cell (words_of own shared) _ a h refl) ∙ among-alike own own' (word_among false shared None (a / 4)) (a / 4) (a % 4) alike
          ∙ sym (ap form_of (get-cell (words_of own' shared) _ a h refl))
      | inr h ↦ ap form_of (get-past (words_of own shared) a (λ k. omega arith) ∙ sym (get-past (words_of own' shared) a (λ k. omega arith)))
    ]

module _ (Q : Type 0) where
  -- a word stands in one of these runs, or behind them
  by_own : (parts : List Pages) (rest : Option Word) (n : ℕ) → ((i : ℕ) (d : Pages) → i < length parts → has_word (slice_index_or parts i d) n ≡ true → Q) → (word_among true parts rest n ≡ rest → Q) → Q
  by_own [] rest n f g = g refl
  by_own (q ∷ qs) rest n f g = by (has_word q n) refl (by_own qs rest n (λ i d h. f (suc i) d (omega arith)))
    where
      by : (b : Bool) → has_word q n ≡ b → ((word_among true qs rest n ≡ rest → Q) → Q) → Q
      by true e k = f 0 q (omega arith) e
      by false e k = k (λ r. g (ap (λ b. cond b (Some (word_in true q n)) (word_among true qs rest n)) e ∙ r))

-- what has the form of a word of a shared run is that
form-shared : (shared : List Pages) (n j : ℕ) (x : Option Cell) → form_of x ≡ form_of (option_map (cell_of j) (word_among false shared None n)) → x ≡ option_map (cell_of j) (word_among false shared None n)
form-shared [] n j x e = form-none x e
form-shared (q ∷ qs) n j x e = by (has_word q n) (form-shared qs n j x) e
  where
    by : (b : Bool) → (form_of x ≡ form_of (option_map (cell_of j) (word_among false qs None n)) → x ≡ option_map (cell_of j) (word_among false qs None n)) → form_of x ≡ form_of (option_map (cell_of j) (cond b (Some (word_in false q n)) (word_among false qs None n))) → x ≡ option_map (cell_of j) (cond b (Some (word_in false q n)) (word_among false qs None n))
    by true k f = form-fixed x (word_in false q n).rights _ f refl
    by false k f = k f

-- a room in which the bytes of all own runs stand is the memory
pub filled : (new from : Memory) (own shared : List Pages) → IsRoomFor new from → memory_of_words (words_of own shared) ≡ from
    → ((i : ℕ) (d : Pages) → i < length own → (a : ℕ) → a < 2 ^ 32 → has_word (slice_index_or own i d) (a / 4) ≡ true → get new a ≡ get from a) → new ≡ from
filled new from own shared room is runs = same_memory new from (λ a. at a)
  where
    behind : (a : ℕ) → a < 2 ^ 32 → word_among true own (word_among false shared None (a / 4)) (a / 4) ≡ word_among false shared None (a / 4) → get new a ≡ get from a
    behind a h e =
        let there : get from a ≡ option_map (cell_of (a % 4)) (word_among false shared None (a / 4)) = ap (λ (m : Memory). get m a) (sym is) ∙ get-cell (words_of own shared) _ a h e in
        form-shared shared (a / 4) (a % 4) (get new a) (room a ∙ ap form_of there) ∙ sym there

    at : (a : ℕ) → get new a ≡ get from a
    at a =
        elim (cases_lt a (2 ^ 32)) [
          | inl h ↦ by_own (get new a ≡ get from a) own (word_among false shared None (a / 4)) (a / 4) (λ i d l has. runs i d l a h has) (behind a h)
          | inr h ↦
              let none : get from a ≡ None = ap (λ (m : Memory). get m a) (sym is) ∙ get-past (words_of own shared) a (λ k. omega arith) in
              form-none (get new a) (room a ∙ ap form_of none) ∙ sym none
        ]
