-- What becomes of a source: the file of its image, and the first state of a machine that is loaded from it.
use Rattle.std.specs.Prelude.{◌≡◌, ℕ, ◌+◌, ◌*◌, List, [], ◌∷◌, ◌++◌, All, Ok}
use Rattle.formats.specs.{Meaning.Means, declared.instr.Instr.Instr}
use Rattle.memory_model.specs.{Memory.Memory, Access.fetched}
use Rattle.machine_model.specs.{Images.Program, Images.IsProfile, First.first_state}
use Rattle.elf32.specs.Files.{file_of}
use Rattle.image_model.specs.{Names.Names, Names.IsRefused, declared.fault.ElfFault.ElfFault, declared.fault.ElfFault.TheVariants.OutOfMemory}
use Rattle.asm_text.specs.{Text.IsText, declared.token.Line.Line}
use Rattle.assembler.specs.{Sections.IsInstruction, Sections.IsListedInstruction, declared.listing.ListingRow.ListingRow}
use Rattle.asm_statements.specs.{Expansion.instructions_of, declared.mnemonic.Mnemonic.Mnemonic, declared.operands.Operands.Operands}

-- a file names this program and no other, and is refused for want of memory alone
pub record NamesAlone (file : List ℕ) (program : Program) : Type 0 where
  pub named : Names file program
  pub alone : (p : Program) → Names file p → p ≡ program
  pub refused : (why : ElfFault) → IsRefused file why → why ≡ OutOfMemory

-- a row's word is fetched at the row's address
abbrev pub IsFetched : Memory → ListingRow → Type 0
IsFetched memory row = fetched memory row.address ≡ Ok row.word

-- the words that are fetched one after the other from an address on mean these instructions, in order
abbrev pub AreFetched : Memory → ℕ → List Instr → Type 0
AreFetched memory at [] = Unit {0}
AreFetched memory at (i ∷ instructions) = (word : ℕ) × (fetched memory at ≡ Ok word) × Means word i × AreFetched memory (at + 4) instructions

-- Each instruction in the text of a source, with so many words of text before it, is listed; and the words that are fetched from
-- its address on mean the instructions that it stands for.
abbrev pub FetchesInstructions : List ℕ → List ListingRow → Memory → Type 0
FetchesInstructions source listing memory =
    (before : List Line) (line : Line) (after : List Line) (words : ℕ) (m : Mnemonic) (o : Operands)
    → IsText source (before ++ line ∷ after) → IsInstruction source before line words m o
    → (listed : IsListedInstruction source (before ++ line ∷ after) line words m o listing)
    × AreFetched memory (65536 + 4 * words) (instructions_of listed.expansion)

-- What a source assembles to may be loaded, and its file names it alone. In the first state of a machine that is loaded from it
-- each listed word is fetched at its address, and so is each instruction in text, word by word.
pub record IsLoadedAsListed (source : List ℕ) (image : Program) (listing : List ListingRow) : Type 0 where
  pub profile : IsProfile image
  pub file : NamesAlone (file_of image) image
  pub rows : All (IsFetched (first_state image).architectural.memory) listing
  pub instructions : FetchesInstructions source listing (first_state image).architectural.memory
