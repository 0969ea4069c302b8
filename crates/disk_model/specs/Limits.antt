-- How many files there may be, how long they and their names may be, and how much one write may have.
use Rattle.std.specs.Prelude.{ℕ}

-- the most files that there are at a time
abbrev pub most_files : ℕ
most_files = 32

-- the most bytes of a file's name
abbrev pub longest_name : ℕ
longest_name = 32

-- the most bytes of a file
abbrev pub longest_file : ℕ
longest_file = 16384

-- the most bytes that one change writes to a file
abbrev pub longest_file_write : ℕ
longest_file_write = 1024
