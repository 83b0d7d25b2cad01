-- The exit statuses.
use Rattle.std.specs.Prelude.{ℕ}

-- all is done
abbrev pub done : ℕ
done = 0

-- the words are not good
abbrev pub wrong_words : ℕ
wrong_words = 1

-- a fault of the manifest, or of what the words name beside it
abbrev pub manifest_fault : ℕ
manifest_fault = 2

-- the source is refused
abbrev pub refused : ℕ
refused = 3

-- a limit is passed
abbrev pub limit_passed : ℕ
limit_passed = 4

-- a file can't be read
abbrev pub read_fault : ℕ
read_fault = 5

-- the file can't be written
abbrev pub write_fault : ℕ
write_fault = 6

-- the output can't be put
abbrev pub output_fault : ℕ
output_fault = 7

-- memory ran out
abbrev pub memory_wanted : ℕ
memory_wanted = 8
