-- Words of a line, with one space between them.
use Rattle.std.specs.Prelude.{ℕ, List, [], ◌∷◌, Option, Some, None, ◌==◌, if◌then◌else◌, option_and_then, nat_lt}
use Rattle.std.specs.List.{join_with_byte, slice_split}
use Rattle.disco_operations.specs.Decoding.{decoded_text}
use Rattle.disco_values.specs.Digits.{digits_number}

-- the words of a line: what stands between its spaces, and before the first and behind the last
abbrev pub words : List ℕ → List (List ℕ)
words line = slice_split (λ b. b == 32) line

-- words as they stand in their line
abbrev pub joined : List (List ℕ) → List ℕ
joined parts = join_with_byte 32 parts

-- the moment that a word names, or the number of an event
abbrev pub moment_of_word : List ℕ → Option ℕ
moment_of_word word = option_and_then digits_number (decoded_text word)

-- the client that a word names, by a number below 2^32
abbrev pub client_of_word : List ℕ → Option ℕ
client_of_word word = option_and_then (λ n. if nat_lt n 4294967296 then Some n else None) (moment_of_word word)

-- the one word that is left, if there is just one
abbrev pub only : List (List ℕ) → Option (List ℕ)
only (word ∷ []) = Some word
only _ = None

-- what it spells
abbrev pub only_text : List (List ℕ) → Option (List ℕ)
only_text more = option_and_then decoded_text (only more)

-- and the moment that it names
abbrev pub only_moment : List (List ℕ) → Option ℕ
only_moment more = option_and_then moment_of_word (only more)
