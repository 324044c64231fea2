-- The upper case of a text.
use Rattle.std.specs.Prelude.{ℕ, List, map}
use Rattle.std.specs.Char.{to_ascii_uppercase}

-- ASCII letters in upper case, all other bytes as they are (this project's own rule)
abbrev pub in_upper_case : List ℕ → List ℕ
in_upper_case text = map to_ascii_uppercase text
