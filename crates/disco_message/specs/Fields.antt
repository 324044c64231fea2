-- The fields of a head, by their names, and lists in their values.
use Rattle.std.specs.Prelude.{ℕ, Bool, ◌==◌, List, [], ◌∷◌, if◌then◌else◌}
use Rattle.std.specs.List.{list_any, slice_split}
use Rattle.std.specs.Str.{str_eq_ignore_ascii_case}
use Rattle.httparse.specs.Grammar.{trim_ows}

-- the same text, but for the case of ASCII letters
unfoldable pub eq_ignore_case : List ℕ → List ℕ → Bool
eq_ignore_case a b = str_eq_ignore_ascii_case a b

-- the values of the fields of this name, in any case, in their order (RFC 9110, section 5)
abbrev pub field_values : List ℕ → List (List ℕ × List ℕ) → List (List ℕ)
field_values name [] = []
field_values name (f ∷ fs) = if eq_ignore_case f.0 name then f.1 ∷ field_values name fs else field_values name fs

-- one of the elements between the commas of a list is this word, in any case, with spaces and tabs round it or not (RFC 9110, section 5.6.1)
abbrev pub lists : List ℕ → List ℕ → Bool
lists word list = list_any (λ element. eq_ignore_case (trim_ows element) word) (slice_split (λ b. b == 44) list)
