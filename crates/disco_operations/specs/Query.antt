-- The names and values of a URL's query string (the URL Standard's application/x-www-form-urlencoded).
use Rattle.std.specs.Prelude.{ℕ, List, [], ◌∷◌, map, Option, Some, None, if◌then◌else◌, codes}
use Rattle.std.specs.Str.{bytes_eq}
use Rattle.std.specs.Str.Lossy.{utf8_lossy}
use Rattle.form_urlencoded.specs.Form.{decode, raw_pairs}
use Rattle.disco_values.specs.Entries.{entries_of}

-- a name or a value, decoded: `+` is a space, and bytes that are not UTF-8 become U+FFFD
abbrev pub text_of : List ℕ → List ℕ
text_of encoded = utf8_lossy (decode encoded)

-- the names and values of a query
abbrev pub pairs_of : List ℕ → List (List ℕ × List ℕ)
pairs_of query = map (λ p. (text_of p.0, text_of p.1)) (raw_pairs query)

-- the entries of a change of metadata
abbrev pub entries_of_query : List ℕ → List (List ℕ × List ℕ)
entries_of_query query = entries_of (pairs_of query)

-- what the first pair named `value` gives
abbrev pub first_value : List (List ℕ × List ℕ) → Option (List ℕ)
first_value [] = None
first_value (p ∷ ps) = if bytes_eq p.0 (codes "value") then Some p.1 else first_value ps

-- the `value` of a query, if it gives one
abbrev pub value_of : List ℕ → Option (List ℕ)
value_of query = first_value (pairs_of query)
