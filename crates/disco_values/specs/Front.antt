-- The front of a text, for private clauses. Nothing here need be believed.
use Rattle.std.specs.Prelude.{ℕ, ◌<◌, ◌+◌, ◌*◌, ◌/◌, List, [], ◌∷◌, get_or, length, min}
use Rattle.std.specs.Int.{from_be_bytes, w64}

-- the first eight bytes as one number, the first of them the highest, with 0 for each that isn't there
unfoldable pub first_eight : List ℕ → ℕ
first_eight s =
    from_be_bytes w64
    (get_or s 0 0 ∷ get_or s 1 0 ∷ get_or s 2 0 ∷ get_or s 3 0 ∷ get_or s 4 0 ∷ get_or s 5 0 ∷ get_or s 6 0 ∷ get_or s 7 0 ∷ [])

-- the number with its low byte replaced by the length, at most eight
abbrev pub with_len : ℕ → ℕ → ℕ
with_len eight len = eight / 256 * 256 + min len 8

unfoldable pub front_of : List ℕ → ℕ
front_of s = with_len (first_eight s) (length s)

abbrev pub AreBytes : List ℕ → Type 0
AreBytes s = (i : ℕ) → get_or s i 0 < 256
