-- The vips of an address by where they begin. Nothing here is to be believed: no public contract rests on it.
use Rattle.std.specs.Prelude.{ℕ, Bool, not, ◌==◌, List, [], ◌∷◌, length, filter, drop}
use Rattle.std.specs.List.{before_first}

abbrev pub is_comma : ℕ → Bool
is_comma b = b == 44

-- what stands before the first comma of a text, or all of it
abbrev pub first_piece : List ℕ → List ℕ
first_piece text = before_first is_comma text

-- the vip that begins at a byte of an address
abbrev pub vip_at : List ℕ → ℕ → List ℕ
vip_at address start = first_piece (drop start address)

-- a piece of an address as its vips: none where it is empty
abbrev pub as_vips : List ℕ → List (List ℕ)
as_vips piece = filter (λ p. not (length p == 0)) (piece ∷ [])
