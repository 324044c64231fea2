-- A text with zeros behind it, for private clauses. Nothing here need be believed.
use Rattle.std.specs.Prelude.{◌≡◌, ℕ, List, get_or, take}

-- zeros stand behind so many bytes
abbrev pub IsPadded : ℕ → List ℕ → Type 0
IsPadded len bytes = (i : ℕ) → get_or bytes i 0 ≡ get_or (take len bytes) i 0
