-- The rest of a text behind another one. Nothing here is to be believed: no public contract rests on it.
use Rattle.std.specs.Prelude.{ℕ, List, [], ◌∷◌, ◌==◌, if◌then◌else◌, Option, Some, None}

-- what follows the first text in the second, where the second begins with it
abbrev pub behind : List ℕ → List ℕ → Option (List ℕ)
behind [] text = Some text
behind (c ∷ cs) [] = None
behind (c ∷ cs) (d ∷ text) = if d == c then behind cs text else None
