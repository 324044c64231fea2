-- Which places of kept texts may be empty. Nothing here is to be believed: it is the invariant of a type.
use Rattle.std.specs.Prelude.{◌≡◌, ℕ, false, List, Option, Some, None}
use Rattle.std.specs.FinMap.{get}
use Rattle.std.specs.Option.{option_flatten}
use Rattle.disco_values.specs.Key.{same_key}
use Rattle.disco_values.specs.declared.key.Key.{Key}
use Rattle.disco_writer.specs.Kept.{Places}

abbrev pub IsNextKey : Option (Key × List ℕ) → Key → Type 0
IsNextKey None q = ⊥
IsNextKey (Some p) q = q ≡ p.0

-- no place is empty but that of what is put next
abbrev pub OnlyNextIsEmpty : Option (Key × List ℕ) → Places → Type 0
OnlyNextIsEmpty next places = (q : Key) → get places q ≡ Some None → IsNextKey next q

-- ---- what the private steps do

-- no text changes
abbrev pub ShowSame : Places → Places → Type 0
ShowSame old new = (q : Key) → option_flatten (get new q) ≡ option_flatten (get old q)

-- a place that is empty then was so before, or is that of the key
abbrev pub OpensOnly : Key → Places → Places → Type 0
OpensOnly k old new = (q : Key) → same_key q k ≡ false → get new q ≡ Some None → get old q ≡ Some None

-- the place of the key isn't empty, and no other was made
abbrev pub SweepsAt : Key → Places → Places → Type 0
SweepsAt k old new = (q : Key) → get new q ≡ Some None → (same_key q k ≡ false) × (get old q ≡ Some None)
