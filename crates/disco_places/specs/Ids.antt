-- How an `IdMap` and its iterator are stored. Nothing here is to be believed: no public contract rests on it.
use Rattle.std.specs.Prelude.{ℕ, List, [], ◌∷◌, None, Some}
use Rattle.std.specs.Map.Iter.{deref_pair}
use Rattle.std.specs.FinMap.{FinMap, from_entries}
use Rattle.disco_places.specs.KeyMaps.{text_cmp}
use Rattle.disco_places.specs.declared.ids.Ids.{Ids}
use Rattle.disco_places.specs.declared.ids.Ids.TheVariants as ids
use Rattle.disco_places.specs.declared.rest.Rest.{Rest}
use Rattle.disco_places.specs.declared.rest.Rest.TheVariants as rest

-- the entries that are kept in one of the ways
abbrev pub kept_in : {X : Type 0} → Ids X → List (List ℕ × X)
kept_in ids.Empty = []
kept_in (ids.One k x) = (k, x) ∷ []
kept_in (ids.Many m) = m.entries

-- the map of them
abbrev pub map_in : {X : Type 0} → Ids X → FinMap text_cmp X
map_in ids = from_entries (kept_in ids)

-- those that an iterator has left
abbrev pub left_in : {X : Type 0} → Rest X → List (List ℕ × X)
left_in (rest.One None) = []
left_in (rest.One (Some p)) = deref_pair p ∷ []
left_in (rest.Many es) = es
