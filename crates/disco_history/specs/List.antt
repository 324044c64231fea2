-- Held records in the order of their keys. Nothing here is to be believed: no public contract rests on it.
use Rattle.std.specs.Prelude.{ℕ, List}
use Rattle.std.specs.FinMap.{FinMap}
use Rattle.disco_values.specs.Key.{key_cmp}
use Rattle.disco_values.specs.declared.key.Key.{Key}
use Rattle.disco_history.specs.Change.{Entry}
use Rattle.disco_history.specs.Held.{entry_of}
use Rattle.disco_history.specs.SortedBy.{AreSortedBy, IsAtBy, IsGapBy, map_by}
use Rattle.disco_history.specs.declared.held.Held.{Held}

abbrev pub key_in : Held → Key
key_in h = h.rec.value.key

abbrev pub AreSorted : List Held → Type 0
AreSorted hs = AreSortedBy key_cmp key_in entry_of hs

abbrev pub map_of : List Held → FinMap key_cmp Entry
map_of hs = map_by key_cmp key_in entry_of hs

-- the record at place i is that of the key
abbrev pub IsAt : List Held → Key → ℕ → Type 0
IsAt hs k i = IsAtBy key_cmp key_in hs k i

-- no record is of the key, and it would go to place i
abbrev pub IsGap : List Held → Key → ℕ → Type 0
IsGap hs k i = IsGapBy key_cmp key_in hs k i
