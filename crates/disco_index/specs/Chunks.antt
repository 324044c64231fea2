-- Places in chunks, as they are stored. Nothing here is to be believed: no public contract rests on it.
use Rattle.std.specs.Prelude.{ℕ, suc, Bool, false, ◌&&◌, List, [], ◌∷◌, map, filter, take, drop}
use Rattle.std.specs.Cmp.Lexicographic.{slice_cmp}
use Rattle.std.specs.Ordering.{is_lt, nat_cmp}
use Rattle.std.specs.Str.{bytes_eq}
use Rattle.disco_values.specs.declared.key.Key.{Key}
use Rattle.disco_history.specs.SortedBy.{AreSortedBy, IsAtBy, IsGapBy}
use Rattle.disco_index.specs.ChunkedBy.{ComesAfterAll, ComesBeforeAll, HasNoEmpty, flat}
use Rattle.disco_index.specs.Names.{Name, name_cmp, nested}
use Rattle.disco_index.specs.Vips.{KeysByVip}

-- a place, true where the instance is there
abbrev pub Placed : Type 0
Placed = Name × Bool

abbrev pub Chunks : Type 0
Chunks = List (List Placed)

abbrev pub name_in : Placed → Name
name_in p = p.0

abbrev pub is_there : Placed → Bool
is_there p = p.1

abbrev pub all_in : Chunks → List Placed
all_in cs = flat (λ c. c) cs

abbrev pub AreInOrder : List Placed → Type 0
AreInOrder ps = AreSortedBy name_cmp name_in is_there ps

abbrev pub HasNoEmptyChunk : Chunks → Type 0
HasNoEmptyChunk cs = HasNoEmpty (λ c. c) cs

-- the places are in the order of their names, and no chunk is empty
pub record AreChunks (cs : Chunks) : Type 0 where
  pub in_order : AreInOrder (all_in cs)
  pub none_empty : HasNoEmptyChunk cs

abbrev pub by_vip : Chunks → KeysByVip
by_vip cs = nested (all_in cs)

-- the place at i is that of the name
abbrev pub IsPlaceAt : List Placed → Name → ℕ → Type 0
IsPlaceAt ps n i = IsAtBy name_cmp name_in ps n i

-- no place is of the name, and it would go to i
abbrev pub IsPlaceGap : List Placed → Name → ℕ → Type 0
IsPlaceGap ps n i = IsGapBy name_cmp name_in ps n i

-- the place of the name is in this chunk, or would go there
pub record IsChunkOf (cs : Chunks) (n : Name) (at : ℕ) : Type 0 where
  pub after : ComesAfterAll name_cmp name_in n (all_in (take at cs))
  pub before : ComesBeforeAll name_cmp name_in n (all_in (drop (suc at) cs))

-- the keys of the places of a vip that are there
abbrev pub keys_under : List ℕ → List Placed → List Key
keys_under q ps = map (λ p. p.0.key) (filter (λ p. bytes_eq q p.0.vip && p.1) ps)

-- the first of them is of a vip behind this one
abbrev pub starts_after : List ℕ → List Placed → Bool
starts_after q [] = false
starts_after q (p ∷ ps) = is_lt (slice_cmp nat_cmp q p.0.vip)
