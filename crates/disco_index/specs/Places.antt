-- What the index keeps of vips, and how its places change. Nothing here is to be believed: no public contract rests on
-- it.
use Rattle.std.specs.Prelude.{◌≡◌, ℕ, Bool, true, false, ◌&&◌, List, filter, if◌then◌else◌, Option, Some, None, IsSome, unwrap_or}
use Rattle.std.specs.FinMap.{get, keys}
use Rattle.std.specs.List.{list_any}
use Rattle.std.specs.Str.{bytes_eq}
use Rattle.disco_values.specs.Key.{same_key}
use Rattle.disco_values.specs.declared.key.Key.{Key}
use Rattle.disco_history.specs.Slots as slots
use Rattle.disco_instance.specs.Row.{Row}
use Rattle.disco_index.specs.Vips.{KeysByVip, Vip, VipKeys, is_under, keys_at, place_at}

-- the place of a key under a piece
abbrev pub place_in : KeysByVip → List ℕ → Key → Option Bool
place_in m q k = get (keys_at m q) k

-- the key has a place under the piece, and its instance is there
abbrev pub has_in : KeysByVip → List ℕ → Key → Bool
has_in m q k = unwrap_or (place_in m q k) false

-- the keys that have the piece, in their order
abbrev pub under_in : KeysByVip → List ℕ → List Key
under_in m q = filter (has_in m q) (keys (keys_at m q))

-- the place, or a new empty one where there was none
abbrev pub opened_vip : Option Bool → Option Bool
opened_vip place = slots.opened false place

-- the place, unless it is empty
abbrev pub swept : Option Bool → Option Bool
swept None = None
swept (Some true) = Some true
swept (Some false) = None

-- the place of the key becomes what f makes of it under each of these vips, and each other place stays
abbrev pub Alters : (Option Bool → Option Bool) → List (List ℕ) → Key → KeysByVip → KeysByVip → Type 0
Alters f vips k old new = (q : List ℕ) (p : Key) → place_in new q p ≡
    (if list_any (bytes_eq q) vips && same_key p k then f (place_in old q p) else place_in old q p)

-- the same but for empty places
abbrev pub IsSameIn : KeysByVip → KeysByVip → Type 0
IsSameIn old new = (q : List ℕ) (k : Key) → has_in new q k ≡ has_in old q k

-- each place stays
abbrev pub KeepsPlacesIn : KeysByVip → KeysByVip → Type 0
KeepsPlacesIn old new = (q : List ℕ) (k : Key) → IsSome (place_in old q k) → IsSome (place_in new q k)

-- each place but those of the key under these vips is as it was
abbrev pub OthersOf : List (List ℕ) → Key → KeysByVip → KeysByVip → Type 0
OthersOf vips k old new = (q : List ℕ) (p : Key) → (list_any (bytes_eq q) vips && same_key p k) ≡ false → place_in new q p ≡ place_in old q p

-- the places of the row become what f makes of them, and each other place stays
abbrev pub AltersRow : (Option Bool → Option Bool) → Row → VipKeys → VipKeys → Type 0
AltersRow f r old new = (q : Vip) (k : Key) → place_at new q k ≡ (if is_under r q k then f (place_at old q k) else place_at old q k)
