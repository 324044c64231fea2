-- Which instances have a vip, as plain data.
use Rattle.std.specs.Prelude.{◌≡◌, ℕ, Bool, true, false, not, ◌&&◌, ◌||◌, List, filter, Option, Some, None, IsSome, unwrap_or}
use Rattle.std.specs.Cmp.Lexicographic.{slice_cmp}
use Rattle.std.specs.FinMap.{FinMap, empty, get, keys}
use Rattle.std.specs.Ordering.{nat_cmp}
use Rattle.disco_values.specs.Key.{key_cmp, same_key}
use Rattle.disco_instance.specs.Row.{Row}
use Rattle.disco_values.specs.declared.key.Key.{Key}
use Rattle.disco_history.specs.Change.{Entry}
use Rattle.disco_history.specs.Query.{Selector, asks_for, of_secure_vip, of_vip}

-- a vip of the vip address, or of the secure one
pub data Vip : Type 0 where
  plain : List ℕ → Vip
  secure : List ℕ → Vip

-- the query for the records that have the vip
abbrev pub asked : Vip → Selector
asked (plain q) = of_vip q
asked (secure q) = of_secure_vip q

-- under each of some pieces of an address a place for each of some keys, true where the instance is there
abbrev pub KeysByVip : Type 0
KeysByVip = FinMap (slice_cmp nat_cmp) (FinMap key_cmp Bool)

-- those of vips, and those of secure vips
pub record VipKeys : Type 0 where
  pub vips : KeysByVip
  pub secure_vips : KeysByVip

-- no place at all
abbrev pub no_vips : VipKeys
no_vips = record { vips = empty; secure_vips = empty }

-- the places under a piece
abbrev pub keys_at : KeysByVip → List ℕ → FinMap key_cmp Bool
keys_at m q = unwrap_or (get m q) empty

-- the places under a vip
abbrev pub places_at : VipKeys → Vip → FinMap key_cmp Bool
places_at v (plain q) = keys_at v.vips q
places_at v (secure q) = keys_at v.secure_vips q

-- the place of a key under a vip
abbrev pub place_at : VipKeys → Vip → Key → Option Bool
place_at v q k = get (places_at v q) k

-- the instance has the vip
abbrev pub has : VipKeys → Vip → Key → Bool
has v q k = unwrap_or (place_at v q k) false

-- the keys that have the vip, in their order
abbrev pub under : VipKeys → Vip → List Key
under v q = filter (has v q) (keys (places_at v q))

-- the row has the vip and is of the key
abbrev pub is_under : Row → Vip → Key → Bool
is_under r q k = asks_for (asked q) r && same_key k r.key

-- there is a place for the row under each of its vips
abbrev pub HasPlaces : VipKeys → Row → Type 0
HasPlaces v r = (q : Vip) (k : Key) → is_under r q k ≡ true → IsSome (place_at v q k)

-- none of these places is empty
abbrev pub HasNoneEmpty : VipKeys → Row → Type 0
HasNoneEmpty v r = (q : Vip) (k : Key) → is_under r q k ≡ true → place_at v q k ≡ Some false → ⊥

-- the same but for empty places, which no answer shows
abbrev pub IsSameVips : VipKeys → VipKeys → Type 0
IsSameVips old new = (q : Vip) (k : Key) → has new q k ≡ has old q k

-- each place stays
abbrev pub KeepsVipPlaces : VipKeys → VipKeys → Type 0
KeepsVipPlaces old new = (q : Vip) (k : Key) → IsSome (place_at old q k) → IsSome (place_at new q k)

-- each place but those of the row is as it was
abbrev pub KeepsOtherVips : Row → VipKeys → VipKeys → Type 0
KeepsOtherVips r old new = (q : Vip) (k : Key) → is_under r q k ≡ false → place_at new q k ≡ place_at old q k

-- the row's instance has the row's vips too, and nothing else changes
abbrev pub Adds : Row → VipKeys → VipKeys → Type 0
Adds r old new = (q : Vip) (k : Key) → has new q k ≡ (is_under r q k || has old q k)

-- the row's instance has the row's vips no more
abbrev pub Removes : Row → VipKeys → VipKeys → Type 0
Removes r old new = (q : Vip) (k : Key) → has new q k ≡ (has old q k && not (is_under r q k))

-- the same of an entry's row, where there is one
abbrev pub RemovesAny : Option Entry → VipKeys → VipKeys → Type 0
RemovesAny None old new = IsSameVips old new
RemovesAny (Some e) old new = Removes e.0 old new

-- the entry's record has the vip
abbrev pub entry_has : Vip → Option Entry → Bool
entry_has q None = false
entry_has q (Some e) = asks_for (asked q) e.0

-- exactly the entries whose records have a vip are under it
abbrev pub IsIndexOf : VipKeys → FinMap key_cmp Entry → Type 0
IsIndexOf v m = (q : Vip) (k : Key) → has v q k ≡ entry_has q (get m k)
