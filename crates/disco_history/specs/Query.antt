-- Which records a query asks for (Eureka's REST operations).
use Rattle.std.specs.Prelude.{ℕ, Bool, true, false, not, ◌==◌, ◌&&◌, ◌||◌, List, length, filter, if◌then◌else◌, Option, Some, None, option_and_then, find}
use Rattle.std.specs.List.{list_any, slice_split}
use Rattle.std.specs.Option.{option_map_or}
use Rattle.std.specs.Str.{bytes_eq}
use Rattle.std.specs.FinMap.{FinMap, get, keys, len, values}
use Rattle.disco_values.specs.Key.{key_cmp, same_key}
use Rattle.disco_instance.specs.Row.{Row}
use Rattle.disco_values.specs.declared.key.Key.{Key}
use Rattle.disco_history.specs.MapAt.{map_at}

-- what a query asks for
pub data Selector : Type 0 where
  all : Selector
  of_app : List ℕ → Selector
  of_vip : List ℕ → Selector
  of_secure_vip : List ℕ → Selector
  of_key : Key → Selector

-- the vips of an address: its pieces between commas that aren't empty, nothing trimmed
abbrev pub vips : List ℕ → List (List ℕ)
vips address = filter (λ p. not (length p == 0)) (slice_split (λ b. b == 44) address)

-- a query asks for the record
abbrev pub asks_for : Selector → Row → Bool
asks_for all r = true
asks_for (of_app name) r = bytes_eq r.key.app name
asks_for (of_vip vip) r = list_any (bytes_eq vip) (vips r.vip_address)
asks_for (of_secure_vip vip) r = list_any (bytes_eq vip) (vips r.secure_vip_address)
asks_for (of_key k) r = same_key r.key k

-- a change names what asks for the record of its key before it or after it; so it always names all apps
abbrev pub is_named : Option Row → Option Row → Selector → Bool
is_named old new a = option_map_or (asks_for a) old false || option_map_or (asks_for a) new false

-- the restriction: the records that are asked for
abbrev pub restrict : FinMap key_cmp Row → Selector → FinMap key_cmp Row
restrict s q = map_at (λ k. option_and_then (λ r. if asks_for q r then Some r else None) (get s k)) (keys s)

-- a query that has an answer where it asks for no record: that of all
abbrev pub may_be_empty : Selector → Bool
may_be_empty all = true
may_be_empty _ = false

-- absent: no record is asked for, and the query wants one
abbrev pub is_absent : FinMap key_cmp Row → Selector → Bool
is_absent s q = (len (restrict s q) == 0) && not (may_be_empty q)

-- the record of that id with the least app: the first in the order of keys
abbrev pub by_id : FinMap key_cmp Row → List ℕ → Option Row
by_id s id = find (λ r. bytes_eq r.key.id id) (values s)
