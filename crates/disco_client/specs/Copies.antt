-- A client's copy of a registry, and what is asked of it.
use Rattle.std.specs.Prelude.{◌≡◌, ℕ, Bool, false, ◌&&◌, List, map, Option}
use Rattle.std.specs.Option.{option_map_or}
use Rattle.std.specs.FinMap.{FinMap, keys, values}
use Rattle.std.specs.List.{list_any}
use Rattle.std.specs.Str.{bytes_eq}
use Rattle.disco_values.specs.Key.{key_cmp}
use Rattle.disco_instance.specs.Row.{Row}
use Rattle.disco_values.specs.Status.{is_same}
use Rattle.disco_values.specs.Text.{in_upper_case}
use Rattle.disco_values.specs.declared.status.Status.TheVariants.{Up}
use Rattle.disco_history.specs.Change.{Entry}
use Rattle.disco_history.specs.MapAt.{map_at}
use Rattle.disco_history.specs.Hash.{hash}
use Rattle.disco_history.specs.Held.{record_at}
use Rattle.disco_history.specs.Query.{vips}
use Rattle.disco_index.specs.Tally.{Tally, tally_in}

-- the records of some entries, by key
abbrev pub rows_by_key : FinMap key_cmp Entry → FinMap key_cmp Row
rows_by_key m = map_at (record_at m) (keys m)

-- the counts are those of the records
abbrev pub IsCounted : FinMap key_cmp Entry → Tally → Type 0
IsCounted m t = t ≡ tally_in m

-- the document has a hash code, and it is that of the records (Eureka's test of a delta)
abbrev pub hash_equal : Option (List ℕ) → FinMap key_cmp Row → Bool
hash_equal text s = option_map_or (λ t. bytes_eq t (hash (values s))) text false

-- the instance is UP, and one of its vips is the one asked for, both in upper case (Eureka's client)
abbrev pub is_up_under : List ℕ → Row → Bool
is_up_under vip r = is_same r.status Up && list_any (bytes_eq (in_upper_case vip)) (map in_upper_case (vips r.vip_address))
