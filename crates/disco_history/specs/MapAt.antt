-- A finite map by what it has at each of some keys.
use Rattle.std.specs.Prelude.{List, Option, option_map}
use Rattle.std.specs.List.{filter_map}
use Rattle.std.specs.FinMap.{FinMap, from_entries}
use Rattle.disco_values.specs.Key.{key_cmp}
use Rattle.disco_values.specs.declared.key.Key.{Key}

-- at each of the keys what f gives there, if anything
unfoldable pub map_at : {V : Type 0} → (Key → Option V) → List Key → FinMap key_cmp V
map_at f keys = from_entries (filter_map (λ k. option_map (λ v. (k, v)) (f k)) keys)
