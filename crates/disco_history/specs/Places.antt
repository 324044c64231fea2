-- Views of places by key, which may be empty. Nothing here is to be believed: it is the view of types.
use Rattle.std.specs.Prelude.{List, Option, option_map}
use Rattle.std.specs.FinMap.{FinMap, entries, from_entries}
use Rattle.std.specs.List.{filter_map}
use Rattle.disco_values.specs.Key.{key_cmp}
use Rattle.disco_values.specs.declared.key.Key.{Key}

-- what f shows of the values in entries, by their keys
abbrev pub filled : {V W : Type 0} → (V → W) → List (Key × Option V) → List (Key × W)
filled f es = filter_map (λ e. option_map (λ v. (e.0, f v)) e.1) es

-- what f shows of the values in places, by their keys
abbrev pub filled_in : {V W : Type 0} → (V → W) → FinMap key_cmp (Option V) → FinMap key_cmp W
filled_in f p = from_entries (filled f (entries p))
