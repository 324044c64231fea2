-- What changed in a registry, and what a client makes of it (Eureka's delta update).
use Rattle.std.specs.Prelude.{ℕ, List, map, drop, ◌++◌, Some, option_map}
use Rattle.std.specs.Option.{option_map_or}
use Rattle.std.specs.List.{filter_map}
use Rattle.std.specs.FinMap.{FinMap, get, keys}
use Rattle.disco_values.specs.Key.{key_cmp}
use Rattle.disco_instance.specs.Mention.{Mention}
use Rattle.disco_instance.specs.Row.{Row}
use Rattle.disco_values.specs.declared.action.Action.TheVariants.{Added}
use Rattle.disco_history.specs.Change.{Entry, key_of, last}
use Rattle.disco_history.specs.MapAt.{map_at}
use Rattle.disco_history.specs.Registry.{kept_by, registry_of}

abbrev pub mention_of : Entry → Mention
mention_of e = (e.0, Some e.1)

-- the delta from base o: each key of the changes after the first o, with its last change
abbrev pub delta : List Entry → ℕ → FinMap key_cmp Entry
delta h o = map_at (last (drop o h)) (map key_of (drop o h))

-- the records of a full document: of each key its last mention, whatever was done to it
abbrev pub copied : List Mention → FinMap key_cmp Row
copied ms = registry_of (map (λ m. (m.0, Added)) ms)

-- the mentions that say what was done
abbrev pub known : List Mention → List Entry
known ms = filter_map (λ m. option_map (λ action. (m.0, action)) m.1) ms

-- the overlay: of each key its last known mention, else the record that is there
abbrev pub overlay : FinMap key_cmp Row → List Mention → FinMap key_cmp Row
overlay s ms = let es = known ms in map_at (λ k. option_map_or (λ e. kept_by e.1 e.0) (last es k) (get s k)) (keys s ++ map key_of es)
