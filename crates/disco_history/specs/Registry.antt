-- The registry that a history leaves, and its mentions.
use Rattle.std.specs.Prelude.{List, map, Option, Some, None, option_map, option_and_then}
use Rattle.std.specs.FinMap.{FinMap, keys}
use Rattle.disco_values.specs.Key.{key_cmp}
use Rattle.disco_instance.specs.Row.{Row}
use Rattle.disco_values.specs.declared.action.Action.{Action}
use Rattle.disco_values.specs.declared.action.Action.TheVariants.{Deleted}
use Rattle.disco_history.specs.Change.{Entry, key_of, last}
use Rattle.disco_history.specs.MapAt.{map_at}

-- x, unless the action took it out
abbrev pub kept_by : {X : Type 0} → Action → X → Option X
kept_by Deleted x = None
kept_by _ x = Some x

-- a change that put its record
abbrev pub put_of : Entry → Option Entry
put_of e = kept_by e.1 e

-- the registry: the records whose key's last change is a put
abbrev pub registry_of : List Entry → FinMap key_cmp Row
registry_of h = map_at (λ k. option_map (λ e. e.0) (option_and_then put_of (last h k))) (map key_of h)

-- the mentions of records s of the registry of h: each with the action of its key's last change. It means that only
-- where s is a part of that registry, as it is wherever this is used
abbrev pub mentions_of : List Entry → FinMap key_cmp Row → FinMap key_cmp Entry
mentions_of h s = map_at (λ k. option_and_then put_of (last h k)) (keys s)
