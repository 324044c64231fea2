-- The names of actions, as Eureka writes them.
use Rattle.std.specs.Prelude.{ℕ, List, [], ◌∷◌, codes, find, Option}
use Rattle.std.specs.Str.{bytes_eq}
use Rattle.disco_values.specs.declared.action.Action.{Action}
use Rattle.disco_values.specs.declared.action.Action.TheVariants.{Added, Modified, Deleted}

-- the name of an action
abbrev pub action_name : Action → List ℕ
action_name Added = codes "ADDED"
action_name Modified = codes "MODIFIED"
action_name Deleted = codes "DELETED"

-- the action of that name
abbrev pub action_named : List ℕ → Option Action
action_named text = find (λ a. bytes_eq text (action_name a)) (Added ∷ Modified ∷ Deleted ∷ [])
