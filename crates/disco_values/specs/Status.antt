-- The names of statuses, as Eureka writes them.
use Rattle.std.specs.Prelude.{ℕ, Bool, List, [], ◌∷◌, codes, find, Option}
use Rattle.std.specs.Str.{bytes_eq}
use Rattle.disco_values.specs.declared.status.Status.{Status}
use Rattle.disco_values.specs.declared.status.Status.TheVariants.{Up, Down, Starting, OutOfService, Unknown}

-- the name of a status
abbrev pub status_name : Status → List ℕ
status_name Up = codes "UP"
status_name Down = codes "DOWN"
status_name Starting = codes "STARTING"
status_name OutOfService = codes "OUT_OF_SERVICE"
status_name Unknown = codes "UNKNOWN"

-- the status of that name
abbrev pub status_named : List ℕ → Option Status
status_named text = find (λ s. bytes_eq text (status_name s)) (Up ∷ Down ∷ Starting ∷ OutOfService ∷ Unknown ∷ [])

-- whether two statuses are the same
abbrev pub is_same : Status → Status → Bool
is_same a b = bytes_eq (status_name a) (status_name b)
