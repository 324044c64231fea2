-- How many instances have each status, as numbers.
use Rattle.std.specs.Prelude.{ℕ, ◌+◌, ◌-◌, List, map, Option, Some, None}
use Rattle.std.specs.FinMap.{FinMap, values}
use Rattle.disco_values.specs.Key.{key_cmp}
use Rattle.disco_instance.specs.Row.{Row}
use Rattle.disco_values.specs.declared.status.Status.{Status}
use Rattle.disco_values.specs.declared.status.Status.TheVariants.{Up, Down, Starting, OutOfService, Unknown}
use Rattle.disco_history.specs.Change.{Entry}
use Rattle.disco_history.specs.Hash.{count_of}

-- a number for each status
pub record Tally : Type 0 where
  pub down : ℕ
  pub out_of_service : ℕ
  pub starting : ℕ
  pub unknown : ℕ
  pub up : ℕ

-- the number of a status
abbrev pub count_in : Tally → Status → ℕ
count_in t Down = t.down
count_in t OutOfService = t.out_of_service
count_in t Starting = t.starting
count_in t Unknown = t.unknown
count_in t Up = t.up

-- the same with that number for a status
abbrev pub with_count : Tally → Status → ℕ → Tally
with_count t Down n = record t { down = n }
with_count t OutOfService n = record t { out_of_service = n }
with_count t Starting n = record t { starting = n }
with_count t Unknown n = record t { unknown = n }
with_count t Up n = record t { up = n }

-- one more of a status
abbrev pub more : Tally → Status → Tally
more t status = with_count t status (count_in t status + 1)

-- one fewer of a status
abbrev pub fewer : Tally → Status → Tally
fewer t status = with_count t status (count_in t status - 1)

-- one fewer of the status of an entry, where there is one
abbrev pub without : Tally → Option Entry → Tally
without t None = t
without t (Some e) = fewer t e.0.status

-- the numbers of some rows
abbrev pub tally_of : List Row → Tally
tally_of rows = record {
  down = count_of rows Down;
  out_of_service = count_of rows OutOfService;
  starting = count_of rows Starting;
  unknown = count_of rows Unknown;
  up = count_of rows Up;
}

-- the rows of a finite map
abbrev pub rows_of : FinMap key_cmp Entry → List Row
rows_of m = map (λ e. e.0) (values m)

-- the numbers of the rows of a finite map
abbrev pub tally_in : FinMap key_cmp Entry → Tally
tally_in m = tally_of (rows_of m)
