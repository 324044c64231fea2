-- The hash code: how many records have each status (Eureka's apps__hashcode).
use Rattle.std.specs.Prelude.{ℕ, ◌==◌, ◌+◌, List, [], ◌∷◌, ◌++◌, count_by, map, if◌then◌else◌}
use Rattle.std.specs.Int.Digits.{digits_of}
use Rattle.disco_instance.specs.Row.{Row}
use Rattle.disco_values.specs.Status.{is_same, status_name}
use Rattle.disco_values.specs.declared.status.Status.{Status}
use Rattle.disco_values.specs.declared.status.Status.TheVariants.{Up, Down, Starting, OutOfService, Unknown}

-- how many records have the status
abbrev pub count_of : List Row → Status → ℕ
count_of rows status = count_by (λ r. is_same r.status status) rows

-- a name, an underscore, a number and an underscore, where the number isn't 0; and then the rest
abbrev pub then_piece : List ℕ → ℕ → List ℕ → List ℕ
then_piece name n rest = if n == 0 then rest else name ++ 95 ∷ (map (λ d. 48 + d) (digits_of 10 n) ++ 95 ∷ rest)

-- the hash code of so many instances of each status
abbrev pub hash_by : (Status → ℕ) → List ℕ
hash_by count =
    then_piece (status_name Down) (count Down) (
    then_piece (status_name OutOfService) (count OutOfService) (
    then_piece (status_name Starting) (count Starting) (
    then_piece (status_name Unknown) (count Unknown) (
    then_piece (status_name Up) (count Up) []))))

-- the hash code of some records
abbrev pub hash : List Row → List ℕ
hash rows = hash_by (count_of rows)
