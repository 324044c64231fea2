-- The count of a status is below that of all places.
use Rattle.std.proofs.Common.{◌≡◌, ℕ, ◌+◌, ◌-◌, ◌<◌, ◌^◌, refl, ap, ◌∙◌, arith}
use Rattle.std.specs.FinMap.{FinMap, get, insert, len}
use Rattle.disco_values.specs.Key.{key_cmp}
use Rattle.disco_values.specs.declared.key.Key.{Key}
use Rattle.disco_values.specs.declared.status.Status.{Status}
use Rattle.disco_values.specs.declared.status.Status.TheVariants.{Up, Down, Starting, OutOfService, Unknown}
use Rattle.disco_history.specs.Change.{Entry}
use Rattle.disco_index.proofs.Changes.{count_law, insert_law}
use Rattle.disco_index.specs.Tally.{Tally, count_in, more, tally_in, without}

count_more : (t : Tally) (status : Status) → count_in (more t status) status ≡ count_in t status + 1
count_more t Up = refl
count_more t Down = refl
count_more t Starting = refl
count_more t OutOfService = refl
count_more t Unknown = refl

-- one more of the status that was put in is still a number of the machine
pub fits : (m : FinMap key_cmp Entry) (k : Key) (e : Entry) (n : ℕ) → n ≡ len (insert m k e) → n < 2 ^ 64 → count_in (without (tally_in m) (get m k)) e.0.status < 2 ^ 64 - 1
fits m k e n is small =
    let most = count_law (insert m k e) e.0.status in
    let one = ap (λ t. count_in t e.0.status) (insert_law m k e) ∙ count_more (without (tally_in m) (get m k)) e.0.status in
    omega (arith, most, one, is, small)
