-- The number of each key's last change, and how its place changes. Nothing here is to be believed: it is the invariant
-- of a type.
use Rattle.std.specs.Prelude.{◌≡◌, ℕ, ◌+◌, ◌-◌, nat_lt, ◌==◌, List, [], ◌∷◌, if◌then◌else◌, Option, Some, None, option_map, unwrap_or}
use Rattle.std.specs.FinMap.{FinMap, get}
use Rattle.std.specs.List.{filter_map, slice_get}
use Rattle.disco_values.specs.Key.{key_cmp, same_key}
use Rattle.disco_values.specs.declared.key.Key.{Key}
use Rattle.disco_history.specs.Change.{Entry, change_view, key_of}
use Rattle.disco_queue.specs.Latest.{Latest, latest_key}

-- the later one, if there is one
abbrev pub later_or : ℕ → ℕ → ℕ
later_or later here = if nat_lt 0 later then later else here

-- of changes that so many others come before, the number of the key's last one, counted from 1 at the beginning; 0 where there is none
abbrev pub last_number : ℕ → List Entry → Key → ℕ
last_number before [] k = 0
last_number before (e ∷ es) k = later_or (last_number (before + 1) es k) (if same_key k (key_of e) then before + 1 else 0)

-- the number in the place of a key, 0 where it is empty or isn't there
abbrev pub number_in : FinMap key_cmp ℕ → Key → ℕ
number_in places k = unwrap_or (get places k) 0

-- each place has the number of the last of these changes of its key, and other keys have none
abbrev pub AreNumbered : FinMap key_cmp ℕ → ℕ → List Entry → Type 0
AreNumbered places before es = (k : Key) → number_in places k ≡ last_number before es k

-- no place is empty that wasn't before
abbrev pub LeavesNone : FinMap key_cmp ℕ → FinMap key_cmp ℕ → Type 0
LeavesNone old new = (k : Key) → get new k ≡ Some 0 → get old k ≡ Some 0

-- the change of a number
abbrev pub numbered : ℕ → List Entry → ℕ → Option Entry
numbered before es number = if nat_lt before number then slice_get es (number - before - 1) else None

-- the place, unless it has this number
abbrev pub number_kept : ℕ → Option ℕ → Option ℕ
number_kept number None = None
number_kept number (Some n) = if n == number then None else Some n

-- each key with what f makes of its number, if anything
abbrev pub numbered_keys : (ℕ → Option Entry) → List (Key × ℕ) → List (Key × Entry)
numbered_keys f es = filter_map (λ e. option_map (λ x. (e.0, x)) (f e.1)) es

-- the same of one app's ids
abbrev pub numbered_ids : (ℕ → Option Entry) → List ℕ → List (List ℕ × ℕ) → List (Key × Entry)
numbered_ids f app es = filter_map (λ e. option_map (λ x. (record { app = app; id = e.0 }, x)) (f e.1)) es

abbrev pub keyed_change : Latest → Key × Entry
keyed_change p = (latest_key p, change_view p.2.now)
