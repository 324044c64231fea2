-- The recently changed queue as plain data.
use Rattle.std.specs.Prelude.{◌≡◌, ℕ, ◌+◌, ◌-◌, ◌^◌, ◌<◌, ◌≤◌, List, drop, if◌then◌else◌, is_some, length, nat_lt, IsSome, Some, unwrap_or}
use Rattle.std.specs.FinMap.{FinMap, get}
use Rattle.disco_values.specs.Key.{key_cmp, same_key}
use Rattle.disco_values.specs.declared.key.Key.{Key}
use Rattle.disco_history.specs.Change.{last}
use Rattle.disco_queue.specs.Timed.{Timed, changes}

-- how many changes it keeps at most, how many leading ones it dropped, those that it keeps, room for more, and the
-- places of keys, each with a number that is 0 where it is empty
pub record Queue : Type 0 where
  pub max : ℕ
  pub base : ℕ
  pub kept : List Timed
  pub room : ℕ
  pub places : FinMap key_cmp ℕ

-- how many changes there were
abbrev pub version : Queue → ℕ
version q = q.base + length q.kept

-- the next change has room, where the queue is not full
abbrev pub HasRoom : Queue → Type 0
HasRoom q = length q.kept < q.max → 0 < q.room

-- there is a place for the number of the key's next change
abbrev pub HasNumberPlace : Key → Queue → Type 0
HasNumberPlace k q = IsSome (get q.places k)

-- the key's place is empty
abbrev pub StandsEmpty : Key → Queue → Type 0
StandsEmpty k q = get q.places k ≡ Some 0

-- the key has a place, which is empty where there was none, and each other place stays
abbrev pub OpensPlace : Key → Queue → Queue → Type 0
OpensPlace k old new = (p : Key) → get new.places p ≡ (if same_key p k then Some (unwrap_or (get old.places p) 0) else get old.places p)

-- exactly the keys of kept changes have places that aren't empty
abbrev pub AreFilled : Queue → Type 0
AreFilled q = (k : Key) → nat_lt 0 (unwrap_or (get q.places k) 0) ≡ is_some (last (changes q.kept) k)

-- no place is empty that wasn't before
abbrev pub AddsNoneEmpty : Queue → Queue → Type 0
AddsNoneEmpty old new = (k : Key) → StandsEmpty k new → StandsEmpty k old

-- the same but for room and places, which no answer shows
pub record IsSameQueue (old new : Queue) : Type 0 where
  pub max : new.max ≡ old.max
  pub base : new.base ≡ old.base
  pub kept : new.kept ≡ old.kept

-- it keeps the history from its base on, and its version is the history's length
pub record KeepsHistory (q : Queue) (h : List Timed) : Type 0 where
  pub contents : q.kept ≡ drop q.base h
  pub version : version q ≡ length h

-- the last so many of them
abbrev pub newest : ℕ → List Timed → List Timed
newest most ts = drop (length ts - most) ts

-- it keeps no more than it may, and its version fits
pub record IsWithin (max base len : ℕ) : Type 0 where
  pub some : 1 ≤ max
  pub few : len ≤ max
  pub fits : base + len < 2 ^ 64
