-- Which kept changes aren't the last of their keys. Nothing here is to be believed: it is the invariant of a type.
use Rattle.std.specs.Prelude.{◌≡◌, ℕ, zero, suc, List, [], ◌∷◌, IsSome, map, true}
use Rattle.disco_history.specs.Change.{key_of, last}
use Rattle.disco_queue.specs.Seen.{change_of}
use Rattle.disco_queue.specs.declared.kept.Kept.{Kept}

-- one of these later ones is of the same key
abbrev pub IsFollowed : Kept → List Kept → Type 0
IsFollowed k later = IsSome (last (map change_of later) (key_of (change_of k)))

-- what is said to be superseded is followed by a change of its key
abbrev pub AreSuperseded : List Kept → Type 0
AreSuperseded [] = Unit {0}
AreSuperseded (k ∷ ks) = (k.superseded ≡ true → IsFollowed k ks) × AreSuperseded ks

-- the change in this place, if there is one, is followed by one of its key
abbrev pub IsFollowedAt : List Kept → ℕ → Type 0
IsFollowedAt [] n = Unit {0}
IsFollowedAt (k ∷ ks) zero = IsFollowed k ks
IsFollowedAt (k ∷ ks) (suc n) = IsFollowedAt ks n
