-- Failures of an accept, by Linux's numbers. Nothing here is to be believed: no public contract rests on it.
use Rattle.std.specs.Prelude.{◌≡◌, ℕ, ℤ, pos, List, [], ◌∷◌, Option, Some, ⊤}
use Rattle.disco_connections.specs.declared.accepts.Accepted.{Accepted}
use Rattle.disco_connections.specs.declared.accepts.Accepted.TheVariants as came
use Rattle.disco_connections.specs.declared.accepts.Failure.{Failure}
use Rattle.disco_connections.specs.declared.accepts.Failure.TheVariants.{Nothing, Gone, Full, Lacking, Lasting}

-- the connection is gone or was refused on its way, or the accept was interrupted: not permitted, interrupted, not on the network, broken protocol, no
-- such option, not supported, network down, network unreachable, aborted, timed out, host down, host unreachable
abbrev pub gone_numbers : List ℕ
gone_numbers = 1 ∷ 4 ∷ 64 ∷ 71 ∷ 92 ∷ 95 ∷ 100 ∷ 101 ∷ 103 ∷ 110 ∷ 112 ∷ 113 ∷ []

-- the host lacks memory, descriptors of its own, or buffers
abbrev pub lacking_numbers : List ℕ
lacking_numbers = 12 ∷ 23 ∷ 105 ∷ []

-- where the number is one of these, this is so
abbrev pub WhereOneOf : List ℕ → Option ℤ → Type 0 → Type 0
WhereOneOf [] number P = ⊤
WhereOneOf (n ∷ ns) number P = (number ≡ Some (pos n) → P) × WhereOneOf ns number P

-- what an accept came to that failed so
abbrev pub came_of : {T : Type 0} → Failure → Accepted T
came_of Nothing = came.Nothing
came_of Gone = came.Gone
came_of Full = came.Full
came_of Lacking = came.Later
came_of Lasting = came.Refused
