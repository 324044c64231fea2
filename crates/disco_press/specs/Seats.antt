-- What a seat knows.
use Rattle.std.specs.Prelude.{◌≡◌, ℕ, List, None, Option, Some}
use Rattle.disco_hub.specs.Press.{Note}
use Rattle.disco_press.specs.Logs.{notes_in}

-- the publications that it has seen or been told of, all that it has been told was noted, and how many changes it has made
pub record SeatState : Type 0 where
  pub known : List (List Note)
  pub heard : List Note
  pub changes : ℕ

-- what a seat has seen or been told of
pub record SeenState : Type 0 where
  pub known : List (List Note)
  pub heard : List Note

-- a seat that is told what was seen, where anything was
abbrev pub seat_told : SeatState → Option SeenState → SeatState
seat_told s None = s
seat_told s (Some seen) = record s { known = seen.known; heard = seen.heard }

-- it knows these publications and what they noted, and has made no change
abbrev pub IsNew : List (List Note) → SeatState → Type 0
IsNew published s = (s.known ≡ published) × (s.heard ≡ notes_in published) × (s.changes ≡ 0)
