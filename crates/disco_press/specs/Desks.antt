-- What a desk is.
use Rattle.std.specs.Prelude.{◌≡◌, ℕ, ◌+◌, List, [], ◌∷◌, ◌++◌, length, map, Option, Some, None}
use Rattle.disco_history.specs.Change.{Entry}
use Rattle.disco_core.specs.Past.{Past, history}
use Rattle.disco_hub.specs.Press.{IsPressed, Note, change}
use Rattle.disco_hub.specs.State.{HubState, HubStandsFor, version_of}
use Rattle.disco_press.specs.Logs.{notes_in}

-- what was published, publication by publication, what was noted since, the hub, and how many changes were made by seats and without one
pub record DeskState : Type 0 where
  pub published : List (List Note)
  pub pending : List Note
  pub hub : HubState
  pub by_seats : ℕ
  pub by_none : ℕ

-- all that was noted
abbrev pub notes_of : DeskState → List Note
notes_of d = notes_in d.published ++ d.pending

-- what holds of every desk: its hub stands for something that has happened, that is what was noted, and each change is counted once
pub record IsValid (d : DeskState) : Type 0 where
  pub past : Past
  pub stands : HubStandsFor d.hub past
  pub pressed : IsPressed past.run (notes_in d.published) d.pending (history past) d.hub.rounds.edition d.hub.rounds.round
  pub version : version_of d.hub ≡ d.by_seats + d.by_none

-- this is noted, and nothing is published
abbrev pub Notes : List Note → DeskState → DeskState → Type 0
Notes ns old new = (new.published ≡ old.published) × (new.pending ≡ old.pending ++ ns)

-- no change is counted
abbrev pub CountsNone : DeskState → DeskState → Type 0
CountsNone old new = (new.by_seats ≡ old.by_seats) × (new.by_none ≡ old.by_none)

-- so many changes more are counted as a seat's
abbrev pub CountsBySeat : ℕ → DeskState → DeskState → Type 0
CountsBySeat n old new = (new.by_seats ≡ old.by_seats + n) × (new.by_none ≡ old.by_none)

-- so many changes more are counted as no seat's
abbrev pub CountsByNone : ℕ → DeskState → DeskState → Type 0
CountsByNone n old new = (new.by_seats ≡ old.by_seats) × (new.by_none ≡ old.by_none + n)

-- nothing is noted, published or counted
abbrev pub NotesNothing : DeskState → DeskState → Type 0
NotesNothing old new = (new.published ≡ old.published) × (new.pending ≡ old.pending) × CountsNone old new

-- what is noted of an accepted operation: its change, if it makes one
abbrev pub note_done : Option Entry → List Note
note_done None = []
note_done (Some c) = change c ∷ []

-- cancels are noted, and counted as no seat's: the changes from what had happened to what has happened then
pub record NotesCancels (old new : DeskState) (then : Past → Past) : Type 0 where
  pub changes : List Entry
  pub noted : Notes (map change changes) old new
  pub counted : CountsByNone (length changes) old new
  pub cancels : (p : Past) → HubStandsFor old.hub p → history (then p) ≡ history p ++ changes
