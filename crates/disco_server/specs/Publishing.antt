-- What a publisher does to a desk.
use Rattle.std.specs.Prelude.{◌≡◌, [], ◌∷◌, ◌++◌, None}
use Rattle.disco_hub.specs.Press.{begin, note_of, is_doc}
use Rattle.disco_hub.specs.Rounds.{Advances}
use Rattle.disco_hub.specs.declared.copied.Copied.{Copied}
use Rattle.disco_hub.specs.State.{open_round}
use Rattle.disco_press.specs.Desks.{DeskState, Notes}
use Rattle.disco_server.specs.declared.publisher.Step.{Step}
use Rattle.disco_server.specs.declared.publisher.Step.TheVariants as step

-- a round begins where none is open, the first key that is left of the open one is copied, or all that was noted is published
abbrev pub TakesStep : DeskState → Step → DeskState → Type 0
TakesStep old step.Begun new = (open_round old.hub ≡ None) × Notes (begin ∷ []) old new
TakesStep old step.Copied new = (c : Copied) × Advances (is_doc c) old.hub.rounds new.hub.rounds × Notes (note_of c ∷ []) old new
TakesStep old step.Published new = (new.published ≡ old.published ++ old.pending ∷ []) × (new.pending ≡ [])
