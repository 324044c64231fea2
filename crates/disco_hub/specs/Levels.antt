-- What a publisher keeps of a hub beside it. Nothing here is to be believed: it serves invariants and private contracts.
use Rattle.std.specs.Prelude.{◌≡◌, List, ◌++◌, IfSome}
use Rattle.disco_core.specs.Past.{Past, history}
use Rattle.disco_hub.specs.Press.{Edition, IsPressed, Note, copied_in}
use Rattle.disco_hub.specs.State.{HubState, HubStandsFor}

-- the hub stands for what has happened, which is noted so, and in a round the next edition is what was copied since it began
pub record AreLevels (hub : HubState) (next : Edition) (published pending : List Note) (p : Past) : Type 0 where
  pub stands : HubStandsFor hub p
  pub pressed : IsPressed p.run published pending (history p) hub.rounds.edition hub.rounds.round
  pub copied : IfSome hub.rounds.round (λ _. next ≡ copied_in (published ++ pending))
