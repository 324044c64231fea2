-- What a desk keeps. Nothing here is to be believed: it is the invariant of a type.
use Rattle.std.specs.Prelude.{◌≡◌, ℕ, List}
use Rattle.disco_core.specs.Past.{Past}
use Rattle.disco_hub.specs.Levels.{AreLevels}
use Rattle.disco_hub.specs.Press.{Edition, Note}
use Rattle.disco_hub.specs.State.{HubState, version_of}
use Rattle.disco_press.specs.Logs.{Logged, notes_in}

-- readers take what was published, the hub stands for what was noted, and each change is counted
pub record IsKept (visible : List (List Note)) (log : Logged) (hub : HubState) (next : Edition) (counted : ℕ) : Type 0 where
  pub shown : visible ≡ log.published
  pub past : Past
  pub levels : AreLevels hub next (notes_in log.published) log.pending past
  pub version : version_of hub ≡ counted
