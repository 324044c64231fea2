use Rattle.std.proofs.Common.{◌≡◌, IfOk, subst, List, Option, ℕ, map}
use Rattle.disco_values.specs.declared.key.Key.{Key}
use Rattle.disco_history.specs.Places.{filled}
use Rattle.disco_writer.specs.InOrder.{keyed_text}
use Rattle.disco_writer.proofs.places.entries_in.Goals as goal

pub returns : goal.returns
returns c = subst (λ (es : List (Key × Option (List ℕ))). IfOk c.walk_keyed.result (λ v. map keyed_text v.items ≡ filled (λ t. t) es)) c.apps.ensures c.walk_keyed.ensures
