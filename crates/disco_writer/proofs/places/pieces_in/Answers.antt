use Rattle.std.proofs.Common.{◌≡◌, IfOk, subst, List, Option, ℕ}
use Rattle.disco_values.specs.declared.key.Key.{Key}
use Rattle.disco_writer.specs.Joined.{shown_by, walked}
use Rattle.disco_writer.proofs.places.pieces_in.Goals as goal

pub returns : goal.returns
returns c = subst (λ (es : List (Key × Option (List ℕ))). IfOk c.walk.result (λ v. shown_by v.items ≡ walked es)) c.apps.ensures c.walk.ensures
