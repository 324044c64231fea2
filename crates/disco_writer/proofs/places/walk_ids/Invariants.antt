use Rattle.std.proofs.Common.{◌≡◌, ◌++◌}
use Rattle.std.specs.FinMap.{entries}
use Rattle.disco_writer.specs.Joined.{shown_by, walked_ids}
use Rattle.disco_writer.proofs.places.walk_ids.Given as goal

abbrev pub invariant-loop-place : goal.invariant-loop-place
invariant-loop-place l = shown_by l.list.items ++ walked_ids l.app l.place-iterator ≡ shown_by l.initial.list.items ++ walked_ids l.app (entries l.ids)
