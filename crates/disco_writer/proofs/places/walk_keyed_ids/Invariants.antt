use Rattle.std.proofs.Common.{◌≡◌, ◌++◌, map}
use Rattle.std.specs.FinMap.{entries}
use Rattle.disco_writer.specs.InOrder.{keyed_ids, keyed_text}
use Rattle.disco_writer.proofs.places.walk_keyed_ids.Given as goal

abbrev pub invariant-loop-id : goal.invariant-loop-id
invariant-loop-id l = map keyed_text l.list.items ++ keyed_ids l.app l.id-iterator ≡ map keyed_text l.initial.list.items ++ keyed_ids l.app (entries l.ids)
