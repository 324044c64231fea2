use Rattle.std.proofs.Common.{◌≡◌, map, ◌++◌}
use Rattle.std.specs.Vec.Iter.{into_iter_items}
use Rattle.disco_history.specs.Held.{entry_of}
use Rattle.disco_history.specs.Mentions.{known}
use Rattle.disco_wire.specs.Wire.{tell_all}
use Rattle.disco_client.proofs.taken.known.Given as goal

abbrev pub invariant-loop-mention : goal.invariant-loop-mention
invariant-loop-mention l = map entry_of l.taken.items ++ known (tell_all (into_iter_items l.mention-iterator)) ≡ known (tell_all l.fn.mentions)
