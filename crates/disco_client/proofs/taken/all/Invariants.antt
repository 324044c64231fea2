use Rattle.std.proofs.Common.{◌≡◌, map, ◌++◌}
use Rattle.std.specs.Vec.Iter.{into_iter_items}
use Rattle.disco_values.specs.declared.action.Action.TheVariants.{Added}
use Rattle.disco_history.specs.Held.{entry_of}
use Rattle.disco_instance.specs.Mention.{Mention}
use Rattle.disco_wire.specs.Wire.{tell_all}
use Rattle.disco_client.proofs.taken.all.Given as goal

abbrev pub invariant-loop-mention : goal.invariant-loop-mention
invariant-loop-mention l =
    map entry_of l.taken.items ++ map (λ (m : Mention). (m.0, Added)) (tell_all (into_iter_items l.mention-iterator)) ≡ map (λ (m : Mention). (m.0, Added)) (tell_all l.fn.mentions)
