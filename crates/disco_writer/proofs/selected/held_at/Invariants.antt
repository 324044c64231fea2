use Rattle.std.proofs.Common.{◌≡◌, ◌++◌, drop, map}
use Rattle.std.specs.FinMap.{get}
use Rattle.std.specs.List.{filter_map}
use Rattle.disco_wire.specs.Rows.{held_entries}
use Rattle.disco_writer.proofs.selected.held_at.Given as goal

abbrev pub invariant-loop-key : goal.invariant-loop-key
invariant-loop-key l = held_entries l.list.items ++ filter_map (get l.registry.held) (map (λ k. k.now) (drop l.key-index l.keys)) ≡ filter_map (get l.registry.held) (map (λ k. k.now) l.keys)
