use Rattle.std.proofs.Common.{◌≡◌, ◌++◌, ℕ, List, Option, map, option_map}
use Rattle.std.specs.FinMap.{entries}
use Rattle.std.specs.List.{filter_map}
use Rattle.disco_history.specs.Held.{entry_of}
use Rattle.disco_history.specs.declared.held.Held.{Held}
use Rattle.disco_registry.proofs.records.shared_in.Given as goal

abbrev pub invariant-loop-place : goal.invariant-loop-place
invariant-loop-place l =
    map entry_of l.list.items ++ filter_map (λ (e : List ℕ × Option Held). option_map entry_of e.1) l.place-iterator
    ≡ filter_map (λ (e : List ℕ × Option Held). option_map entry_of e.1) (entries l.ids)
