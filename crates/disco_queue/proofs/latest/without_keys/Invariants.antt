use Rattle.std.proofs.Common.{◌≡◌, true, ◌++◌, drop, map}
use Rattle.std.specs.Borrow.{Bor}
use Rattle.std.specs.List.{All}
use Rattle.disco_history.specs.Change.{change_view, is_proper}
use Rattle.disco_history.specs.declared.change.Change.{Change}
use Rattle.disco_queue.specs.Latest.{Latest}
use Rattle.disco_queue.proofs.latest.without_keys.Given as goal

abbrev pub invariant-loop-change : goal.invariant-loop-change
invariant-loop-change l =
    (map (λ (c : Bor Change). change_view c.now) l.found.items ++ map (λ (p : Latest). change_view p.2.now) (drop l.change-index l.latest) ≡ map (λ (p : Latest). change_view p.2.now) l.latest)
    × All (λ (c : Bor Change). is_proper c.now ≡ true) l.found.items
