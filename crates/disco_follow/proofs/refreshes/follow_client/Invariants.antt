use Rattle.std.proofs.Common.{◌≡◌, ℕ, List, length}
use Rattle.std.specs.Io.KnownBytes.{Appends}
use Rattle.std.specs.List.{flat_map}
use Rattle.disco_follow.specs.Follows.{AreTurns, nothing_told}
use Rattle.disco_follow.proofs.refreshes.follow_client.Given as goal

abbrev pub invariant-loop-done : goal.invariant-loop-done
invariant-loop-done g l =
    ((texts : List (List ℕ)) × (length texts ≡ l.done) × AreTurns g.F.Fetch.gives g.F.Fetch.failed l.wanted l.fn.client nothing_told texts l.client l.told
    × Appends (g.W.Sink.contents l.fn.out) (g.W.Sink.contents l.out) (flat_map (λ text. text) texts))
    × (g.W.Sink.failed l.out ≡ g.W.Sink.failed l.fn.out)
