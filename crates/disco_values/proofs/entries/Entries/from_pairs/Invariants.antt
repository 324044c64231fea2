use Rattle.std.proofs.Common.{◌≡◌, ℕ, List, ◌++◌, vec_len}
use Rattle.disco_values.specs.Entries.{entries_of}
use Rattle.disco_values.proofs.entries.Entries.from_pairs.Given as goal

abbrev pub invariant-loop-name : goal.invariant-loop-name
invariant-loop-name l = (done : List (List ℕ × List ℕ)) × (l.fn.pairs.items ≡ l.rest.items ++ done) × (l.entries ≡ entries_of done)

abbrev pub decreases-loop-name : goal.decreases-loop-name
decreases-loop-name l = vec_len l.rest
