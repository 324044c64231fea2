use Rattle.std.proofs.Common.{◌≡◌, ◌++◌, true, length}
use Rattle.disco_values.specs.Entries.{is_by_name, with_entries}
use Rattle.disco_values.proofs.merge.merged.Given as goal

abbrev pub invariant-loop-first : goal.invariant-loop-first
invariant-loop-first l = (l.all.items ++ with_entries l.own_left l.others_left ≡ with_entries l.own l.others) × (is_by_name l.others_left ≡ true)

abbrev pub decreases-loop-first : goal.decreases-loop-first
decreases-loop-first l = length (with_entries l.own_left l.others_left)
