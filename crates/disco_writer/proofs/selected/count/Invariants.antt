use Rattle.std.proofs.Common.{◌≡◌, take}
use Rattle.disco_index.specs.Tally.{tally_of}
use Rattle.disco_wire.specs.Rows.{held_entries, rows_in}
use Rattle.disco_writer.proofs.selected.count.Given as goal

abbrev pub invariant-loop-one : goal.invariant-loop-one
invariant-loop-one l = l.counts ≡ tally_of (rows_in (held_entries (take l.one-index l.held)))
