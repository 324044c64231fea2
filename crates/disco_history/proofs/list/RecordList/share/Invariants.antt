use Rattle.std.proofs.Common.{◌≡◌, map, take}
use Rattle.disco_history.specs.Held.{entry_of}
use Rattle.disco_history.proofs.list.RecordList.share.Given as goal

abbrev pub invariant-loop-held : goal.invariant-loop-held
invariant-loop-held l = map entry_of l.records.items ≡ map entry_of (take l.held-index l.held-items)
