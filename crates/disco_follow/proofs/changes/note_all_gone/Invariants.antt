use Rattle.std.proofs.Common.{map, take}
use Rattle.disco_instance.specs.Row.{row}
use Rattle.disco_follow.specs.Seen.{seen_change}
use Rattle.disco_follow.proofs.ListedChanges.{TellsGone}
use Rattle.disco_follow.proofs.changes.note_all_gone.Given as goal

abbrev pub invariant-loop-held : goal.invariant-loop-held
invariant-loop-held l =
    TellsGone l.now (map (λ h. row h.rec.value) (take l.held-index l.held-items)) (map seen_change l.fn.changes.items) (map seen_change l.changes.items)
