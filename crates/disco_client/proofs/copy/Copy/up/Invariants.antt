use Rattle.std.proofs.Common.{◌≡◌, map, take}
use Rattle.std.specs.Borrow.{Bor}
use Rattle.disco_instance.specs.Row.{row}
use Rattle.disco_instance.specs.declared.record.Record.{Record}
use Rattle.disco_client.proofs.Shown.{up}
use Rattle.disco_client.proofs.copy.Copy.up.Given as goal

abbrev pub invariant-loop-held : goal.invariant-loop-held
invariant-loop-held l = map (λ (r : Bor Record). row r.now) l.up.items ≡ up l.vip (take l.held-index l.held-items)
