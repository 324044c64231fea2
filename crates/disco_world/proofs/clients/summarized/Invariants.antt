use Rattle.std.proofs.Common.{◌≡◌, map, take}
use Rattle.disco_instance.specs.Row.{row}
use Rattle.disco_history.specs.declared.held.Held.{Held}
use Rattle.disco_world.specs.Steps.{summary_of}
use Rattle.disco_world.proofs.clients.summarized.Given as goal

abbrev pub invariant-loop-held : goal.invariant-loop-held
invariant-loop-held l = l.listed.items ≡ map (λ (h : Held). summary_of (row h.rec.value)) (take l.held-index l.records)
