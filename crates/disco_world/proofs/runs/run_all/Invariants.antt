use Rattle.disco_world.specs.Steps.{holders}
use Rattle.disco_core.specs.State.{rules}
use Rattle.disco_world.proofs.Histories.{IsRun}
use Rattle.disco_world.proofs.runs.run_all.Given as goal

abbrev pub invariant-loop-event : goal.invariant-loop-event
invariant-loop-event l = IsRun l.settings.entries (rules l.settings) l.settings.run l.events l.replies.items l.event-index l.levels (holders l.clients)
