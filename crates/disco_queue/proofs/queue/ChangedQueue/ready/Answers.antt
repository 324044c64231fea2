use Rattle.disco_history.proofs.Slots.{place_opened}
use Rattle.disco_queue.proofs.queue.ChangedQueue.ready.Goals as goal

pub returns-clause-place : goal.returns-clause-place
returns-clause-place c = place_opened 0 c.self.inside.numbers c.open.new.self c.args.key.now c.in_ok-open.ensures.ok
