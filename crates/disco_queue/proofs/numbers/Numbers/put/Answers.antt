use Rattle.disco_queue.proofs.Places.{place_written}
use Rattle.disco_queue.proofs.numbers.Numbers.put.Goals as goal

pub returns-clause-put : goal.returns-clause-put
returns-clause-put c = rw (← c.self.view_is) (place_written c.self.inside.places c.swap.new.self c.args.key.now c.args.number c.swap.ensures.there c.swap.ensures.none)
