use Rattle.disco_writer.proofs.Steps.{opens_made, place_made, show_made}
use Rattle.disco_writer.proofs.places.make.Goals as goal

pub returns-clause-same : goal.returns-clause-same
returns-clause-same c = show_made c.args.places.now c.make.new.self c.args.key.now c.make.result c.make.ensures.ok c.make.ensures.err

pub returns-clause-place : goal.returns-clause-place
returns-clause-place c = place_made c.args.places.now c.make.new.self c.args.key.now c.make.result c.make.ensures.ok

pub returns-clause-opens : goal.returns-clause-opens
returns-clause-opens c = opens_made c.args.places.now c.make.new.self c.args.key.now c.make.result c.make.ensures.ok c.make.ensures.err
