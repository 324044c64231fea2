use Rattle.disco_writer.specs.Named.{named_text}
use Rattle.disco_writer.proofs.Steps.{only_next-out, text-out}
use Rattle.disco_writer.proofs.texts.Texts.take.Goals as goal

pub returns : goal.returns
returns c = rw (← c.self.view_is) (text-out c.self.inside.places c.close.new.self c.args.key.now c.close.ensures)

pub invariant_of-self : goal.invariant_of-self
invariant_of-self c = only_next-out (named_text c.self.inside.next) c.args.key.now c.self.inside.places c.close.new.self c.self.invariant c.close.ensures
