use Rattle.std.proofs.Common.{ap, arith, ◌-◌}
use Rattle.std.proofs.Math.Seq.{map-set_same}
use Rattle.disco_queue.specs.Seen.{change_of, timed}
use Rattle.disco_queue.proofs.Superseded.{superseded_set}
use Rattle.disco_queue.proofs.queue.supersede.Goals as goal

pub returns-in-Some-clause-changes : goal.returns-in-Some-clause-changes
returns-in-Some-clause-changes c = map-set_same timed c.args.kept.now.items (c.args.number - c.args.base - 1) _ c.in-Some.earlier.now (ap timed c.in-Some.ensures.value)

pub returns-in-Some-clause-entries : goal.returns-in-Some-clause-entries
returns-in-Some-clause-entries c = map-set_same change_of c.args.kept.now.items (c.args.number - c.args.base - 1) _ c.in-Some.earlier.now (ap change_of c.in-Some.ensures.value)

pub returns-in-Some-clause-superseded : goal.returns-in-Some-clause-superseded
returns-in-Some-clause-superseded c =
    superseded_set c.args.kept.now.items (c.args.number - c.args.base - 1) _ c.in-Some.earlier.now (ap change_of c.in-Some.ensures.value) (c.requires.followed (omega (arith, c.if-number-base.false))) c.requires.superseded
