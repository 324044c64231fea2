use Rattle.disco_writer.proofs.GroupTexts.{more}
use Rattle.disco_writer.proofs.instance.add_back.Goals as goal

pub returns-clause-full : goal.returns-clause-full
returns-clause-full c =
    more _ (more _ (more _ (more _ (more _ c.requires.full c.in_ok-add_both.ensures.full) c.in_ok-put_group.ensures) c.in_ok-add_both-2.ensures.full) c.in_ok-put_group-2.ensures) c.in_ok-add_both-3.ensures.full

pub returns-clause-compact : goal.returns-clause-compact
returns-clause-compact c =
    more _ (more _ (more _ c.requires.compact c.in_ok-add_both.ensures.compact) c.in_ok-add_both-2.ensures.compact) c.in_ok-add_both-3.ensures.compact
