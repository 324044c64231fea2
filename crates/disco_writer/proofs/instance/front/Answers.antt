use Rattle.disco_writer.proofs.GroupTexts.{first, more}
use Rattle.disco_writer.proofs.instance.front.Goals as goal

pub returns-clause-full : goal.returns-clause-full
returns-clause-full c =
    let names = first c.in_ok-texts.ensures.full c.in_ok-add_both.ensures.full in
    more _ (more _ (more _ (more _ (more _ names c.in_ok-put_group.ensures) c.in_ok-add_both-2.ensures.full) c.in_ok-put_group-2.ensures) c.in_ok-add_both-3.ensures.full) c.in_ok-put_group-3.ensures

pub returns-clause-compact : goal.returns-clause-compact
returns-clause-compact c =
    let names = first c.in_ok-texts.ensures.compact c.in_ok-add_both.ensures.compact in
    more _ (more _ names c.in_ok-add_both-2.ensures.compact) c.in_ok-add_both-3.ensures.compact
