use Rattle.std.proofs.Common.{subst}
use Rattle.clap.specs.Words.{found_of, rows_of}
use Rattle.disco_follow.specs.Following.{Tells, TellsFor, form_in, wanted_in}
use Rattle.disco_follow.proofs.follow_command.follow.Goals as goal

pub returns-in-Ok-plan_from-clause-told : goal.returns-in-Ok-plan_from-clause-told
unfolding TellsFor
returns-in-Ok-plan_from-clause-told g c = λ none zero.
    let rows = rows_of (found_of c.in-Ok.matches) in
    let old = g.W.Sink.contents c.args.out.now in
    let new = g.W.Sink.contents c.carry_out.new.out in
    let plan = c.in-Ok-plan_from.plan in
    let named = c.in-Ok-plan_from.ensures in
    let wanted = subst (λ w. Tells w plan.form plan.times old new) named.wanted (c.carry_out.ensures.told zero) in
    let form = subst (λ f. Tells (wanted_in rows) f plan.times old new) named.form wanted in
    (rows, c.in-Ok.ensures.matches, subst (λ t. Tells (wanted_in rows) (form_in rows) t old new) named.times form)
