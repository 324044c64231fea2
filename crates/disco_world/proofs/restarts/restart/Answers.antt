use Rattle.std.proofs.Common.{◌≡◌, ap, sym, subst, ◌∙◌, arith}
use Rattle.disco_core.specs.Past.{nothing}
use Rattle.disco_hub.specs.State.{HubStandsFor}
use Rattle.disco_world.specs.Outcomes.{new_cache}
use Rattle.disco_world.proofs.LevelEffects.{restarted_turns}
use Rattle.disco_world.proofs.restarts.restart.Goals as goal

pub returns-clause-turns : goal.returns-clause-turns
returns-clause-turns c = λ w levels.
    let new = c.new.result in
    let was : c.run.result ≡ w.past.run = c.run.ensures.past w.past levels.levels.stands in
    let stands = subst (λ r. HubStandsFor new.hub (nothing r)) c.in_run.ensures.run c.new.ensures.stands in
    restarted_turns c.args.levels.now new w c.args.run (omega (arith, c.if-run.false, was)) stands (c.new.ensures.cache ∙ ap new_cache (c.in_run.ensures.entries ∙ sym c.requires.room)) c.new.ensures.published
