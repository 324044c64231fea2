use Rattle.std.proofs.Common.{subst, sym}
use Rattle.disco_core.specs.Past.{history}
use Rattle.disco_values.specs.declared.doc_key.DocKey.{DocKey}
use Rattle.disco_values.specs.declared.query.Query.{Query}
use Rattle.disco_hub.specs.State.{rules_of}
use Rattle.disco_world.specs.Events.{loads, query_asked}
use Rattle.disco_core.specs.Refusals.{loaded}
use Rattle.disco_world.specs.Steps.{Performs, reply_of}
use Rattle.disco_world.specs.declared.event.Reply.{Reply}
use Rattle.disco_world.proofs.Writes.{loads_so}
use Rattle.disco_world.proofs.loads.load.Goals as goal

pub returns-in-Ok-clause-does : goal.returns-in-Ok-clause-does
returns-in-Ok-clause-does c =
    let old = c.args.hub.now in
    let k : DocKey = record { query = c.in-Ok.query; form = c.args.key.now.form } in
    let so = loads_so old c.load.new.self k c.load.result c.load.ensures.served c.load.ensures.refused c.load.ensures.loads c.load.ensures.as_before in
    let of_key = subst (λ (q : Query). Performs old c.load.new.self (λ w. loads (loaded (rules_of old).delta (record { query = q; form = c.args.key.now.form }) (history w.past))) (reply_of c.load.result)) c.in-Ok.ensures.query so in
    subst (λ (r : Reply). Performs old c.load.new.self (λ w. loads (loaded (rules_of old).delta (record { query = query_asked c.args.key.now.query; form = c.args.key.now.form }) (history w.past))) r) (sym c.served.ensures) of_key
