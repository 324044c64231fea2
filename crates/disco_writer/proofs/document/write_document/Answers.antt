use Rattle.disco_writer.proofs.Written.{whenever}
use Rattle.disco_writer.proofs.document.write_document.Goals as goal

pub returns-in_ok-write_apps-in-Apps-clause-written : goal.returns-in_ok-write_apps-in-Apps-clause-written
returns-in_ok-write_apps-in-Apps-clause-written c = rw c.in-Apps.is (λ kind. c.in_ok-write_apps-in-Apps.ensures.written)

pub returns-in-App-clause-written : goal.returns-in-App-clause-written
returns-in-App-clause-written c = rw c.in-App.is (whenever _ _ c.write_app.result c.write_app.ensures.written)

pub returns-in-Vip-clause-written : goal.returns-in-Vip-clause-written
returns-in-Vip-clause-written c = rw c.in-Vip.is (whenever _ _ c.write_vip.result c.write_vip.ensures.written)

pub returns-in-Svip-clause-written : goal.returns-in-Svip-clause-written
returns-in-Svip-clause-written c = rw c.in-Svip.is (whenever _ _ c.write_svip.result c.write_svip.ensures.written)

pub returns-in-Instance-clause-written : goal.returns-in-Instance-clause-written
returns-in-Instance-clause-written c = rw c.in-Instance.is (whenever _ _ c.write_instance.result c.write_instance.ensures.written)

pub returns-in_ok-write_delta-in-Delta-clause-delta : goal.returns-in_ok-write_delta-in-Delta-clause-delta
returns-in_ok-write_delta-in-Delta-clause-delta c = rw c.in-Delta.is (λ kind. c.in_ok-write_delta-in-Delta.ensures.written)
