use Rattle.std.proofs.Common.{ℕ, List, Ok, Some, refl, subst}
use Rattle.disco_instance.specs.Instance.{Gives}
use Rattle.disco_registry.specs.Op as asking
use Rattle.disco_registry.specs.Op.{op_view}
use Rattle.disco_wire.specs.Registration.{registration_of}
use Rattle.disco_world.specs.Events.{begins, closes, copies, effect, expires, looks, publishes, restarts, shows, shows_certified, writes}
use Rattle.disco_operations.specs.Operations.{key_named, registers}
use Rattle.disco_world.specs.Levels.{key_looked}
use Rattle.disco_world.specs.Steps.{cache_of, holders, reply_to_show}
use Rattle.disco_hub.specs.State.{rules_of}
use Rattle.disco_world.specs.declared.event.Event.TheVariants as event
use Rattle.disco_world.specs.declared.event.Step.TheVariants as step
use Rattle.disco_world.proofs.Taken.{showed, showed_certified}
use Rattle.disco_world.proofs.LevelEffects.{looked, quiet_turns}
use Rattle.disco_world.proofs.Writes.{with_hub, with_turn}
use Rattle.disco_world.proofs.runs.answer_step.Goals as goal

pub returns-in-Register-clause-does : goal.returns-in-Register-clause-does
returns-in-Register-clause-does c = λ w held levels.
    let gives = subst (λ (b : List ℕ). Gives op_view c.register.result (registers c.in-Register.app (registration_of b))) c.as_slice.ensures c.register.ensures in
    rw c.in-Register.is (with_hub c.args.levels.now (record c.args.levels.now { hub = c.write.new.hub }) (holders c.args.clients.now) w (writes c.in-Register.now (registers c.in-Register.app (registration_of c.in-Register.json))) c.write.result refl refl held refl refl levels c.write.ensures.rounds refl refl (c.write.ensures.does (registers c.in-Register.app (registration_of c.in-Register.json)) gives w levels.levels.stands))

pub returns-in-Cancel-clause-does : goal.returns-in-Cancel-clause-does
returns-in-Cancel-clause-does c = λ w held levels.
    rw c.in-Cancel.is (with_hub c.args.levels.now (record c.args.levels.now { hub = c.write-in-Cancel.new.hub }) (holders c.args.clients.now) w (writes c.in-Cancel.now (Ok (asking.cancel (key_named c.in-Cancel.app c.in-Cancel.id)))) c.write-in-Cancel.result refl refl held refl refl levels c.write-in-Cancel.ensures.rounds refl refl (c.write-in-Cancel.ensures.does (Ok (asking.cancel (key_named c.in-Cancel.app c.in-Cancel.id))) c.cancel.ensures w levels.levels.stands))

pub returns-in-Renew-clause-does : goal.returns-in-Renew-clause-does
returns-in-Renew-clause-does c = λ w held levels.
    rw c.in-Renew.is (with_hub c.args.levels.now (record c.args.levels.now { hub = c.renew.new.hub }) (holders c.args.clients.now) w (writes c.in-Renew.now (Ok (asking.renew (key_named c.in-Renew.app c.in-Renew.id)))) c.renew.result refl refl held refl refl levels c.renew.ensures.rounds refl refl (c.renew.ensures.does (key_named c.in-Renew.app c.in-Renew.id) c.copied_key.ensures w levels.levels.stands))

pub returns-in-SetStatus-clause-does : goal.returns-in-SetStatus-clause-does
returns-in-SetStatus-clause-does c = λ w held levels.
    rw c.in-SetStatus.is (with_hub c.args.levels.now (record c.args.levels.now { hub = c.write-in-SetStatus.new.hub }) (holders c.args.clients.now) w (writes c.in-SetStatus.now (Ok (asking.set_status (key_named c.in-SetStatus.app c.in-SetStatus.id) c.in-SetStatus.status))) c.write-in-SetStatus.result refl refl held refl refl levels c.write-in-SetStatus.ensures.rounds refl refl (c.write-in-SetStatus.ensures.does (Ok (asking.set_status (key_named c.in-SetStatus.app c.in-SetStatus.id) c.in-SetStatus.status)) c.set_status.ensures w levels.levels.stands))

pub returns-in-DropStatus-clause-does : goal.returns-in-DropStatus-clause-does
returns-in-DropStatus-clause-does c = λ w held levels.
    rw c.in-DropStatus.is (with_hub c.args.levels.now (record c.args.levels.now { hub = c.write-in-DropStatus.new.hub }) (holders c.args.clients.now) w (writes c.in-DropStatus.now (Ok (asking.drop_status (key_named c.in-DropStatus.app c.in-DropStatus.id) c.in-DropStatus.status))) c.write-in-DropStatus.result refl refl held refl refl levels c.write-in-DropStatus.ensures.rounds refl refl (c.write-in-DropStatus.ensures.does (Ok (asking.drop_status (key_named c.in-DropStatus.app c.in-DropStatus.id) c.in-DropStatus.status)) c.drop_status.ensures w levels.levels.stands))

pub returns-in-Metadata-clause-does : goal.returns-in-Metadata-clause-does
returns-in-Metadata-clause-does c = λ w held levels.
    rw c.in-Metadata.is (with_hub c.args.levels.now (record c.args.levels.now { hub = c.write-in-Metadata.new.hub }) (holders c.args.clients.now) w (writes c.in-Metadata.now (Ok (asking.add_metadata (key_named c.in-Metadata.app c.in-Metadata.id) c.in-Metadata.entries))) c.write-in-Metadata.result refl refl held refl refl levels c.write-in-Metadata.ensures.rounds refl refl (c.write-in-Metadata.ensures.does (Ok (asking.add_metadata (key_named c.in-Metadata.app c.in-Metadata.id) c.in-Metadata.entries)) c.add_metadata.ensures w levels.levels.stands))

pub returns-in-Expire-clause-does : goal.returns-in-Expire-clause-does
returns-in-Expire-clause-does c = λ w held levels.
    rw c.in-Expire.is (with_hub c.args.levels.now (record c.args.levels.now { hub = c.expire.new.hub }) (holders c.args.clients.now) w (expires c.in-Expire.now) c.expire.result refl refl held refl refl levels c.expire.ensures.rounds refl refl (c.expire.ensures.does w levels.levels.stands))

pub returns-in-Look-clause-does : goal.returns-in-Look-clause-does
returns-in-Look-clause-does c = λ w held levels.
    let s = c.args.levels.now in
    let what = looks (Some (key_looked c.in-Look.key)) in
    rw c.in-Look.is (with_turn s s (holders c.args.clients.now) w what c.look.result refl refl held
    (quiet_turns (rules_of s.hub) s w what c.look.result levels refl refl, looked (rules_of s.hub) w s.published (key_looked c.in-Look.key) c.look.result (cache_of s.hub) levels.published c.look.ensures))

pub returns-in-Show-clause-does : goal.returns-in-Show-clause-does
returns-in-Show-clause-does c = λ w held levels.
    let s = c.args.levels.now in
    let what = shows c.in-Show.client in
    rw (c.in-Show.is, c.showed.ensures) (with_turn s s (holders c.args.clients.now) w what (reply_to_show c.show.result) refl refl held
    (quiet_turns (rules_of s.hub) s w what (reply_to_show c.show.result) levels refl refl, showed (rules_of s.hub) w (holders c.args.clients.now) held c.in-Show.client (cache_of s.hub) c.show.result c.show.ensures.listed c.show.ensures.memory))

pub returns-in-ShowCertified-clause-does : goal.returns-in-ShowCertified-clause-does
returns-in-ShowCertified-clause-does c = λ w held levels.
    let s = c.args.levels.now in
    let what = shows_certified c.in-ShowCertified.client in
    rw (c.in-ShowCertified.is, c.showed-in-ShowCertified.ensures) (with_turn s s (holders c.args.clients.now) w what (reply_to_show c.show_certified.result) refl refl held
    (quiet_turns (rules_of s.hub) s w what (reply_to_show c.show_certified.result) levels refl refl, showed_certified (rules_of s.hub) w (holders c.args.clients.now) held c.in-ShowCertified.client (cache_of s.hub) c.show_certified.result c.show_certified.ensures.listed c.show_certified.ensures.memory))

pub returns-in-Restart-clause-does : goal.returns-in-Restart-clause-does
returns-in-Restart-clause-does c = λ w held levels.
    rw c.in-Restart.is (with_turn c.args.levels.now c.restart.new.levels (holders c.args.clients.now) w (restarts c.in-Restart.run') c.restart.result refl refl held (c.restart.ensures.turns w levels))

pub returns-in-Load-clause-does : goal.returns-in-Load-clause-does
returns-in-Load-clause-does c = λ w held levels.
    rw c.in-Load.is (with_hub c.args.levels.now (record c.args.levels.now { hub = c.load.new.hub }) (holders c.args.clients.now) w (effect (rules_of c.args.levels.now.hub) w (event.Step (step.Load c.in-Load.key))) c.load.result refl refl held refl refl levels c.load.ensures.rounds refl refl (c.load.ensures.does w levels.levels.stands))

pub returns-in-LoadById-clause-does : goal.returns-in-LoadById-clause-does
returns-in-LoadById-clause-does c = λ w held levels.
    let s = c.args.levels.now in
    rw c.in-LoadById.is (with_hub s s (holders c.args.clients.now) w (effect (rules_of s.hub) w (event.Step (step.LoadById c.in-LoadById.id c.in-LoadById.form))) c.load_by_id.result refl refl held refl refl levels refl refl refl (c.load_by_id.ensures w levels.levels.stands))

pub returns-in-Minute-clause-does : goal.returns-in-Minute-clause-does
returns-in-Minute-clause-does c = λ w held levels.
    rw c.in-Minute.is (with_hub c.args.levels.now (record c.args.levels.now { hub = c.close.new.hub }) (holders c.args.clients.now) w closes c.close.result refl refl held refl refl levels c.close.ensures.rounds refl refl (c.close.ensures.does w levels.levels.stands))

pub returns-in-Begin-clause-does : goal.returns-in-Begin-clause-does
returns-in-Begin-clause-does c = λ w held levels.
    rw c.in-Begin.is (with_turn c.args.levels.now c.begin.new.levels (holders c.args.clients.now) w begins c.begin.result refl refl held (c.begin.ensures.turns w levels))

pub returns-in-Copy-clause-does : goal.returns-in-Copy-clause-does
returns-in-Copy-clause-does c = λ w held levels.
    rw c.in-Copy.is (with_turn c.args.levels.now c.copy.new.levels (holders c.args.clients.now) w copies c.copy.result refl refl held (c.copy.ensures.turns w levels))

pub returns-in-Publish-clause-does : goal.returns-in-Publish-clause-does
returns-in-Publish-clause-does c = λ w held levels.
    rw c.in-Publish.is (with_turn c.args.levels.now c.publish.new.levels (holders c.args.clients.now) w publishes c.publish.result refl refl held (c.publish.ensures.turns w levels))
