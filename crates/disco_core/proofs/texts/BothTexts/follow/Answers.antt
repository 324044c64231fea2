use Rattle.std.proofs.Common.{refl}
use Rattle.disco_history.specs.Change.{change_view}
use Rattle.disco_core.proofs.KeptTexts.{gone_follows, put_follows}
use Rattle.disco_core.proofs.texts.BothTexts.follow.Goals as goal

pub returns-in-Added : goal.returns-in-Added
returns-in-Added c = put_follows (change_view c.args.change.now) c.args.self.now c.put.new.self (rw (c.in-Put.is, c.in-Added.is) refl) c.requires c.put.ensures

pub returns-in-Modified : goal.returns-in-Modified
returns-in-Modified c = put_follows (change_view c.args.change.now) c.args.self.now c.put-in-Modified.new.self (rw (c.in-Put.is, c.in-Modified.is) refl) c.requires c.put-in-Modified.ensures

pub returns-in-Deleted : goal.returns-in-Deleted
returns-in-Deleted c = gone_follows (change_view c.args.change.now) c.key.result.now c.args.self.now c.take.new.self (rw (c.in-Put.is, c.in-Deleted.is) refl) c.key.ensures c.take.ensures

pub returns-in-Gone : goal.returns-in-Gone
returns-in-Gone c = gone_follows (change_view c.args.change.now) c.key-in-Gone.result.now c.args.self.now c.take-in-Gone.new.self (rw c.in-Gone.is refl) c.key-in-Gone.ensures c.take-in-Gone.ensures
