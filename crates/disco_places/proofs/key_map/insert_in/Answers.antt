use Rattle.std.proofs.Common.{◌≡◌, Some, subst, sym, ◌∙◌}
use Rattle.std.specs.FinMap.{empty, insert}
use Rattle.disco_places.proofs.Stored.{Text, Updated, lent, put_full}
use Rattle.disco_places.proofs.ByApp.{as_before, on_err, on_ok, opened_among, put_first}
use Rattle.disco_places.proofs.Full.{full_by, full_lent, grown_by}
use Rattle.disco_places.proofs.key_map.insert_in.Goals as goal

pub returns-in-Some-clause-ok : goal.returns-in-Some-clause-ok
returns-in-Some-clause-ok g c =
    let k = c.args.key.now in
    let m = c.in-Some.ids.now in
    let n = c.insert.new.self in
    let after = c.get_mut.follows.holds n in
    let there = c.in-Some.ensures.value in
    on_ok c.insert.result (opened_among c.args.apps.now.entries (c.get_mut.follows.lender n).entries c.requires after.4 k m n there (lent k.app c.args.apps.now (c.get_mut.follows.lender n) m n there after.3) c.args.value) c.insert.ensures.ok

pub returns-in-Some-clause-err : goal.returns-in-Some-clause-err
returns-in-Some-clause-err g c =
    let k = c.args.key.now in
    let m = c.in-Some.ids.now in
    let n = c.insert.new.self in
    let after = c.get_mut.follows.holds n in
    let there = c.in-Some.ensures.value in
    on_err c.insert.result (as_before c.args.apps.now.entries (c.get_mut.follows.lender n).entries c.requires after.4 k m n there (lent k.app c.args.apps.now (c.get_mut.follows.lender n) m n there after.3)) c.insert.ensures.err

pub returns-clause-ok : goal.returns-clause-ok
returns-clause-ok g c =
    let k = c.args.key.now in
    let es = c.args.apps.now.entries in
    let fs = c.insert-3.new.self.entries in
    let n = c.insert-2.new.self in
    let own : c.in_ok-clone.field-0 ≡ k.app = c.in_ok-clone.ensures.cases in
    let update : Updated es fs k.app (Some n) = subst (λ (a : Text). Updated es fs a (Some n)) own (rw (← c.get_mut.follows.holds-at-none) c.in_ok-insert-2.ensures.updates.0) in
    let is : n ≡ insert empty k.id c.args.value = subst (λ m. n ≡ insert m k.id c.args.value) c.new-ids.ensures c.in_ok-insert.ensures.ok in
    put_first es fs c.requires c.insert-3.ensures.ordered k c.args.value c.in_default.ensures.value (subst (λ p. Updated es fs k.app (Some p)) is update)

pub returns-in-Some-clause-full : goal.returns-in-Some-clause-full
returns-in-Some-clause-full g c =
    let k = c.args.key.now in
    let m = c.in-Some.ids.now in
    let n = c.insert.new.self in
    let after = c.get_mut.follows.holds n in
    let there = c.in-Some.ensures.value in
    let fs = (c.get_mut.follows.lender n).entries in
    full_lent c.args.apps.now.entries fs k.app m n there (lent k.app c.args.apps.now (c.get_mut.follows.lender n) m n there after.3) (grown_by c.insert.result m n k.id c.args.value c.insert.ensures.ok c.insert.ensures.err)

pub returns-clause-full : goal.returns-clause-full
returns-clause-full g c =
    let k = c.args.key.now in
    let es = c.args.apps.now.entries in
    let fs = c.insert-3.new.self.entries in
    let n = c.insert-2.new.self in
    let own : c.in_ok-clone.field-0 ≡ k.app = c.in_ok-clone.ensures.cases in
    let update : Updated es fs k.app (Some n) = subst (λ (a : Text). Updated es fs a (Some n)) own (rw (← c.get_mut.follows.holds-at-none) c.in_ok-insert-2.ensures.updates.0) in
    full_by es fs k.app n update (λ e. put_full c.new-ids.result k.id c.args.value (sym c.in_ok-insert.ensures.ok ∙ e))
