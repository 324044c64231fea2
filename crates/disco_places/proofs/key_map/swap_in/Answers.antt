use Rattle.std.proofs.Common.{sym, ap, ◌∙◌}
use Rattle.disco_places.proofs.Stored.{lent}
use Rattle.disco_places.proofs.ByApp.{at_id, get_by_key, nowhere, put_nowhere, put_there}
use Rattle.disco_places.proofs.Full.{full_lent, grown_where}
use Rattle.disco_places.proofs.key_map.swap_in.Goals as goal

pub returns-in-Some-clause-before : goal.returns-in-Some-clause-before
returns-in-Some-clause-before g c =
    let k = c.args.key.now in
    c.swap.ensures.before ∙ ap (λ o. at_id o k.id) c.in-Some.ensures.value ∙ sym (get_by_key k c.args.apps.now.entries c.requires)

pub returns-in-Some-clause-there : goal.returns-in-Some-clause-there
returns-in-Some-clause-there g c =
    let k = c.args.key.now in
    let m = c.in-Some.ids.now in
    let n = c.swap.new.self in
    let after = c.get_mut.follows.holds n in
    let there = c.in-Some.ensures.value in
    put_there c.args.apps.now.entries (c.get_mut.follows.lender n).entries c.requires after.4 k m n there (lent k.app c.args.apps.now (c.get_mut.follows.lender n) m n there after.3) c.args.value c.swap.ensures.there

pub returns-in-Some-clause-none : goal.returns-in-Some-clause-none
returns-in-Some-clause-none g c =
    let k = c.args.key.now in
    let m = c.in-Some.ids.now in
    let n = c.swap.new.self in
    let after = c.get_mut.follows.holds n in
    let there = c.in-Some.ensures.value in
    put_nowhere c.args.apps.now.entries (c.get_mut.follows.lender n).entries c.requires after.4 k m n there (lent k.app c.args.apps.now (c.get_mut.follows.lender n) m n there after.3) c.swap.ensures.none

pub returns-in-None-clause-before : goal.returns-in-None-clause-before
returns-in-None-clause-before g c =
    let k = c.args.key.now in
    ap (λ o. at_id o k.id) c.in-None.ensures.value ∙ sym (get_by_key k c.args.apps.now.entries c.requires)

pub returns-in-None-clause-there : goal.returns-in-None-clause-there
returns-in-None-clause-there g c = λ is. absurd (nowhere c.args.apps.now.entries c.args.key.now c.requires c.in-None.ensures.value is)

pub returns-in-Some-clause-full : goal.returns-in-Some-clause-full
returns-in-Some-clause-full g c =
    let k = c.args.key.now in
    let m = c.in-Some.ids.now in
    let n = c.swap.new.self in
    let after = c.get_mut.follows.holds n in
    let there = c.in-Some.ensures.value in
    let fs = (c.get_mut.follows.lender n).entries in
    full_lent c.args.apps.now.entries fs k.app m n there (lent k.app c.args.apps.now (c.get_mut.follows.lender n) m n there after.3) (grown_where m n k.id c.args.value c.swap.ensures.there c.swap.ensures.none)
