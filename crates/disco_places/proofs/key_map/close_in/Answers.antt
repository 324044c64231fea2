use Rattle.std.proofs.Common.{is_some, ap, sym, ◌∙◌}
use Rattle.std.specs.BTreeMap.{BTreeMap}
use Rattle.disco_places.specs.KeyMaps.{by_key}
use Rattle.disco_places.proofs.Stored.{at_text, lent}
use Rattle.disco_places.proofs.ByApp.{at_id, get_by_key, none_out, taken_out}
use Rattle.disco_places.proofs.Full.{bare_alone, full_by}
use Rattle.disco_places.proofs.key_map.close_in.Goals as goal

pub returns-in-Some-clause-there : goal.returns-in-Some-clause-there
returns-in-Some-clause-there g c =
    let k = c.args.key.now in
    c.remove-had.ensures.there ∙ ap is_some (ap (λ o. at_id o k.id) c.in-Some.ensures.value ∙ sym (get_by_key k c.args.apps.now.entries c.requires))

pub returns-in-None-clause-there : goal.returns-in-None-clause-there
returns-in-None-clause-there g c =
    let k = c.args.key.now in
    ap is_some (ap (λ o. at_id o k.id) c.in-None.ensures.value ∙ sym (get_by_key k c.args.apps.now.entries c.requires))

pub returns-in-Some-clause-closed : goal.returns-in-Some-clause-closed
returns-in-Some-clause-closed g c =
    let k = c.args.key.now in
    let n = c.remove-had.new.self in
    let after = c.get_mut.follows.holds n in
    let there = c.in-Some.ensures.value in
    taken_out c.args.apps.now.entries (c.get_mut.follows.lender n).entries c.requires after.4 k c.in-Some.ids.now n there
    (lent k.app c.args.apps.now (c.get_mut.follows.lender n) c.in-Some.ids.now n there after.3) c.remove-had.ensures.out

pub returns-in-None-clause-closed : goal.returns-in-None-clause-closed
returns-in-None-clause-closed g c =
    ap (λ m. by_key m.entries) c.get_mut.follows.holds-at-none ∙ none_out c.args.apps.now.entries c.args.key.now c.requires c.in-None.ensures.value

pub returns-in-Some-clause-full : goal.returns-in-Some-clause-full
returns-in-Some-clause-full g c = λ has.
    let k = c.args.key.now in
    let m = c.in-Some.ids.now in
    let n = c.remove-had.new.self in
    let after = c.get_mut.follows.holds n in
    let there = c.in-Some.ensures.value in
    let fs = (c.get_mut.follows.lender n).entries in
    full_by c.args.apps.now.entries fs k.app n (lent k.app c.args.apps.now (c.get_mut.follows.lender n) m n there after.3) (λ e. let bare = c.is_empty.ensures.1 e in absurd (cc))

pub returns-in-Some-clause-others : goal.returns-in-Some-clause-others
returns-in-Some-clause-others g c =
    let k = c.args.key.now in
    let m = c.in-Some.ids.now in
    let n = c.remove-had.new.self in
    let after = c.get_mut.follows.holds n in
    let there = c.in-Some.ensures.value in
    let fs = (c.get_mut.follows.lender n).entries in
    bare_alone c.args.apps.now.entries fs k.app n (lent k.app c.args.apps.now (c.get_mut.follows.lender n) m n there after.3)

pub returns-in-None-clause-others : goal.returns-in-None-clause-others
returns-in-None-clause-others g c = λ none a is. absurd (none a (ap (λ (t : BTreeMap _ _). at_text t.entries a) (sym c.get_mut.follows.holds-at-none) ∙ is))
