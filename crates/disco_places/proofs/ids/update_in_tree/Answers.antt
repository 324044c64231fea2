use Rattle.std.proofs.Common.{Option, Some, IsSome, refl, sym, ap, subst, ◌∙◌}
use Rattle.std.specs.BTreeMap.{UpdatesBy}
use Rattle.std.specs.Option.{option_flatten}
use Rattle.disco_places.specs.KeyMaps.{text_cmp}
use Rattle.disco_places.proofs.Stored.{lent, unchanged}
use Rattle.disco_places.proofs.ids.update_in_tree.Goals as goal

pub returns-in-Some-clause-changed : goal.returns-in-Some-clause-changed
returns-in-Some-clause-changed g c = λ t.
    let p = c.change.new.place in
    let there = c.in-Some.ensures.value in
    let after = c.get_mut.follows.holds p in
    let n = c.get_mut.follows.lender p in
    let k = c.args.id.now in
    let made = c.change.ensures.changed t in (
      made.0,
      made.1,
      ap option_flatten (sym there) ∙ made.2,
      made.3,
      subst (λ q. UpdatesBy text_cmp (text_cmp k) c.args.ids.now n (Some q)) made.4 (after.3 (subst (λ (o : Option _). IsSome o) there refl)),
    )

pub returns-in-Some-clause-same : goal.returns-in-Some-clause-same
returns-in-Some-clause-same g c = λ f.
    let p = c.change.new.place in
    let there = c.in-Some.ensures.value in
    let after = c.get_mut.follows.holds p in
    let n = c.get_mut.follows.lender p in
    let k = c.args.id.now in
    unchanged k c.args.ids.now n c.in-Some.place.now p there (lent k c.args.ids.now n c.in-Some.place.now p there after.3) (c.change.ensures.same f)
