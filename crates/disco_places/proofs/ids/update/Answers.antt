use Rattle.std.proofs.Common.{◌≡◌, Some, cond, false, true, is_some, rules, sym, ap, ◌∙◌}
use Rattle.std.specs.BTreeMap.{is_at}
use Rattle.std.specs.FinMap.{get-empty}
use Rattle.std.specs.Option.{option_flatten}
use Rattle.disco_places.specs.KeyMaps.{text_cmp}
use Rattle.disco_places.proofs.Kept.{flat_there, get_one, one, put_over}
use Rattle.disco_places.proofs.Stored.{get_stored, one_put, same_ids}
use Rattle.disco_places.proofs.ids.update.Goals as goal

pub returns-in-Empty-clause-there : goal.returns-in-Empty-clause-there
returns-in-Empty-clause-there g c = rw c.in-Empty.is (ap (λ o. is_some (option_flatten o)) (sym (get-empty text_cmp c.args.id.now)))

pub returns-in-One-clause-there : goal.returns-in-One-clause-there
returns-in-One-clause-there g c =
    let other : is_at (text_cmp c.args.id.now) c.in-One.own ≡ false = search rules in
    let p = c.in-One.field-1 in
    rw c.in-One.is (sym (ap (λ b. cond b (is_some p) false) other) ∙ flat_there c.in-One.own c.args.id.now p)

pub returns-in-One-2-clause-there : goal.returns-in-One-2-clause-there
returns-in-One-2-clause-there g c =
    let own : is_at (text_cmp c.args.id.now) c.in-One.own ≡ true = search rules in
    let p = c.in-One.field-1 in
    rw c.in-One.is (c.change.ensures.there ∙ sym (ap (λ b. cond b (is_some p) false) own) ∙ flat_there c.in-One.own c.args.id.now p)

pub returns-in-One-2-clause-changed : goal.returns-in-One-2-clause-changed
returns-in-One-2-clause-changed g c = rw c.in-One.is (λ t.
    let own = c.in-One.own in
    let k = c.args.id.now in
    let p = c.in-One.field-1 in
    let is : is_at (text_cmp k) own ≡ true = search rules in
    let made = c.change.ensures.changed t in (
      made.0,
      made.1,
      ap option_flatten (get_one own k p true is) ∙ made.2,
      made.3,
      ap (one own) made.4 ∙ put_over own k p (Some made.1) is,
    ))

pub returns-in-Many-clause-there : goal.returns-in-Many-clause-there
returns-in-Many-clause-there g c = rw c.in-Many.is (c.update_in_tree.ensures.there ∙ ap (λ o. is_some (option_flatten o)) (sym (get_stored c.in-Many.ids.entries c.args.id.now)))

pub returns-in-Many-clause-changed : goal.returns-in-Many-clause-changed
returns-in-Many-clause-changed g c = rw c.in-Many.is (λ t.
    let es = c.in-Many.ids.entries in
    let k = c.args.id.now in
    let made = c.update_in_tree.ensures.changed t in (
      made.0,
      made.1,
      ap option_flatten (get_stored es k) ∙ made.2,
      made.3,
      one_put es c.update_in_tree.new.ids.entries k (Some made.1) made.4.0,
    ))

pub returns-in-Many-clause-same : goal.returns-in-Many-clause-same
returns-in-Many-clause-same g c = rw c.in-Many.is (λ f. same_ids c.in-Many.ids.entries c.update_in_tree.new.ids.entries (c.update_in_tree.ensures.same f))
