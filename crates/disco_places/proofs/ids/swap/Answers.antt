use Rattle.std.proofs.Common.{◌≡◌, Some, cond, false, refl, rules, sym, true, ap, ◌∙◌}
use Rattle.std.specs.BTreeMap.{is_at}
use Rattle.std.specs.FinMap.{from_entries, get-empty}
use Rattle.disco_places.specs.KeyMaps.{text_cmp}
use Rattle.disco_places.proofs.Kept.{get_one, none_there, swap_none, swap_there}
use Rattle.disco_places.proofs.Stored.{get_stored, one_put, there_at}
use Rattle.disco_places.proofs.ids.swap.Goals as goal

pub returns-in-Empty-clause-before : goal.returns-in-Empty-clause-before
returns-in-Empty-clause-before g c = rw c.in-Empty.is (sym (get-empty text_cmp c.args.id.now))

pub returns-in-Empty-clause-there : goal.returns-in-Empty-clause-there
returns-in-Empty-clause-there g c = rw c.in-Empty.is (λ there. absurd (none_there _ c.args.id.now there))

pub returns-in-One-clause-before : goal.returns-in-One-clause-before
returns-in-One-clause-before g c =
    let other : is_at (text_cmp c.args.id.now) c.in-One.own ≡ false = search rules in
    rw c.in-One.is (sym (get_one c.in-One.own c.args.id.now c.in-One.field-1 false other))

pub returns-in-One-clause-there : goal.returns-in-One-clause-there
returns-in-One-clause-there g c =
    let other : is_at (text_cmp c.args.id.now) c.in-One.own ≡ false = search rules in
    let x = c.in-One.field-1 in
    rw c.in-One.is (swap_there c.in-One.own c.args.id.now x c.args.value x _ refl (sym (ap (λ b. cond b c.args.value x) other)))

pub returns-in-One-2-clause-before : goal.returns-in-One-2-clause-before
returns-in-One-2-clause-before g c =
    let own : is_at (text_cmp c.args.id.now) c.in-One.own ≡ true = search rules in
    rw c.in-One.is (ap Some c.replace.ensures.value ∙ sym (get_one c.in-One.own c.args.id.now c.in-One.field-1 true own))

pub returns-in-One-2-clause-there : goal.returns-in-One-2-clause-there
returns-in-One-2-clause-there g c =
    let own : is_at (text_cmp c.args.id.now) c.in-One.own ≡ true = search rules in
    let x = c.in-One.field-1 in
    rw c.in-One.is (swap_there c.in-One.own c.args.id.now x c.args.value c.replace.new.dest _ refl (c.replace.ensures.after ∙ sym (ap (λ b. cond b c.args.value x) own)))

pub returns-in-One-2-clause-none : goal.returns-in-One-2-clause-none
returns-in-One-2-clause-none g c =
    let own : is_at (text_cmp c.args.id.now) c.in-One.own ≡ true = search rules in
    let x = c.in-One.field-1 in
    rw c.in-One.is (swap_none c.in-One.own c.args.id.now x c.args.value c.replace.new.dest _ refl (c.replace.ensures.after ∙ sym (ap (λ b. cond b c.args.value x) own)))

pub returns-in-Many-clause-before : goal.returns-in-Many-clause-before
returns-in-Many-clause-before g c = rw c.in-Many.is (c.swap_in_tree.ensures.before ∙ sym (get_stored c.in-Many.ids.entries c.args.id.now))

pub returns-in-Many-clause-there : goal.returns-in-Many-clause-there
returns-in-Many-clause-there g c =
    rw c.in-Many.is (λ there. one_put c.in-Many.ids.entries c.swap_in_tree.new.ids.entries c.args.id.now c.args.value (c.swap_in_tree.ensures.there (there_at c.in-Many.ids.entries c.args.id.now there)).0)

pub returns-in-Many-clause-none : goal.returns-in-Many-clause-none
returns-in-Many-clause-none g c = rw c.in-Many.is (λ none. ap (λ m. from_entries m.entries) (c.swap_in_tree.ensures.none (sym (get_stored c.in-Many.ids.entries c.args.id.now) ∙ none)))
