use Rattle.std.proofs.Common.{is_some, sym, ap, ◌∙◌}
use Rattle.std.specs.FinMap.{get-empty}
use Rattle.disco_places.specs.Ids.{map_in}
use Rattle.disco_places.specs.KeyMaps.{text_cmp}
use Rattle.disco_places.proofs.Kept.{one_there, out_none, out_one, out_other}
use Rattle.disco_places.proofs.Stored.{get_stored, one_out}
use Rattle.disco_places.proofs.ids.remove.Goals as goal

pub returns-in-Empty-clause-there : goal.returns-in-Empty-clause-there
returns-in-Empty-clause-there g c = rw c.in-Empty.is (ap is_some (sym (get-empty text_cmp c.args.id.now)))

pub returns-in-Empty-clause-out : goal.returns-in-Empty-clause-out
returns-in-Empty-clause-out g c = rw c.in-Empty.is (out_none c.args.id.now)

pub returns-then-is_there-clause-there : goal.returns-then-is_there-clause-there
returns-then-is_there-clause-there g c = rw c.in-One.is (c.is_same-is_there.ensures ∙ one_there c.in-One.own c.args.id.now c.in-One.field-1)

pub returns-then-is_there-clause-out : goal.returns-then-is_there-clause-out
returns-then-is_there-clause-out g c = rw c.in-One.is (ap map_in c.replace.ensures.after ∙ out_one c.in-One.own c.args.id.now c.in-One.field-1 (sym c.is_same-is_there.ensures ∙ c.if-is_there.true))

pub returns-else-is_there-clause-there : goal.returns-else-is_there-clause-there
returns-else-is_there-clause-there g c = rw c.in-One.is (c.is_same-is_there.ensures ∙ one_there c.in-One.own c.args.id.now c.in-One.field-1)

pub returns-else-is_there-clause-out : goal.returns-else-is_there-clause-out
returns-else-is_there-clause-out g c = rw c.in-One.is (out_other c.in-One.own c.args.id.now c.in-One.field-1 (sym c.is_same-is_there.ensures ∙ c.if-is_there.false))

pub returns-in-Many-clause-there : goal.returns-in-Many-clause-there
returns-in-Many-clause-there g c = rw c.in-Many.is (c.unset.ensures.there ∙ ap is_some (sym (get_stored c.in-Many.ids.entries c.args.id.now)))

pub returns-in-Many-clause-out : goal.returns-in-Many-clause-out
returns-in-Many-clause-out g c = rw c.in-Many.is (one_out c.in-Many.ids.entries c.unset.new.ids.entries c.args.id.now c.unset.ensures.out.0)
