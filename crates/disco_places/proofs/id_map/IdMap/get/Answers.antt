use Rattle.std.proofs.Common.{true, false, sym, ◌∙◌}
use Rattle.std.specs.FinMap.{get-empty}
use Rattle.disco_places.specs.KeyMaps.{text_cmp}
use Rattle.disco_places.proofs.Kept.{get_one}
use Rattle.disco_places.proofs.Stored.{get_stored}
use Rattle.disco_places.proofs.id_map.IdMap.get.Goals as goal

pub returns-in-Empty : goal.returns-in-Empty
returns-in-Empty g c = rw (← c.self.view_is) (rw c.in-Empty.is (sym (get-empty text_cmp c.args.id.now)))

pub returns-then-is_same : goal.returns-then-is_same
returns-then-is_same g c = rw (← c.self.view_is) (rw c.in-One.is (sym (get_one c.in-One.own c.args.id.now c.in-One.value true (sym c.is_same.ensures ∙ c.if-is_same.true))))

pub returns-else-is_same : goal.returns-else-is_same
returns-else-is_same g c = rw (← c.self.view_is) (rw c.in-One.is (sym (get_one c.in-One.own c.args.id.now c.in-One.value false (sym c.is_same.ensures ∙ c.if-is_same.false))))

pub returns-in-Many : goal.returns-in-Many
returns-in-Many g c = rw (← c.self.view_is) (rw c.in-Many.is (c.get.ensures.value ∙ sym (get_stored c.in-Many.ids.entries c.args.id.now)))
