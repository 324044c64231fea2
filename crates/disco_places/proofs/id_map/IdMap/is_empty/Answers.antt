use Rattle.std.proofs.Common.{◌≡◌, true, false, sym, ap, ◌∙◌}
use Rattle.std.specs.FinMap.{empty}
use Rattle.disco_places.specs.Ids.{map_in}
use Rattle.disco_places.proofs.Stored.{none_stored, put_full, stored_none}
use Rattle.disco_places.proofs.id_map.IdMap.is_empty.Goals as goal

pub returns-in-One : goal.returns-in-One
returns-in-One g c = (λ t. absurd (let bad : false ≡ true = t in cc), λ e. absurd (put_full empty c.in-One.field-0 c.in-One.field-1 (ap map_in (sym c.in-One.is) ∙ c.self.view_is ∙ e)))

pub returns-in-Many : goal.returns-in-Many
returns-in-Many g c = (
  λ t. sym c.self.view_is ∙ ap map_in c.in-Many.is ∙ none_stored c.in-Many.ids.entries (c.is_empty.ensures.0 t),
  λ e. c.is_empty.ensures.1 (stored_none c.in-Many.ids.entries (ap map_in (sym c.in-Many.is) ∙ c.self.view_is ∙ e)),
)
