use Rattle.std.proofs.Common.{sym, ap, ◌∙◌}
use Rattle.std.proofs.lemmas.Option.{none-some}
use Rattle.std.specs.FinMap.{empty, len, len-empty}
use Rattle.disco_values.specs.Key.{key_cmp}
use Rattle.disco_places.specs.KeyMaps.{by_key}
use Rattle.disco_places.proofs.Stored.{at_text}
use Rattle.disco_places.proofs.key_map.KeyMap.new.Goals as goal

pub invariant_of-result : goal.invariant_of-result
invariant_of-result g c = (c.new.ensures.ordered, sym (ap (λ es. len (by_key es)) c.new.ensures.empty ∙ len-empty key_cmp _), λ a is. none-some empty (sym (ap (λ es. at_text es a) c.new.ensures.empty) ∙ is))
