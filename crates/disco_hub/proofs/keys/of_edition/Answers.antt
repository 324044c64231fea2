use Rattle.std.proofs.Common.{[], sym, ap, subst, ◌∙◌}
use Rattle.std.specs.FinMap.{empty_of_len}
use Rattle.disco_values.proofs.Orders.{docs_total, exact_docs}
use Rattle.disco_history.proofs.SortedBy.{len_of}
use Rattle.disco_hub.specs.Stored.{AreInOrder, stored_key, mark, seen_keys}
use Rattle.disco_hub.proofs.keys.of_edition.Goals as goal

pub loop-one-init : goal.loop-one-init
loop-one-init c = (
  subst AreInOrder (sym c.new-keys.ensures.items) tt,
  ap seen_keys c.new-keys.ensures.items ∙ empty_of_len (seen_keys []) (len_of docs_total exact_docs stored_key mark [] tt),
)
