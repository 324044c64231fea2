use Rattle.std.proofs.Common.{ap, ◌∙◌, []}
use Rattle.std.specs.FinMap as map
use Rattle.disco_history.proofs.SortedBy.{len_of}
use Rattle.disco_cache.specs.Shelved.{entry_key, entry_doc, entries_map}
use Rattle.disco_values.proofs.Orders.{docs_total, exact_docs}
use Rattle.disco_cache.proofs.edition.Edition.new.Goals as goal

pub returns : goal.returns
returns c = ap entries_map c.new.ensures.items ∙ map.empty_of_len (entries_map []) (len_of docs_total exact_docs entry_key entry_doc [] tt)
