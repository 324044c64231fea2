use Rattle.std.proofs.Common.{ap, ◌∙◌, []}
use Rattle.std.specs.FinMap as map
use Rattle.disco_history.proofs.SortedBy.{len_of}
use Rattle.disco_cache.specs.Kept.{doc_key, docs_map, payload_in}
use Rattle.disco_values.proofs.Orders.{docs_total, exact_docs}
use Rattle.disco_cache.proofs.cache.DocCache.new.Goals as goal

pub returns : goal.returns
returns c = λ i. record { docs = (ap docs_map c.new.ensures.items ∙ map.empty_of_len (docs_map []) (len_of docs_total exact_docs doc_key payload_in [] tt)) i; max = c.args.entries }
