use Rattle.std.proofs.Common.{ap, ◌∙◌, []}
use Rattle.std.specs.FinMap as map
use Rattle.disco_history.specs.List.{map_of, key_in}
use Rattle.disco_history.proofs.Keys.{keys_total, exact_keys}
use Rattle.disco_history.specs.Held.{entry_of}
use Rattle.disco_history.proofs.SortedBy.{len_of}
use Rattle.disco_history.proofs.list.RecordList.new.Goals as goal

pub returns : goal.returns
returns c = ap map_of c.new.ensures.items ∙ map.empty_of_len (map_of []) (len_of keys_total exact_keys key_in entry_of [] tt)
