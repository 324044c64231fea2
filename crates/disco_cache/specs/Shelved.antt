-- The documents of an edition as they are stored. Nothing here is to be believed: no public contract rests on it.
use Rattle.std.specs.Prelude.{ℕ, List}
use Rattle.std.specs.FinMap.{FinMap}
use Rattle.disco_history.specs.SortedBy.{AreSortedBy, IsAtBy, IsGapBy, map_by}
use Rattle.disco_values.specs.Keys.{doc_cmp}
use Rattle.disco_cache.specs.declared.entry.Entry.{Entry}
use Rattle.disco_values.specs.declared.doc_key.DocKey.{DocKey}
use Rattle.disco_cache.specs.declared.payload.Payload.{Payload}

abbrev pub entry_key : Entry → DocKey
entry_key e = e.key

abbrev pub entry_doc : Entry → Payload
entry_doc e = e.doc.value

abbrev pub AreShelved : List Entry → Type 0
AreShelved es = AreSortedBy doc_cmp entry_key entry_doc es

abbrev pub entries_map : List Entry → FinMap doc_cmp Payload
entries_map es = map_by doc_cmp entry_key entry_doc es

-- the document at place i is that of the key
abbrev pub IsEntryAt : List Entry → DocKey → ℕ → Type 0
IsEntryAt es k i = IsAtBy doc_cmp entry_key es k i

-- no document is of the key, and it would go to place i
abbrev pub IsEntryGap : List Entry → DocKey → ℕ → Type 0
IsEntryGap es k i = IsGapBy doc_cmp entry_key es k i
