-- How the bytes of a text are stored, for private clauses. Nothing here need be believed.
use Rattle.std.specs.Arc.{arc_value}
use Rattle.std.specs.Prelude.{ℕ, List, codes, string_bytes}
use Rattle.disco_values.specs.declared.storage.Storage.{Storage}
use Rattle.disco_values.specs.declared.storage.Storage.TheVariants.{DefaultClass, Heap, Inline, Shared}

abbrev pub bytes_in : Storage → List ℕ
bytes_in (Inline text) = text
bytes_in (Heap text) = string_bytes text
bytes_in (Shared text) = string_bytes (arc_value text)
bytes_in DefaultClass = codes "com.netflix.appinfo.InstanceInfo$DefaultDataCenterInfo"
