-- The JSON tree of some bytes (RFC 8259).
use Rattle.std.specs.Prelude.{ℕ, List, if◌then◌else◌, Option, None, Result, option_and_then, option_map}
use Rattle.std.specs.Option.{ok_or}
use Rattle.std.specs.Str.{is_utf8}
use Rattle.serde_json.specs.Data.{Data, object}
use Rattle.serde_json.specs.Find.{as_object, get as member_at}
use Rattle.serde_json.specs.Read.{read}
use Rattle.disco_values.specs.declared.fault.Fault.{Fault}
use Rattle.disco_values.specs.declared.fault.Fault.TheVariants.{BadJson}

-- the tree of a text in UTF-8
unfoldable pub json_of : List ℕ → Result Data Fault
json_of bytes = ok_or (if is_utf8 bytes then read bytes else None) BadJson

-- an object, and nothing of another kind
abbrev pub as_tree : Data → Option Data
as_tree d = option_map object (as_object d)

-- the member of that name where it is an object
abbrev pub object_at : List ℕ → Data → Option Data
object_at name d = option_and_then as_tree (member_at name d)
