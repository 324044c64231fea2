-- What private contracts say of mentions. Nothing here is to be believed: no public contract rests on it.
use Rattle.std.specs.Prelude.{List, ◌++◌, Option, Some, None, option_and_then, Result, Ok, Err}
use Rattle.disco_values.specs.declared.fault.Fault.{Fault}
use Rattle.disco_values.specs.declared.fault.Fault.TheVariants.{BadDocument}
use Rattle.serde_json.specs.Data.{Data}
use Rattle.disco_instance.specs.Mention.{Mention}
use Rattle.disco_wire.specs.Meaning.{told_app}
use Rattle.disco_wire.specs.Tree.{as_tree}

-- the mentions of an application in an array
abbrev pub told_item : Data → Option (List Mention)
told_item d = option_and_then told_app (as_tree d)

-- the same behind the mentions before it
abbrev pub told_on : List Mention → Option (List Mention) → Result (List Mention) Fault
told_on before None = Err BadDocument
told_on before (Some ms) = Ok (before ++ ms)
