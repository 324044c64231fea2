-- What a document says of an instance.
use Rattle.std.specs.Prelude.{Option}
use Rattle.disco_instance.specs.Row.{Row}
use Rattle.disco_values.specs.declared.action.Action.{Action}

-- a mention: an instance's row, and its action if one is named
abbrev pub Mention : Type 0
Mention = Row × Option Action
