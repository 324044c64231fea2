-- What an iterator over the values of a name has still to give.
use Rattle.std.specs.Prelude.{ℕ, List, map}
use Rattle.httparse.specs.Spans.{header_bytes}
use Rattle.disco_message.specs.Fields.{field_values}
use Rattle.disco_message.specs.declared.fields.Values.{Values}

-- the values that are still to come
abbrev pub values_left : Values → List (List ℕ)
values_left v = field_values v.name.now (map (header_bytes v.text.now) v.fields.now)
