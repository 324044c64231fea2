use Rattle.std.proofs.Common.{◌≡◌, ◌≤◌, All, length, map}
use Rattle.httparse.specs.Spans.{IsHeaderWithin, header_bytes}
use Rattle.disco_message.specs.Fields.{field_values}
use Rattle.disco_message.proofs.fields.next_value.Given as goal

abbrev pub invariant-loop-left : goal.invariant-loop-left
invariant-loop-left l =
    (field_values l.name (map (header_bytes l.text) l.left) ≡ field_values l.name (map (header_bytes l.text) l.fields))
    × All (IsHeaderWithin (length l.text)) l.left
    × (length l.left ≤ length l.fields)

abbrev pub decreases-loop-left : goal.decreases-loop-left
decreases-loop-left l = length l.left
