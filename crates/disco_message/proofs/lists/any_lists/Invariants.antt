use Rattle.std.proofs.Common.{◌≡◌, All, length, map}
use Rattle.std.specs.List.{list_any}
use Rattle.httparse.specs.Spans.{IsHeaderWithin, header_bytes}
use Rattle.disco_message.specs.Fields.{lists, field_values}
use Rattle.disco_message.proofs.lists.any_lists.Given as goal

abbrev pub invariant-loop-value : goal.invariant-loop-value
invariant-loop-value l =
    (list_any (λ v. lists l.word v) (field_values l.name (map (header_bytes l.text) l.left)) ≡ list_any (λ v. lists l.word v) (field_values l.name (map (header_bytes l.text) l.fields)))
    × All (IsHeaderWithin (length l.text)) l.left

abbrev pub decreases-loop-value : goal.decreases-loop-value
decreases-loop-value l = length l.left
