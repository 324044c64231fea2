use Rattle.std.proofs.Common.{◌≡◌, All, length, map}
use Rattle.std.specs.List.{list_all}
use Rattle.std.specs.Str.{bytes_eq}
use Rattle.httparse.specs.Spans.{IsHeaderWithin, header_bytes}
use Rattle.disco_message.specs.Fields.{field_values}
use Rattle.disco_message.proofs.framing.all_are.Given as goal

abbrev pub invariant-loop-value : goal.invariant-loop-value
invariant-loop-value l =
    (list_all (λ v. bytes_eq v l.wanted) (field_values l.name (map (header_bytes l.text) l.left)) ≡ list_all (λ v. bytes_eq v l.wanted) (field_values l.name (map (header_bytes l.text) l.fields)))
    × All (IsHeaderWithin (length l.text)) l.left

abbrev pub decreases-loop-value : goal.decreases-loop-value
decreases-loop-value l = length l.left
