use Rattle.std.proofs.Common.{◌≡◌, map, ℕ, List}
use Rattle.form_urlencoded.specs.Parse.{raw_pairs_left}
use Rattle.disco_operations.specs.Query.{first_value, text_of, value_of}
use Rattle.disco_operations.proofs.query.value_of.Given as goal

abbrev pub invariant-loop-name : goal.invariant-loop-name
invariant-loop-name l = first_value (map (λ (p : List ℕ × List ℕ). (text_of p.0, text_of p.1)) (raw_pairs_left l.name-iterator)) ≡ value_of l.query
