use Rattle.std.proofs.Common.{◌≡◌, ◌++◌, map, ℕ, List}
use Rattle.form_urlencoded.specs.Parse.{raw_pairs_left}
use Rattle.disco_operations.specs.Query.{pairs_of, text_of}
use Rattle.disco_operations.proofs.query.pairs.Given as goal

abbrev pub invariant-loop-name : goal.invariant-loop-name
invariant-loop-name l = l.pairs.items ++ map (λ (p : List ℕ × List ℕ). (text_of p.0, text_of p.1)) (raw_pairs_left l.name-iterator) ≡ pairs_of l.query
