use Rattle.std.proofs.Common.{◌≡◌, ℕ, ◌++◌, map}
use Rattle.disco_values.specs.declared.key.Key.{Key}
use Rattle.disco_lease.proofs.overdue.keys.Given as goal

abbrev pub invariant-loop-key : goal.invariant-loop-key
invariant-loop-key l = l.keys.items ++ map (λ (e : (ℕ × Key) × Unit {0}). e.0.1) l.key-iterator ≡ map (λ (e : (ℕ × Key) × Unit {0}). e.0.1) l.initial.key-iterator
