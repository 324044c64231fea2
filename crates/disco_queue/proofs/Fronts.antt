-- The changes that leave at the front, one by one.
use Rattle.std.proofs.Common.{◌≡◌, ℕ, ◌+◌, ◌≤◌, ◌<◌, Bool, true, false, cond, List, [], ◌∷◌, length, drop, nat_lt, arith}
use Rattle.std.specs.List.{prefix_len}
use Rattle.std.proofs.lemmas.List.Sums.{prefix_len-le-length}
use Rattle.disco_queue.specs.Timed.{Timed}

-- how many changes come before the first whose moment is not below the bound
abbrev pub first_before : ℕ → List Timed → ℕ
first_before bound = prefix_len (λ t. nat_lt t.1 bound)

pub first_before-le : (bound : ℕ) (ts : List Timed) → first_before bound ts ≤ length ts
first_before-le bound ts = prefix_len-le-length (λ (t : Timed). nat_lt t.1 bound) ts

one_less : (b : Bool) (n : ℕ) → 0 < cond b (1 + n) 0 → n + 1 ≡ cond b (1 + n) 0
one_less true n h = omega arith
one_less false n h = absurd (omega arith)

-- the first leaves
pub first_gone : (bound : ℕ) (ts : List Timed) → 0 < first_before bound ts → first_before bound (drop 1 ts) + 1 ≡ first_before bound ts
first_gone bound [] h = absurd (omega arith)
first_gone bound (t ∷ ts) h = one_less (nat_lt t.1 bound) (first_before bound ts) h
