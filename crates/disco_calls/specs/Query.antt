-- A request's target: its path and its query.
use Rattle.std.specs.Prelude.{ℕ, List, ◌==◌}
use Rattle.std.specs.List.{after_first, before_first}

-- the path of a target: what stands before its first `?`
abbrev pub path_in : List ℕ → List ℕ
path_in target = before_first (λ b. b == 63) target

-- its query: what stands behind
abbrev pub query_in : List ℕ → List ℕ
query_in target = after_first (λ b. b == 63) target
