-- The base: how many leading changes of a history have left the recently changed queue (this project's own
-- rule, after Eureka's recently changed queue). Moments and the retention are in milliseconds.
use Rattle.std.specs.Prelude.{ℕ, ◌+◌, ◌-◌, max, nat_lt, if◌then◌else◌, List, drop}
use Rattle.std.specs.List.{prefix_len}
use Rattle.disco_queue.specs.Timed.{Timed}

-- the base after a change that makes the history that long: at most so many changes are kept
abbrev pub base_after_change : ℕ → ℕ → ℕ → ℕ
base_after_change most base length = max base (length - most)

-- how many leave at the front: those whose moment is below now - retention, up to the first that stays
abbrev pub leaving : ℕ → ℕ → List Timed → ℕ
leaving now retention kept = if nat_lt now retention then 0 else prefix_len (λ t. nat_lt t.1 (now - retention)) kept

-- the base after a cleaning
abbrev pub base_after_cleaning : ℕ → ℕ → ℕ → List Timed → ℕ
base_after_cleaning now retention base h = base + leaving now retention (drop base h)
