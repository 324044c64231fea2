-- Since when an instance is up.
use Rattle.std.specs.Prelude.{ℕ, nat_lt, if◌then◌else◌}
use Rattle.disco_values.specs.Status.{is_same}
use Rattle.disco_values.specs.declared.status.Status.{Status}
use Rattle.disco_values.specs.declared.status.Status.TheVariants.{Up}

-- the held moment where there is one, else now where the instance is up (this project's own rule)
abbrev pub since : ℕ → Status → ℕ → ℕ
since held status now = if nat_lt 0 held then held else (if is_same status Up then now else 0)
