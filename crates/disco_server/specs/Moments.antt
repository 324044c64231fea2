-- Moments in whole milliseconds. Nothing here is to be believed: no public contract rests on it.
use Rattle.std.specs.Prelude.{ℕ, ◌-◌, ◌^◌, ◌/◌, min}

-- the moment so many nanoseconds after the epoch, and the last one where it is later
abbrev pub moment_of : ℕ → ℕ
moment_of nanos = min (nanos / 1000000) (2 ^ 64 - 1)
