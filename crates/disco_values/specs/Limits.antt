-- The bounds of settings, which are their defaults too, and how long a recent change is kept by default, in milliseconds.
use Rattle.std.specs.Prelude.{ℕ}

abbrev pub most_versions : ℕ
most_versions = 18446744073709551615

abbrev pub most_instances : ℕ
most_instances = 65536

abbrev pub most_queue : ℕ
most_queue = 65536

abbrev pub most_entries : ℕ
most_entries = 4096

abbrev pub retention : ℕ
retention = 180000
