-- The order of keys.
use Rattle.std.specs.Prelude.{Bool}
use Rattle.std.specs.declared.cmp.Ordering.{Ordering}
use Rattle.std.specs.Ordering.{nat_cmp, ordering_then, eq_by_cmp}
use Rattle.std.specs.Cmp.Lexicographic.{slice_cmp}
use Rattle.disco_values.specs.declared.key.Key.{Key}

-- by app, then by id, in byte order (this project's own rule)
abbrev pub key_cmp : Key → Key → Ordering
key_cmp a b = ordering_then (slice_cmp nat_cmp a.app b.app) (slice_cmp nat_cmp a.id b.id)

-- whether two keys are the same
abbrev pub same_key : Key → Key → Bool
same_key = eq_by_cmp key_cmp
