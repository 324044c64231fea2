-- A vip and a key as one name, and places in the order of names. Nothing here is to be believed: no public contract rests on it.
use Rattle.std.specs.Prelude.{ℕ, Bool, List, [], ◌∷◌, if◌then◌else◌}
use Rattle.std.specs.declared.cmp.Ordering.{Ordering}
use Rattle.std.specs.Cmp.Lexicographic.{slice_cmp}
use Rattle.std.specs.FinMap.{empty, insert}
use Rattle.std.specs.Ordering.{nat_cmp, ordering_then}
use Rattle.std.specs.Str.{bytes_eq}
use Rattle.disco_values.specs.Key.{key_cmp}
use Rattle.disco_values.specs.declared.key.Key.{Key}
use Rattle.disco_index.specs.Vips.{KeysByVip, keys_at}

pub record Name : Type 0 where
  pub vip : List ℕ
  pub key : Key

abbrev pub name : List ℕ → Key → Name
name q k = record { vip = q; key = k }

-- the key that comes before all others
abbrev pub lowest : Key
lowest = record { app = []; id = [] }

-- by the vip, and then by the key
abbrev pub name_cmp : Name → Name → Ordering
name_cmp a b = ordering_then (slice_cmp nat_cmp a.vip b.vip) (key_cmp a.key b.key)

-- the places that entries in the order of their names stand for
abbrev pub nested : List (Name × Bool) → KeysByVip
nested [] = empty
nested (e ∷ es) = insert (nested es) e.0.vip (insert (keys_at (nested es) e.0.vip) e.0.key e.1)

-- those under a vip
abbrev pub of_name : List ℕ → List (Name × Bool) → List (Key × Bool)
of_name q [] = []
of_name q (e ∷ es) = if bytes_eq q e.0.vip then (e.0.key, e.1) ∷ of_name q es else of_name q es
