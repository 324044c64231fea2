-- The entries of metadata: their order, and which of them are kept.
use Rattle.std.specs.Prelude.{ℕ, List, [], ◌∷◌, Bool, true, ◌&&◌, codes, not, if◌then◌else◌}
use Rattle.std.specs.Str.{bytes_eq}
use Rattle.std.specs.Ordering.{nat_cmp, is_lt}
use Rattle.std.specs.Cmp.Lexicographic.{slice_cmp}
use Rattle.std.specs.FinMap.Entries.{put}

-- the name comes before those of all entries, where these are in order
abbrev pub is_before : List ℕ → List (List ℕ × List ℕ) → Bool
is_before name [] = true
is_before name (e ∷ es) = is_lt (slice_cmp nat_cmp name e.0)

-- the entries stand in byte order of their names, each name once, and none is `@class`
abbrev pub is_by_name : List (List ℕ × List ℕ) → Bool
is_by_name [] = true
is_by_name (e ∷ es) = not (bytes_eq e.0 (codes "@class")) && (is_before e.0 es && is_by_name es)

-- the entries with others put in, one after another: each in its place, or in the place of that of its name
abbrev pub with_entries : List (List ℕ × List ℕ) → List (List ℕ × List ℕ) → List (List ℕ × List ℕ)
with_entries es [] = es
with_entries es (e ∷ others) = with_entries (put (slice_cmp nat_cmp) e.0 e.1 es) others

-- the entries of a list of pairs: of equal names the first counts, and an entry named `@class` is dropped
abbrev pub entries_of : List (List ℕ × List ℕ) → List (List ℕ × List ℕ)
entries_of [] = []
entries_of (p ∷ ps) = if bytes_eq p.0 (codes "@class") then entries_of ps else put (slice_cmp nat_cmp) p.0 p.1 (entries_of ps)
