-- Maps by app and then by id, as entries by key (this project's own definition).
use Rattle.std.specs.Prelude.{◌≡◌, ℕ, List, map, Option, Some, flat_map}
use Rattle.std.specs.declared.cmp.Ordering.{Ordering}
use Rattle.std.specs.Cmp.Lexicographic.{slice_cmp}
use Rattle.std.specs.BTreeMap.{is_at}
use Rattle.std.specs.FinMap.{FinMap, empty, entries, from_entries, get, insert}
use Rattle.std.specs.Map.{lookup}
use Rattle.std.specs.Option.{option_flatten}
use Rattle.std.specs.Ordering.{nat_cmp}
use Rattle.disco_values.specs.Key.{key_cmp}
use Rattle.disco_values.specs.declared.key.Key.{Key}

-- texts in byte order
abbrev pub text_cmp : List ℕ → List ℕ → Ordering
text_cmp = slice_cmp nat_cmp

-- what each of some ids has
abbrev pub ById : Type 0 → Type 0
ById X = FinMap text_cmp X

-- the entries of an app, by their keys
abbrev pub of_app : {X : Type 0} → List ℕ × ById X → List (Key × X)
of_app a = map (λ e. (record { app = a.0; id = e.0 }, e.1)) (entries a.1)

-- those of all apps, in their order
abbrev pub of_apps : {X : Type 0} → List (List ℕ × ById X) → List (Key × X)
of_apps apps = flat_map of_app apps

-- the same as a map
abbrev pub by_key : {X : Type 0} → List (List ℕ × ById X) → FinMap key_cmp X
by_key apps = from_entries (of_apps apps)

-- k had a value, and now has one that F relates to it; all other entries are as they were
abbrev pub Replaces : {K X : Type 0} {cmp : K → K → Ordering} → (X → X → Type 0) → FinMap cmp (Option X) → FinMap cmp (Option X) → K → Type 0
Replaces {X = X} F m n k = (x : X) × (y : X) × (option_flatten (get m k) ≡ Some x) × F x y × (n ≡ insert m k (Some y))

-- no app is without an id
abbrev pub HasNoBareApp : {X : Type 0} → List (List ℕ × ById X) → Type 0
HasNoBareApp es = (a : List ℕ) → lookup (is_at (text_cmp a)) es ≡ Some empty → ⊥
