-- What paths name (the paths of Eureka's REST operations).
use Rattle.std.specs.Prelude.{ℕ, Bool, true, false, ◌||◌, List, [], ◌∷◌, drop, Option, Some, None, ◌==◌, if◌then◌else◌, option_and_then, codes, nat_eq}
use Rattle.std.specs.List.{slice_split, starts_with}
use Rattle.std.specs.Str.{bytes_eq}
use Rattle.disco_calls.specs.declared.place.Place.{Place}
use Rattle.disco_calls.specs.declared.place.Place.TheVariants as places

abbrev pub is_slash : ℕ → Bool
is_slash b = b == 47

-- the parts of a path: what stands between its slashes, before the first and behind the last
abbrev pub parts : List ℕ → List (List ℕ)
parts path = slice_split is_slash path

abbrev pub is_empty : List ℕ → Bool
is_empty [] = true
is_empty (b ∷ bs) = false

-- `{name}`
abbrev pub one_name : (List ℕ → Place (List ℕ)) → List (List ℕ) → Option (Place (List ℕ))
one_name place (name ∷ []) = if is_empty name then None else Some (place name)
one_name place _ = None

-- behind `/apps/{app}/{id}`
abbrev pub of_instance : List ℕ → List ℕ → List (List ℕ) → Option (Place (List ℕ))
of_instance app id [] = Some (places.Instance app id)
of_instance app id (last ∷ []) =
    if bytes_eq last (codes "metadata") then Some (places.Metadata app id)
    else (if bytes_eq last (codes "status") then Some (places.Status app id) else None)
of_instance app id _ = None

-- behind `/apps`
abbrev pub of_apps : List (List ℕ) → Option (Place (List ℕ))
of_apps [] = Some places.Apps
of_apps (app ∷ []) =
    if is_empty app then Some places.Apps
    else (if bytes_eq app (codes "delta") then Some places.Delta else Some (places.App app))
of_apps (app ∷ id ∷ more) = if is_empty app || is_empty id then None else of_instance app id more

-- the table of paths, by their parts
abbrev pub parts_place : List (List ℕ) → Option (Place (List ℕ))
parts_place ([] ∷ folder ∷ names) =
    if bytes_eq folder (codes "apps") then of_apps names
    else (if bytes_eq folder (codes "instances") then one_name (λ id. places.Id id) names
    else (if bytes_eq folder (codes "svips") then one_name (λ svip. places.Svip svip) names
    else (if bytes_eq folder (codes "vips") then one_name (λ vip. places.Vip vip) names else None)))
parts_place _ = None

-- what stands behind `/eureka/v2`
abbrev pub behind_base : List ℕ → Option (List ℕ)
behind_base path = if starts_with nat_eq path (codes "/eureka/v2") then Some (drop 10 path) else None

-- what a path names
abbrev pub path_place : List ℕ → Option (Place (List ℕ))
path_place path = option_and_then (λ rest. parts_place (parts rest)) (behind_base path)
