-- Lists in the order of a key of their elements, in chunks. Nothing here is to be believed: no public contract rests on it.
use Rattle.std.specs.Prelude.{◌≡◌, ◌<◌, Bool, true, List, [], ◌∷◌, length, flat_map}
use Rattle.std.specs.List.{AllByRecursion}
use Rattle.std.specs.Ordering.{is_lt}
use Rattle.std.specs.declared.cmp.Ordering.{Ordering}
use Rattle.std.specs.declared.cmp.Ordering.TheVariants.{Less, Greater}

-- the key comes after each of them
abbrev pub ComesAfterAll : {E K : Type 0} → (K → K → Ordering) → (E → K) → K → List E → Type 0
ComesAfterAll cmp key k es = AllByRecursion (λ e. cmp k (key e) ≡ Greater) es

-- the key comes before each of them
abbrev pub ComesBeforeAll : {E K : Type 0} → (K → K → Ordering) → (E → K) → K → List E → Type 0
ComesBeforeAll cmp key k es = AllByRecursion (λ e. cmp k (key e) ≡ Less) es

-- the last of them comes before the key, where there is one
abbrev pub ends_before : {E K : Type 0} → (K → K → Ordering) → (E → K) → K → List E → Bool
ends_before cmp key k [] = true
ends_before cmp key k (x ∷ []) = is_lt (cmp (key x) k)
ends_before cmp key k (x ∷ (y ∷ es)) = ends_before cmp key k (y ∷ es)

-- what is in some chunks, one chunk behind another
abbrev pub flat : {C E : Type 0} → (C → List E) → List C → List E
flat items cs = flat_map items cs

-- no chunk is empty
abbrev pub HasNoEmpty : {C E : Type 0} → (C → List E) → List C → Type 0
HasNoEmpty items cs = AllByRecursion (λ c. 0 < length (items c)) cs
