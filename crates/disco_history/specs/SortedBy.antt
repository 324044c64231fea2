-- Lists in the order of a key of their elements, as maps. Nothing here is to be believed: no public contract rests on it.
use Rattle.std.specs.Prelude.{◌≡◌, ℕ, ◌<◌, ◌≤◌, List, map, length, slice_index_or}
use Rattle.std.proofs.Common.{T}
use Rattle.std.specs.declared.cmp.Ordering.{Ordering}
use Rattle.std.specs.declared.cmp.Ordering.TheVariants.{Less, Equal, Greater}
use Rattle.std.specs.FinMap.{FinMap, from_sorted}
use Rattle.std.specs.FinMap.Entries.{is_sorted}

-- what is shown of each element, under its key
abbrev pub keyed : {E K X : Type 0} → (E → K) → (E → X) → List E → List (K × X)
keyed key shown es = map (λ e. (key e, shown e)) es

abbrev pub AreSortedBy : {E K X : Type 0} → (K → K → Ordering) → (E → K) → (E → X) → List E → Type 0
AreSortedBy cmp key shown es = T (is_sorted cmp (keyed key shown es))

abbrev pub map_by : {E K X : Type 0} (cmp : K → K → Ordering) → (E → K) → (E → X) → List E → FinMap cmp X
map_by cmp key shown es = from_sorted (keyed key shown es)

-- the key comes after the elements before place i
abbrev pub ComesAfterBy : {E K : Type 0} → (K → K → Ordering) → (E → K) → K → List E → ℕ → Type 0
ComesAfterBy {E = E} cmp key k es i = (j : ℕ) (d : E) → j < i → cmp k (key (slice_index_or es j d)) ≡ Greater

-- the element at place i is that of the key
pub record IsAtBy {E K : Type 0} (cmp : K → K → Ordering) (key : E → K) (es : List E) (k : K) (i : ℕ) : Type 0 where
  pub in_range : i < length es
  pub before : ComesAfterBy cmp key k es i
  pub here : (d : E) → cmp k (key (slice_index_or es i d)) ≡ Equal

-- no element is of the key, and it would go to place i
pub record IsGapBy {E K : Type 0} (cmp : K → K → Ordering) (key : E → K) (es : List E) (k : K) (i : ℕ) : Type 0 where
  pub in_range : i ≤ length es
  pub before : ComesAfterBy cmp key k es i
  pub here : (d : E) → i < length es → cmp k (key (slice_index_or es i d)) ≡ Less
