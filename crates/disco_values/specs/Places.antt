-- The place of a name among entries in the order of their names. Nothing here is to be believed: no public contract
-- rests on it.
use Rattle.std.specs.Prelude.{List, length, slice_index_or, ℕ, ◌<◌, ◌≡◌, ◌≤◌}
use Rattle.std.specs.declared.cmp.Ordering.TheVariants.{Less, Equal, Greater}
use Rattle.std.specs.Ordering.{nat_cmp}
use Rattle.std.specs.Cmp.Lexicographic.{slice_cmp}

-- the name comes after those of the entries before place i
abbrev pub NameComesAfter : List ℕ → List (List ℕ × List ℕ) → ℕ → Type 0
NameComesAfter name es i = (j : ℕ) (d : List ℕ × List ℕ) → j < i → slice_cmp nat_cmp name (slice_index_or es j d).0 ≡ Greater

-- the entry at place i is that of the name
pub record IsNameAt (es : List (List ℕ × List ℕ)) (name : List ℕ) (i : ℕ) : Type 0 where
  pub in_range : i < length es
  pub before : NameComesAfter name es i
  pub here : (d : List ℕ × List ℕ) → slice_cmp nat_cmp name (slice_index_or es i d).0 ≡ Equal

-- no entry is of the name, and it would go to place i
pub record IsNameGap (es : List (List ℕ × List ℕ)) (name : List ℕ) (i : ℕ) : Type 0 where
  pub in_range : i ≤ length es
  pub before : NameComesAfter name es i
  pub here : (d : List ℕ × List ℕ) → i < length es → slice_cmp nat_cmp name (slice_index_or es i d).0 ≡ Less
