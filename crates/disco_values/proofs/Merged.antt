-- Entries of two lists in order, put together from their fronts.
use Rattle.std.proofs.Common.{◌≡◌, ℕ, Bool, true, false, not, ◌&&◌, List, [], ◌∷◌, length, codes, refl, ap, ◌∙◌}
use Rattle.std.specs.declared.cmp.Ordering.{Ordering}
use Rattle.std.specs.declared.cmp.Ordering.TheVariants.{Less, Equal, Greater}
use Rattle.std.specs.Ordering.{nat_cmp, is_lt}
use Rattle.std.specs.Cmp.Lexicographic.{slice_cmp, nat_list_cmp_total}
use Rattle.std.specs.FinMap.Entries.{put}
use Rattle.std.specs.Str.{bytes_eq}
use Rattle.std.proofs.lemmas.Map.Lookups.{exact_bytes}
use Rattle.disco_values.specs.Entries.{is_before, is_by_name, with_entries}
use Rattle.disco_values.proofs.Puts.{Pair, Pairs, both, by_name-put, cmp, placed, turned}

-- in order are the entries behind the first, and their names come behind its
pub behind_first : (e : Pair) (es : Pairs) → is_by_name (e ∷ es) ≡ true → (is_before e.0 es ≡ true) × (is_by_name es ≡ true)
behind_first e es sorted = both (is_before e.0 es) (is_by_name es) (both (not (bytes_eq e.0 (codes "@class"))) (is_before e.0 es && is_by_name es) sorted).1

is_less : (o : Ordering) → is_lt o ≡ true → o ≡ Less
is_less Less e = refl
is_less Equal e = absurd (cc)
is_less Greater e = absurd (cc)

-- a name that comes before another one comes before those behind that
before_on : (n m : List ℕ) (es : Pairs) → cmp n m ≡ Less → is_before m es ≡ true → is_before n es ≡ true
before_on n m [] less before = refl
before_on n m (e ∷ es) less before = ap is_lt (nat_list_cmp_total.trans n m e.0 less (is_less (cmp m e.0) before))

-- an entry that comes before all others stays first
pub stays_first : (e : Pair) (es os : Pairs) → is_before e.0 os ≡ true → is_by_name os ≡ true → with_entries (e ∷ es) os ≡ e ∷ with_entries es os
stays_first e es [] before sorted = refl
stays_first e es (o ∷ os) before sorted =
    let less : cmp e.0 o.0 ≡ Less = is_less (cmp e.0 o.0) before in
    let parts = behind_first o os sorted in
    ap (λ r. with_entries (placed r o.0 o.1 e es (put (slice_cmp nat_cmp) o.0 o.1 es)) os) (turned e.0 o.0 Less less)
    ∙ stays_first e (put (slice_cmp nat_cmp) o.0 o.1 es) os (before_on e.0 o.0 os less parts.0) parts.1

-- the first of the others, where nothing is left of the list
pub only_others : (o : Pair) (os : Pairs) → is_by_name (o ∷ os) ≡ true → with_entries [] (o ∷ os) ≡ o ∷ with_entries [] os
only_others o os sorted = let parts = behind_first o os sorted in stays_first o [] os parts.0 parts.1

module _ (e o : Pair) (es os : Pairs) (sorted : is_by_name (o ∷ os) ≡ true) where
  abbrev parts : (is_before o.0 os ≡ true) × (is_by_name os ≡ true)
  parts = behind_first o os sorted

  pub mine_first : cmp e.0 o.0 ≡ Less → with_entries (e ∷ es) (o ∷ os) ≡ e ∷ with_entries es (o ∷ os)
  mine_first less = stays_first e es (o ∷ os) (ap is_lt less) sorted

  pub instead : cmp e.0 o.0 ≡ Equal → with_entries (e ∷ es) (o ∷ os) ≡ o ∷ with_entries es os
  instead equal =
      ap (λ r. with_entries (placed r o.0 o.1 e es (put (slice_cmp nat_cmp) o.0 o.1 es)) os) (turned e.0 o.0 Equal equal)
      ∙ ap (λ n. with_entries ((n, o.1) ∷ es) os) (exact_bytes e.0 o.0 equal)
      ∙ stays_first o es os parts.0 parts.1

  pub other_first : cmp e.0 o.0 ≡ Greater → with_entries (e ∷ es) (o ∷ os) ≡ o ∷ with_entries (e ∷ es) os
  other_first greater =
      ap (λ r. with_entries (placed r o.0 o.1 e es (put (slice_cmp nat_cmp) o.0 o.1 es)) os) (turned e.0 o.0 Greater greater)
      ∙ stays_first o (e ∷ es) os parts.0 parts.1

not_named : (e : Pair) (es : Pairs) → is_by_name (e ∷ es) ≡ true → bytes_eq e.0 (codes "@class") ≡ false
not_named e es sorted = isnt (bytes_eq e.0 (codes "@class")) (both (not (bytes_eq e.0 (codes "@class"))) (is_before e.0 es && is_by_name es) sorted).0
  where
    isnt : (b : Bool) → not b ≡ true → b ≡ false
    isnt true p = absurd (cc)
    isnt false p = refl

-- what is put together is in order
pub by_name-with : (es os : Pairs) → is_by_name es ≡ true → is_by_name os ≡ true → is_by_name (with_entries es os) ≡ true
by_name-with es [] mine others = mine
by_name-with es (o ∷ os) mine others = by_name-with (put (slice_cmp nat_cmp) o.0 o.1 es) os (by_name-put o.0 o.1 es (not_named o os others) mine) (behind_first o os others).1

pub is_empty : (es : Pairs) → length es ≡ 0 → es ≡ []
is_empty [] e = refl
is_empty (e ∷ es) n = absurd (cc)
