-- Entries with one more put in.
use Rattle.std.proofs.Common.{◌≡◌, ℕ, zero, suc, ◌<◌, Bool, true, false, not, ◌&&◌, List, [], ◌∷◌, length, get_or, set, codes, refl, sym, ap, ◌∙◌, arith}
use Rattle.std.specs.declared.cmp.Ordering.{Ordering}
use Rattle.std.specs.declared.cmp.Ordering.TheVariants.{Less, Equal, Greater}
use Rattle.std.specs.Ordering.{nat_cmp, is_lt, ordering_reverse}
use Rattle.std.specs.Cmp.Lexicographic.{slice_cmp, nat_list_cmp_total}
use Rattle.std.specs.FinMap.Entries.{by_order, put}
use Rattle.std.specs.List.{insert}
use Rattle.std.specs.Str.{bytes_eq}
use Rattle.std.proofs.lemmas.Map.Lookups.{exact_bytes}
use Rattle.disco_values.specs.Entries.{is_before, is_by_name}
use Rattle.disco_values.specs.Places.{IsNameAt, IsNameGap, NameComesAfter}

abbrev pub Pair : Type 0
Pair = List ℕ × List ℕ

abbrev pub Pairs : Type 0
Pairs = List Pair

abbrev pub placed : Ordering → List ℕ → List ℕ → Pair → Pairs → Pairs → Pairs
placed o k v e es rest = by_order o ((k, v) ∷ e ∷ es) ((e.0, v) ∷ es) (e ∷ rest)

later : (k : List ℕ) (x : Pair) (xs : Pairs) (i : ℕ) → NameComesAfter k (x ∷ xs) (suc i) → NameComesAfter k xs i
later k x xs i before j d lt = before (suc j) d (omega arith)

pub put_gap : (es : Pairs) (i : ℕ) (k v : List ℕ) → IsNameGap es k i → put (slice_cmp nat_cmp) k v es ≡ insert es i (k, v)
put_gap [] zero k v gap = refl
put_gap [] (suc i) k v gap = refl
put_gap (x ∷ xs) zero k v gap = ap (λ o. placed o k v x xs (put (slice_cmp nat_cmp) k v xs)) (gap.here x (omega arith))
put_gap (x ∷ xs) (suc i) k v gap =
    ap (λ o. placed o k v x xs (put (slice_cmp nat_cmp) k v xs)) (gap.before 0 x (omega arith))
    ∙ ap (λ es. x ∷ es) (put_gap xs i k v (record { in_range = omega (arith, gap.in_range); before = later k x xs i gap.before; here = λ d lt. gap.here d (omega arith) }))

pub put_at : (es : Pairs) (i : ℕ) (k v : List ℕ) → IsNameAt es k i → put (slice_cmp nat_cmp) k v es ≡ set es i (k, v)
put_at [] i k v at = absurd (omega (arith, at.in_range))
put_at (x ∷ xs) zero k v at = ap (λ o. placed o k v x xs (put (slice_cmp nat_cmp) k v xs)) (at.here x) ∙ ap (λ n. (n, v) ∷ xs) (sym (exact_bytes k x.0 (at.here x)))
put_at (x ∷ xs) (suc i) k v at =
    ap (λ o. placed o k v x xs (put (slice_cmp nat_cmp) k v xs)) (at.before 0 x (omega arith))
    ∙ ap (λ es. x ∷ es) (put_at xs i k v (record { in_range = omega (arith, at.in_range); before = later k x xs i at.before; here = at.here }))

pub both : (a b : Bool) → (a && b) ≡ true → (a ≡ true) × (b ≡ true)
both true b p = (refl, p)
both false b p = absurd (cc)

joined : (a b : Bool) → a ≡ true → b ≡ true → (a && b) ≡ true
joined true b p q = q
joined false b p q = absurd (cc)

not_class : (b : Bool) → b ≡ false → not b ≡ true
not_class true e = absurd (cc)
not_class false e = refl

abbrev pub cmp : List ℕ → List ℕ → Ordering
cmp = slice_cmp nat_cmp

pub turned : (a b : List ℕ) (o : Ordering) → cmp a b ≡ o → cmp b a ≡ ordering_reverse o
turned a b o e = nat_list_cmp_total.antisymm b a ∙ ap ordering_reverse e

before_put : (n k v : List ℕ) (es : Pairs) → cmp n k ≡ Less → is_before n es ≡ true → is_before n (put (slice_cmp nat_cmp) k v es) ≡ true
before_put n k v [] less before = ap is_lt less
before_put n k v (e ∷ es) less before = one (cmp k e.0)
  where
    one : (o : Ordering) → is_before n (placed o k v e es (put (slice_cmp nat_cmp) k v es)) ≡ true
    one Less = ap is_lt less
    one Equal = before
    one Greater = before

-- what is put in order stays in order
pub by_name-put : (k v : List ℕ) (es : Pairs) → bytes_eq k (codes "@class") ≡ false → is_by_name es ≡ true → is_by_name (put (slice_cmp nat_cmp) k v es) ≡ true
by_name-put k v [] named sorted = joined (not (bytes_eq k (codes "@class"))) true (not_class (bytes_eq k (codes "@class")) named) refl
by_name-put k v (e ∷ es) named sorted = one (cmp k e.0) refl (by_name-put k v es named (both (is_before e.0 es) (is_by_name es) (both (not (bytes_eq e.0 (codes "@class"))) (is_before e.0 es && is_by_name es) sorted).1).1)
  where
    one : (o : Ordering) → cmp k e.0 ≡ o → is_by_name (put (slice_cmp nat_cmp) k v es) ≡ true → is_by_name (placed o k v e es (put (slice_cmp nat_cmp) k v es)) ≡ true
    one Less p rest = joined (not (bytes_eq k (codes "@class"))) (is_before k (e ∷ es) && is_by_name (e ∷ es)) (not_class (bytes_eq k (codes "@class")) named) (joined (is_before k (e ∷ es)) (is_by_name (e ∷ es)) (ap is_lt p) sorted)
    one Equal p rest = sorted
    one Greater p rest =
        let parts = both (not (bytes_eq e.0 (codes "@class"))) (is_before e.0 es && is_by_name es) sorted in
        let order = both (is_before e.0 es) (is_by_name es) parts.1 in
        joined (not (bytes_eq e.0 (codes "@class"))) (is_before e.0 (put (slice_cmp nat_cmp) k v es) && is_by_name (put (slice_cmp nat_cmp) k v es)) parts.0
        (joined (is_before e.0 (put (slice_cmp nat_cmp) k v es)) (is_by_name (put (slice_cmp nat_cmp) k v es)) (before_put e.0 k v es (turned k e.0 Greater p) order.0) rest)

-- no entry of a list in order is named `@class`
pub named_at : (es : Pairs) (i : ℕ) (d : Pair) → is_by_name es ≡ true → i < length es → bytes_eq (get_or es i d).0 (codes "@class") ≡ false
named_at [] i d sorted lt = absurd (omega (arith, lt))
named_at (e ∷ es) zero d sorted lt = isnt (bytes_eq e.0 (codes "@class")) (both (not (bytes_eq e.0 (codes "@class"))) (is_before e.0 es && is_by_name es) sorted).0
  where
    isnt : (b : Bool) → not b ≡ true → b ≡ false
    isnt true p = absurd (cc)
    isnt false p = refl
named_at (e ∷ es) (suc i) d sorted lt = named_at es i d (both (is_before e.0 es) (is_by_name es) (both (not (bytes_eq e.0 (codes "@class"))) (is_before e.0 es && is_by_name es) sorted).1).1 (omega (arith, lt))
