-- Lists of entries in the order of their keys, and those of them that pass a test.
use Rattle.std.proofs.Common.{◌≡◌, Bool, true, false, ◌&&◌, cond, T, List, [], ◌∷◌, map, filter, Option, Some, None, option_and_then, refl, sym, ap, subst, ◌∙◌}
use Rattle.std.specs.List.{filter_map, AllByRecursion}
use Rattle.std.specs.List.Sorted.{IsStrictlySortedBy}
use Rattle.std.specs.Map.{keys_of}
use Rattle.std.proofs.lemmas.Map.Keys.{sorted_head, sorted_tail}
use Rattle.std.specs.declared.cmp.Ordering.{Ordering}
use Rattle.std.specs.declared.cmp.Ordering.TheVariants.{Less, Equal, Greater}
use Rattle.std.specs.Ordering.{is_eq, is_lt, ordering_reverse}
use Rattle.std.specs.Cmp.{eq_by_cmp_equiv}
use Rattle.std.specs.FinMap.Entries.{is_sorted, below_all, find}
use Rattle.disco_values.specs.Key.{key_cmp, same_key}
use Rattle.disco_values.specs.declared.key.Key.{Key}
use Rattle.disco_history.specs.Change.{Entry}
use Rattle.disco_history.proofs.Keys.{keys_total, same_is}

abbrev Entries : Type 0
Entries = List (Key × Entry)

pub both_first : (a b : Bool) → T (a && b) → T a
both_first true b h = tt
both_first false b h = h

pub both_second : (a b : Bool) → T (a && b) → T b
both_second true b h = h
both_second false b h = absurd h

pub both : (a b : Bool) → T a → T b → T (a && b)
both true b p q = q
both false b p q = p

pub is_less : (o : Ordering) → T (is_lt o) → o ≡ Less
is_less Less h = refl
is_less Equal h = absurd h
is_less Greater h = absurd h

-- entries whose keys are in order are in order
all_below : {X : Type 0} (k : Key) (es : List (Key × X)) → AllByRecursion (λ y. key_cmp k y ≡ Less) (keys_of es) → T (below_all key_cmp k es)
all_below k [] h = tt
all_below k (e ∷ es) h = both _ _ (subst (λ o. T (is_lt o)) (sym h.0) tt) (all_below k es h.1)

pub in_order : {X : Type 0} (es : List (Key × X)) → IsStrictlySortedBy key_cmp (keys_of es) → T (is_sorted key_cmp es)
in_order [] h = tt
in_order (e ∷ es) h = both _ _ (all_below e.0 es (sorted_head key_cmp e.0 (keys_of es) h)) (in_order es (sorted_tail key_cmp e.0 (keys_of es) h))

-- a key below all of them is none of theirs
pub none_below : {X : Type 0} (k : Key) (es : List (Key × X)) → T (below_all key_cmp k es) → find key_cmp k es ≡ None
none_below k [] h = refl
none_below k (e ∷ es) h = ap (λ o. cond (is_eq o) (Some e.1) (find key_cmp k es)) (is_less (key_cmp k e.0) (both_first _ _ h)) ∙ none_below k es (both_second _ _ h)

-- those whose entry passes the test
abbrev pub passing : (Entry → Bool) → Entries → Entries
passing P es = filter (λ p. P p.1) es

abbrev pub if_passes : (Entry → Bool) → Option Entry → Option Entry
if_passes P o = option_and_then (λ e. cond (P e) (Some e) None) o

below_passing : (P : Entry → Bool) (k : Key) (es : Entries) → T (below_all key_cmp k es) → T (below_all key_cmp k (passing P es))
below_passing P k [] h = tt
below_passing P k (e ∷ es) h =
    let rest = below_passing P k es (both_second _ _ h) in
    elim (P e.1) as (λ b. T (below_all key_cmp k (cond b (e ∷ passing P es) (passing P es)))) [ true ↦ both _ _ (both_first _ _ h) rest | false ↦ rest ]

pub sorted_passing : (P : Entry → Bool) (es : Entries) → T (is_sorted key_cmp es) → T (is_sorted key_cmp (passing P es))
sorted_passing P [] h = tt
sorted_passing P (e ∷ es) h =
    let rest = sorted_passing P es (both_second _ _ h) in
    elim (P e.1) as (λ b. T (is_sorted key_cmp (cond b (e ∷ passing P es) (passing P es)))) [ true ↦ both _ _ (below_passing P e.0 es (both_first _ _ h)) rest | false ↦ rest ]

module _ (P : Entry → Bool) (q : Key) where
  -- the head is of the key, or not; it passes, or not
  step : (e : Key × Entry) (es : Entries) (b c : Bool) → same_key q e.0 ≡ b → P e.1 ≡ c → (b ≡ true → find key_cmp q es ≡ None) → find key_cmp q (passing P es) ≡ if_passes P (find key_cmp q es)
      → find key_cmp q (cond c (e ∷ passing P es) (passing P es)) ≡ if_passes P (cond b (Some e.1) (find key_cmp q es))
  step e es true true tied passes none ih = ap (λ b. cond b (Some e.1) (find key_cmp q (passing P es))) tied ∙ sym (ap (λ c. cond c (Some e.1) None) passes)
  step e es true false tied passes none ih = ih ∙ ap (if_passes P) (none refl) ∙ sym (ap (λ c. cond c (Some e.1) None) passes)
  step e es false true tied passes none ih = ap (λ b. cond b (Some e.1) (find key_cmp q (passing P es))) tied ∙ ih
  step e es false false tied passes none ih = ih

  pub find_passing : (es : Entries) → T (is_sorted key_cmp es) → find key_cmp q (passing P es) ≡ if_passes P (find key_cmp q es)
  find_passing [] h = refl
  find_passing (e ∷ es) h = step e es (same_key q e.0) (P e.1) refl refl (λ tied. none_below q es (subst (λ k. T (below_all key_cmp k es)) (sym (same_is q e.0 tied)) (both_first _ _ h))) (find_passing es (both_second _ _ h))

pub values_passing : (P : Entry → Bool) (es : Entries) → map (λ p. p.1) (passing P es) ≡ filter P (map (λ p. p.1) es)
values_passing P [] = refl
values_passing P (e ∷ es) = one (P e.1) (values_passing P es)
  where
    one : (b : Bool) → map (λ p. p.1) (passing P es) ≡ filter P (map (λ p. p.1) es) → map (λ p. p.1) (cond b (e ∷ passing P es) (passing P es)) ≡ cond b (e.1 ∷ filter P (map (λ p. p.1) es)) (filter P (map (λ p. p.1) es))
    one true ih = ap (λ r. e.1 ∷ r) ih
    one false ih = ih

-- ---- each key finds its own entry

-- f finds the entry of each
abbrev pub Own : {X : Type 0} → (Key → Option X) → List (Key × X) → Type 0
Own f es = AllByRecursion (λ p. f p.0 ≡ Some p.1) es

other : (k q : Key) → key_cmp k q ≡ Less → same_key q k ≡ false
other k q less = ap is_eq (keys_total.antisymm q k ∙ ap ordering_reverse less)

own_below : {X : Type 0} (e : Key × X) (all es : List (Key × X)) → T (below_all key_cmp e.0 es) → Own (λ q. find key_cmp q all) es → Own (λ q. find key_cmp q (e ∷ all)) es
own_below e all [] h own = tt
own_below e all (p ∷ es) h own = (
  ap (λ b. cond b (Some e.1) (find key_cmp p.0 all)) (other e.0 p.0 (is_less _ (both_first _ _ h))) ∙ own.0,
  own_below e all es (both_second _ _ h) own.1,
)

pub own : {X : Type 0} (es : List (Key × X)) → T (is_sorted key_cmp es) → Own (λ q. find key_cmp q es) es
own [] h = tt
own (e ∷ es) h = (ap (λ b. cond b (Some e.1) (find key_cmp e.0 es)) ((eq_by_cmp_equiv keys_total).refl e.0), own_below e es es (both_first _ _ h) (own es (both_second _ _ h)))

found : (f : Key → Option Entry) (P : Entry → Bool) (es : Entries) → Own f es → filter_map f (map (λ p. p.0) (passing P es)) ≡ map (λ p. p.1) (passing P es)
found f P [] own = refl
found f P (e ∷ es) own = one (P e.1) (found f P es own.1)
  where
    one : (b : Bool) → filter_map f (map (λ p. p.0) (passing P es)) ≡ map (λ p. p.1) (passing P es) → filter_map f (map (λ p. p.0) (cond b (e ∷ passing P es) (passing P es))) ≡ map (λ p. p.1) (cond b (e ∷ passing P es) (passing P es))
    one true ih = rw own.0 (ap (λ r. e.1 ∷ r) ih)
    one false ih = ih

-- the keys of those that pass find just their entries
pub found_passing : (P : Entry → Bool) (es : Entries) → T (is_sorted key_cmp es) → filter_map (λ q. find key_cmp q es) (map (λ p. p.0) (passing P es)) ≡ map (λ p. p.1) (passing P es)
found_passing P es h = found (λ q. find key_cmp q es) P es (own es h)
