-- What a search finds in a list in the order of a key, and what an edit at its place does to the map.
use Rattle.std.proofs.Common.{◌≡◌, ℕ, zero, suc, ◌<◌, ◌≤◌, Bool, true, false, not, cond, T, List, [], ◌∷◌, length, get_or, set, Option, Some, None, Result, Ok, Err, IfOk, IfErr, ◌⊎◌, inl, inr, refl, sym, ap, subst, ◌∙◌, arith}
use Rattle.std.specs.declared.cmp.Ordering.{Ordering}
use Rattle.std.specs.declared.cmp.Ordering.TheVariants.{Less, Equal, Greater}
use Rattle.std.specs.Ordering.{eq_by_cmp, is_eq, is_lt, ordering_index, ordering_reverse}
use Rattle.std.specs.Cmp.{IsTotalOrder, alike_right, eq_by_cmp_equiv}
use Rattle.std.specs.List.{HoldsAt, insert, remove}
use Rattle.std.specs.List.Sorted.{IsBinarySearchResult, IsNonDecreasingBy, IsPartitionPoint, IsSearchInRange}
use Rattle.std.specs.Prelude as list
use Rattle.std.specs.FinMap as map
use Rattle.std.specs.FinMap.{FinMap, entries-from_sorted, get-from_sorted, entries-insert, same_entries_map, same_map, get-remove}
use Rattle.std.specs.FinMap.Entries.{is_sorted, is_sorted-put, is_sorted-where_key, put, where_key, find, below_all, by_order, find-where_key}
use Rattle.std.proofs.lemmas.List.{length-map}
use Rattle.std.proofs.lemmas.Map.Lookups.{CmpEqualImpliesEq}
use Rattle.disco_history.specs.SortedBy.{AreSortedBy, ComesAfterBy, IsAtBy, IsGapBy, keyed, map_by}
use Rattle.disco_history.proofs.Sorted.{both, both_first, both_second, is_less}

equal : (r : Ordering) → is_eq r ≡ true → r ≡ Equal
equal Less e = cc
equal Equal e = refl
equal Greater e = cc

pub apart : (i j : ℕ) → i ≤ j → (i ≡ j) ⊎ (i < j)
apart zero zero le = inl refl
apart zero (suc j) le = inr (omega arith)
apart (suc i) zero le = absurd (omega (arith, le))
apart (suc i) (suc j) le = elim (apart i j (omega (arith, le))) [ inl e ↦ inl (ap suc e) | inr lt ↦ inr (omega (arith, lt)) ]

abbrev mapped : {A B : Type 0} → (A → B) → List A → List B
mapped f xs = list.map f xs

module _ {E K X : Type 0} {cmp : K → K → Ordering} (total : IsTotalOrder cmp) (exact : CmpEqualImpliesEq cmp) (key : E → K) (shown : E → X) where
  abbrev by_key : List E → List (K × X)
  by_key = keyed key shown

  abbrev AreSorted : List E → Type 0
  AreSorted es = AreSortedBy cmp key shown es

  abbrev map_of : List E → FinMap cmp X
  map_of es = map_by cmp key shown es

  abbrev ComesAfter : K → List E → ℕ → Type 0
  ComesAfter k es i = ComesAfterBy cmp key k es i

  abbrev IsAt : List E → K → ℕ → Type 0
  IsAt es k i = IsAtBy cmp key es k i

  abbrev IsGap : List E → K → ℕ → Type 0
  IsGap es k i = IsGapBy cmp key es k i

  -- a key below all of them is none of theirs
  none_below : (k : K) (es : List (K × X)) → T (below_all cmp k es) → find cmp k es ≡ None
  none_below k [] h = refl
  none_below k (e ∷ es) h = ap (λ o. cond (is_eq o) (Some e.1) (find cmp k es)) (is_less (cmp k e.0) (both_first _ _ h)) ∙ none_below k es (both_second _ _ h)

  later : (k : K) (x : E) (xs : List E) (i : ℕ) → ComesAfter k (x ∷ xs) (suc i) → ComesAfter k xs i
  later k x xs i before j d lt = before (suc j) d (omega arith)

  -- ---- a record goes in

  pub put_gap : (xs : List E) (i : ℕ) (a : E) → IsGap xs (key a) i → put cmp (key a) (shown a) (by_key xs) ≡ by_key (insert xs i a)
  put_gap [] zero a gap = refl
  put_gap [] (suc i) a gap = refl
  put_gap (x ∷ xs) zero a gap = ap (λ o. by_order o ((key a, shown a) ∷ by_key (x ∷ xs)) ((key x, shown a) ∷ by_key xs) ((key x, shown x) ∷ put cmp (key a) (shown a) (by_key xs))) (gap.here x (omega arith))
  put_gap (x ∷ xs) (suc i) a gap =
      ap (λ o. by_order o ((key a, shown a) ∷ by_key (x ∷ xs)) ((key x, shown a) ∷ by_key xs) ((key x, shown x) ∷ put cmp (key a) (shown a) (by_key xs))) (gap.before 0 x (omega arith))
      ∙ ap (λ es. (key x, shown x) ∷ es) (put_gap xs i a (record { in_range = omega (arith, gap.in_range); before = later _ x xs i gap.before; here = λ d lt. gap.here d (omega arith) }))

  pub put_at : (xs : List E) (i : ℕ) (a : E) → IsAt xs (key a) i → put cmp (key a) (shown a) (by_key xs) ≡ by_key (set xs i a)
  put_at [] i a at = absurd (omega (arith, at.in_range))
  put_at (x ∷ xs) zero a at =
      ap (λ o. by_order o ((key a, shown a) ∷ by_key (x ∷ xs)) ((key x, shown a) ∷ by_key xs) ((key x, shown x) ∷ put cmp (key a) (shown a) (by_key xs))) (at.here x)
      ∙ ap (λ k. (k, shown a) ∷ by_key xs) (sym (exact _ _ (at.here x)))
  put_at (x ∷ xs) (suc i) a at =
      ap (λ o. by_order o ((key a, shown a) ∷ by_key (x ∷ xs)) ((key x, shown a) ∷ by_key xs) ((key x, shown x) ∷ put cmp (key a) (shown a) (by_key xs))) (at.before 0 x (omega arith))
      ∙ ap (λ es. (key x, shown x) ∷ es) (put_at xs i a (record { in_range = omega (arith, at.in_range); before = later _ x xs i at.before; here = at.here }))

  -- a list that is what `put` gives is the map with the record put in
  pub inserted : (xs ys : List E) (a : E) → AreSorted xs → put cmp (key a) (shown a) (by_key xs) ≡ by_key ys → AreSorted ys × (map_of ys ≡ map.insert (map_of xs) (key a) (shown a))
  inserted xs ys a sorted e =
      let k = (key a) in
      let after : T (is_sorted cmp (put cmp k (shown a) (by_key xs))) = is_sorted-put cmp total k (shown a) (by_key xs) sorted in
      let sorted_after : T (is_sorted cmp (by_key ys)) = subst (λ es. T (is_sorted cmp es)) e after in
      (sorted_after, same_entries_map _ _ (entries-from_sorted cmp (by_key ys) sorted_after ∙ sym e ∙ ap (put cmp k (shown a)) (sym (entries-from_sorted cmp (by_key xs) sorted)) ∙ sym (entries-insert total (map_of xs) k (shown a))))

  -- ---- a record is found

  pub find_at : (xs : List E) (k : K) (i : ℕ) (d : E) → IsAt xs k i → find cmp k (by_key xs) ≡ Some (shown (get_or xs i d))
  find_at [] k i d at = absurd (omega (arith, at.in_range))
  find_at (x ∷ xs) k zero d at = ap (λ o. cond (is_eq o) (Some (shown x)) (find cmp k (by_key xs))) (at.here x)
  find_at (x ∷ xs) k (suc i) d at =
      ap (λ o. cond (is_eq o) (Some (shown x)) (find cmp k (by_key xs))) (at.before 0 x (omega arith))
      ∙ find_at xs k i d (record { in_range = omega (arith, at.in_range); before = later _ x xs i at.before; here = at.here })

  -- ---- a record is missing, or goes out

  -- what comes before a key comes before all above it
  below_less : (k x : K) (es : List (K × X)) → cmp k x ≡ Less → T (below_all cmp x es) → T (below_all cmp k es)
  below_less k x [] p h = tt
  below_less k x (e ∷ es) p h = both _ _ (subst (λ o. T (is_lt o)) (sym (total.trans k x e.0 p (is_less _ (both_first _ _ h)))) tt) (below_less k x es p (both_second _ _ h))

  below_tied : (k x : K) (es : List (K × X)) → cmp k x ≡ Equal → T (below_all cmp x es) → T (below_all cmp k es)
  below_tied k x [] p h = tt
  below_tied k x (e ∷ es) p h = both _ _ (subst (λ o. T (is_lt o)) (sym (total.congr k x e.0 p)) (both_first _ _ h)) (below_tied k x es p (both_second _ _ h))

  all_kept : (k : K) (es : List (K × X)) → T (below_all cmp k es) → where_key cmp (λ x. not (eq_by_cmp cmp k x)) es ≡ es
  all_kept k [] h = refl
  all_kept k (e ∷ es) h =
      ap (λ o. cond (not (is_eq o)) (e ∷ where_key cmp (λ x. not (eq_by_cmp cmp k x)) es) (where_key cmp (λ x. not (eq_by_cmp cmp k x)) es)) (is_less (cmp k e.0) (both_first _ _ h))
      ∙ ap (λ l. e ∷ l) (all_kept k es (both_second _ _ h))

  pub find_gap : (xs : List E) (k : K) (i : ℕ) → AreSorted xs → IsGap xs k i → find cmp k (by_key xs) ≡ None
  find_gap [] k i sorted gap = refl
  find_gap (x ∷ xs) k zero sorted gap =
      ap (λ o. cond (is_eq o) (Some (shown x)) (find cmp k (by_key xs))) (gap.here x (omega arith))
      ∙ none_below k (by_key xs) (below_less k (key x) (by_key xs) (gap.here x (omega arith)) (both_first _ _ sorted))
  find_gap (x ∷ xs) k (suc i) sorted gap =
      ap (λ o. cond (is_eq o) (Some (shown x)) (find cmp k (by_key xs))) (gap.before 0 x (omega arith))
      ∙ find_gap xs k i (both_second _ _ sorted) (record { in_range = omega (arith, gap.in_range); before = later k x xs i gap.before; here = λ d lt. gap.here d (omega arith) })

  remove_at : (xs : List E) (k : K) (i : ℕ) → AreSorted xs → IsAt xs k i → where_key cmp (λ x. not (eq_by_cmp cmp k x)) (by_key xs) ≡ by_key (remove xs i)
  remove_at [] k i sorted at = absurd (omega (arith, at.in_range))
  remove_at (x ∷ xs) k zero sorted at =
      ap (λ o. cond (not (is_eq o)) ((key x, shown x) ∷ where_key cmp (λ x. not (eq_by_cmp cmp k x)) (by_key xs)) (where_key cmp (λ x. not (eq_by_cmp cmp k x)) (by_key xs))) (at.here x)
      ∙ all_kept k (by_key xs) (below_tied k (key x) (by_key xs) (at.here x) (both_first _ _ sorted))
  remove_at (x ∷ xs) k (suc i) sorted at =
      ap (λ o. cond (not (is_eq o)) ((key x, shown x) ∷ where_key cmp (λ x. not (eq_by_cmp cmp k x)) (by_key xs)) (where_key cmp (λ x. not (eq_by_cmp cmp k x)) (by_key xs))) (at.before 0 x (omega arith))
      ∙ ap (λ es. (key x, shown x) ∷ es) (remove_at xs k i (both_second _ _ sorted) (record { in_range = omega (arith, at.in_range); before = later k x xs i at.before; here = at.here }))

  turned : {A : Type 0} (b : Bool) (x y : A) → cond (not b) x y ≡ cond b y x
  turned true x y = refl
  turned false x y = refl

  -- a list that is what is left without the key is the map without it
  pub removed : (xs ys : List E) (k : K) → AreSorted xs → where_key cmp (λ x. not (eq_by_cmp cmp k x)) (by_key xs) ≡ by_key ys → AreSorted ys × (map_of ys ≡ map.remove (map_of xs) k)
  removed xs ys k sorted e =
      let p = λ (x : K). not (eq_by_cmp cmp k x) in
      let sorted_after : T (is_sorted cmp (by_key ys)) = subst (λ es. T (is_sorted cmp es)) e (is_sorted-where_key cmp p (by_key xs) sorted) in (
        sorted_after,
        same_map total exact _ _ (λ q.
            get-from_sorted cmp (by_key ys) q sorted_after
            ∙ ap (find cmp q) (sym e)
            ∙ find-where_key cmp p q (λ x t. ap (λ r. not (is_eq r)) (sym (alike_right total q x k t))) (by_key xs)
            ∙ turned (eq_by_cmp cmp k q) _ _
            ∙ ap (λ b. cond b None (find cmp q (by_key xs))) ((eq_by_cmp_equiv total).symm k q)
            ∙ ap (cond (eq_by_cmp cmp q k) None) (sym (get-from_sorted cmp (by_key xs) q sorted))
            ∙ sym (get-remove total (map_of xs) k q)),
      )

  pub removed_at : (xs : List E) (k : K) (i : ℕ) → AreSorted xs → IsAt xs k i → AreSorted (remove xs i) × (map_of (remove xs i) ≡ map.remove (map_of xs) k)
  removed_at xs k i sorted at = removed xs (remove xs i) k sorted (remove_at xs k i sorted at)

  none_removed : {V : Type 0} (b : Bool) (x : Option V) → (b ≡ true → x ≡ None) → cond b None x ≡ x
  none_removed true x h = sym (h refl)
  none_removed false x h = refl

  -- a key that is not there takes nothing out
  pub remove_gap : (xs : List E) (k : K) (i : ℕ) → AreSorted xs → IsGap xs k i → map_of xs ≡ map.remove (map_of xs) k
  remove_gap xs k i sorted gap = same_map total exact _ _ (λ q.
      sym (get-remove total (map_of xs) k q ∙ none_removed (eq_by_cmp cmp q k) (map.get (map_of xs) q) (λ e.
      ap (map.get (map_of xs)) (exact q k (equal (cmp q k) e)) ∙ get-from_sorted cmp (by_key xs) k sorted ∙ find_gap xs k i sorted gap)))

  pub inserted_gap : (xs : List E) (i : ℕ) (a : E) → AreSorted xs → IsGap xs (key a) i → AreSorted (insert xs i a) × (map_of (insert xs i a) ≡ map.insert (map_of xs) (key a) (shown a))
  inserted_gap xs i a sorted gap = inserted xs (insert xs i a) a sorted (put_gap xs i a gap)

  pub inserted_at : (xs : List E) (i : ℕ) (a : E) → AreSorted xs → IsAt xs (key a) i → AreSorted (set xs i a) × (map_of (set xs i a) ≡ map.insert (map_of xs) (key a) (shown a))
  inserted_at xs i a sorted at = inserted xs (set xs i a) a sorted (put_at xs i a at)

  pub get_gap : (xs : List E) (k : K) (i : ℕ) → AreSorted xs → IsGap xs k i → map.get (map_of xs) k ≡ None
  get_gap xs k i sorted gap = get-from_sorted cmp (by_key xs) k sorted ∙ find_gap xs k i sorted gap

  pub get_at : (xs : List E) (k : K) (i : ℕ) (d : E) → AreSorted xs → IsAt xs k i → map.get (map_of xs) k ≡ Some (shown (get_or xs i d))
  get_at xs k i d sorted at = get-from_sorted cmp (by_key xs) k sorted ∙ find_at xs k i d at

  pub len_of : (xs : List E) → AreSorted xs → map.len (map_of xs) ≡ length xs
  len_of xs sorted = map.len-entries (map_of xs) ∙ ap length (entries-from_sorted cmp (by_key xs) sorted) ∙ length-map xs (λ (a : E). (key a, shown a))

  keys_by_key : (xs : List E) → mapped (λ (p : K × X). p.0) (by_key xs) ≡ mapped key xs
  keys_by_key [] = refl
  keys_by_key (x ∷ xs) = ap (λ ks. key x ∷ ks) (keys_by_key xs)

  pub keys_of : (xs : List E) → AreSorted xs → map.keys (map_of xs) ≡ mapped key xs
  keys_of xs sorted = ap (mapped (λ (p : K × X). p.0)) (entries-from_sorted cmp (by_key xs) sorted) ∙ keys_by_key xs

  values_by_key : (xs : List E) → mapped (λ (p : K × X). p.1) (by_key xs) ≡ mapped shown xs
  values_by_key [] = refl
  values_by_key (x ∷ xs) = ap (λ es. shown x ∷ es) (values_by_key xs)

  pub values_of : (xs : List E) → AreSorted xs → map.values (map_of xs) ≡ mapped shown xs
  values_of xs sorted = ap (mapped (λ (p : K × X). p.1)) (entries-from_sorted cmp (by_key xs) sorted) ∙ values_by_key xs

  -- ---- what a search finds

  abbrev key_at : List E → ℕ → E → K
  key_at hs i d = key (get_or hs i d)

  below_at : (k : K) (hs : List E) (j : ℕ) (d : E) → T (below_all cmp k (by_key hs)) → j < length hs → cmp k (key_at hs j d) ≡ Less
  below_at k [] j d h inside = absurd (omega (arith, inside))
  below_at k (x ∷ hs) zero d h inside = is_less _ (both_first _ _ h)
  below_at k (x ∷ hs) (suc j) d h inside = below_at k hs j d (both_second _ _ h) (omega (arith, inside))

  -- an earlier record has a lower key
  pub rises : (hs : List E) (i j : ℕ) (d : E) → AreSorted hs → i < j → j < length hs → cmp (key_at hs i d) (key_at hs j d) ≡ Less
  rises [] i j d sorted lt inside = absurd (omega (arith, inside))
  rises (x ∷ hs) zero zero d sorted lt inside = absurd (omega (arith, lt))
  rises (x ∷ hs) zero (suc j) d sorted lt inside = below_at (key x) hs j d (both_first _ _ sorted) (omega (arith, inside))
  rises (x ∷ hs) (suc i) zero d sorted lt inside = absurd (omega (arith, lt))
  rises (x ∷ hs) (suc i) (suc j) d sorted lt inside = rises hs i j d (both_second _ _ sorted) (omega (arith, lt)) (omega (arith, inside))

  pub reversed : (a b : K) (o : Ordering) → cmp a b ≡ o → cmp b a ≡ ordering_reverse o
  reversed a b o e = total.antisymm b a ∙ ap ordering_reverse e

  module _ (hs : List E) (k : K) (sorted : AreSorted hs) where
    abbrev against : E → Ordering
    against h = cmp (key h) k

    at_before : (i : ℕ) (d : E) → i < length hs → against (get_or hs i d) ≡ Equal → (j : ℕ) → j < i → cmp k (key_at hs j d) ≡ Greater
    at_before i d inside here j lt =
        let less : cmp (key_at hs i d) (key_at hs j d) ≡ Greater = reversed (key_at hs j d) (key_at hs i d) Less (rises hs j i d sorted lt inside) in
        sym (total.congr (key_at hs i d) k (key_at hs j d) here) ∙ less

    pub found_at : (i : ℕ) → i < length hs → HoldsAt (λ h. against h ≡ Equal) hs i → IsAt hs k i
    found_at i inside here = record {
      in_range = inside;
      before = λ j d lt. at_before i d inside (here d) j lt;
      here = λ d. reversed (key_at hs i d) k Equal (here d);
    }

    high : (o : Ordering) → ordering_index o ≤ 2
    high Less = omega arith
    high Equal = omega arith
    high Greater = omega arith

    rank : (a b : K) (o : Ordering) → cmp a b ≡ Less → cmp b k ≡ o → ordering_index (cmp a k) ≤ ordering_index o
    rank a b Less ab bk = rw (total.trans a b k ab bk) (omega arith)
    rank a b Equal ab bk =
        let kb : cmp k b ≡ Equal = reversed b k Equal bk in
        let ka : cmp k a ≡ Greater = total.congr k b a kb ∙ reversed a b Less ab in
        rw (reversed k a Greater ka) (omega arith)
    rank a b Greater ab bk = high (cmp a k)

    pub never_falls : IsNonDecreasingBy (λ h. ordering_index (against h)) hs
    never_falls i j d le inside = elim (apart i j le) [ inl same ↦ subst (λ n. ordering_index (against (get_or hs i d)) ≤ ordering_index (against (get_or hs n d))) same (omega arith) | inr lt ↦ rank (key_at hs i d) (key_at hs j d) (cmp (key_at hs j d) k) (rises hs i j d sorted lt inside) refl ]

    pub gap_at : (i : ℕ) → i ≤ length hs → IsPartitionPoint (λ h. against h ≡ Less) (λ h. against h ≡ Greater) hs i → IsGap hs k i
    gap_at i inside parts = record {
      in_range = inside;
      before = λ j d lt. reversed (key_at hs j d) k Less (parts.0 j d (omega arith) lt);
      here = λ d lt. reversed (key_at hs i d) k Greater (parts.1 i d (omega arith) lt);
    }

  pub found : (hs : List E) (k : K) (r : Result ℕ ℕ) → AreSorted hs → IsSearchInRange r (length hs) → IsBinarySearchResult (λ h. cmp (key h) k) hs r → IfOk r (λ i. IsAt hs k i)
  found hs k (Ok i) sorted inside here = found_at hs k sorted i inside here
  found hs k (Err i) sorted inside parts = tt

  pub absent : (hs : List E) (k : K) (r : Result ℕ ℕ) → AreSorted hs → IsSearchInRange r (length hs) → IsBinarySearchResult (λ h. cmp (key h) k) hs r → IfErr r (λ i. IsGap hs k i)
  absent hs k (Ok i) sorted inside here = tt
  absent hs k (Err i) sorted inside parts = gap_at hs k sorted i inside (parts (never_falls hs k sorted))
