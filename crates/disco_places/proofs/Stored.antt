-- What a change of a tree's entries does to the places that they represent, whose ids are in byte order.
use Rattle.std.proofs.Common.{◌≡◌, ℕ, Bool, true, false, ◌&&◌, cond, T, List, [], ◌∷◌, length, arith, Option, Some, None, IsSome, refl, sym, ap, subst, ◌∙◌}
use Rattle.std.specs.BTreeMap.{BTreeMap, UpdatesBy, is_at}
use Rattle.std.specs.Cmp.{IsTotalOrder, eq_by_cmp_equiv}
use Rattle.std.specs.Cmp.Lexicographic.{nat_list_cmp_total}
use Rattle.std.specs.FinMap.{FinMap, entries, entries_sorted, find, empty, from_entries, from_sorted, entries-from_sorted, get, get-entries, get-from_entries, get-from_sorted, insert, remove, same_map, get-empty, get-insert, get-remove}
use Rattle.std.specs.FinMap.Entries.{below_all, is_sorted}
use Rattle.std.specs.List.{AllByRecursion}
use Rattle.std.specs.List.Sorted.{IsStrictlySortedBy}
use Rattle.std.specs.Map.{keys_of, lookup}
use Rattle.std.specs.Ordering.{eq_by_cmp, is_eq, is_lt}
use Rattle.std.specs.declared.cmp.Ordering.{Ordering}
use Rattle.std.specs.declared.cmp.Ordering.TheVariants.{Less, Equal, Greater}
use Rattle.std.proofs.lemmas.Option.{none-some}
use Rattle.std.proofs.lemmas.Map.Keys.{sorted_head, sorted_tail}
use Rattle.std.proofs.lemmas.Map.Lookups.{exact_bytes}
use Rattle.disco_places.specs.KeyMaps.{text_cmp}

abbrev pub Text : Type 0
Text = List ℕ

pub texts_total : IsTotalOrder text_cmp
texts_total = nat_list_cmp_total

equal : (r : Ordering) → is_eq r ≡ true → r ≡ Equal
equal Less e = cc
equal Equal e = refl
equal Greater e = cc

pub text_is : (a b : Text) → is_eq (text_cmp a b) ≡ true → a ≡ b
text_is a b e = exact_bytes a b (equal (text_cmp a b) e)

pub text-sym : (a b : Text) → is_eq (text_cmp a b) ≡ is_eq (text_cmp b a)
text-sym a b = (eq_by_cmp_equiv texts_total).symm a b

-- what a tree has at a text
abbrev pub at_text : {X : Type 0} → List (Text × X) → Text → Option X
at_text es q = lookup (is_at (text_cmp q)) es

find_lookup : {X : Type 0} (q : Text) (es : List (Text × X)) → find text_cmp q es ≡ at_text es q
find_lookup q [] = refl
find_lookup q (e ∷ es) = ap (cond (is_at (text_cmp q) e.0) (Some e.1)) (find_lookup q es)

pub get_stored : {X : Type 0} (es : List (Text × X)) (q : Text) → get (from_entries {R = text_cmp} es) q ≡ at_text es q
get_stored es q = get-from_entries texts_total es q ∙ find_lookup q es

-- the tree fs is es with w at the text
abbrev pub Updated : {X : Type 0} → List (Text × X) → List (Text × X) → Text → Option X → Type 0
Updated es fs k w = (q : Text) → at_text fs q ≡ cond (is_at (text_cmp k) q) w (at_text es q)

pub both : (a b : Bool) → T a → T b → T (a && b)
both true b p q = q
both false b p q = p

all_below : {X : Type 0} (k : Text) (es : List (Text × X)) → AllByRecursion (λ y. text_cmp k y ≡ Less) (keys_of es) → T (below_all text_cmp k es)
all_below k [] h = tt
all_below k (e ∷ es) h = both _ _ (subst (λ o. T (is_lt o)) (sym h.0) tt) (all_below k es h.1)

pub in_order : {X : Type 0} (es : List (Text × X)) → IsStrictlySortedBy text_cmp (keys_of es) → T (is_sorted text_cmp es)
in_order [] h = tt
in_order (e ∷ es) h = both _ _ (all_below e.0 es (sorted_head text_cmp e.0 (keys_of es) h)) (in_order es (sorted_tail text_cmp e.0 (keys_of es) h))

pub first : (a b : Bool) → T (a && b) → T a
first true b h = tt
first false b h = h

pub second : (a b : Bool) → T (a && b) → T b
second true b h = h
second false b h = absurd h

pub is_less : (o : Ordering) → T (is_lt o) → o ≡ Less
is_less Less h = refl
is_less Equal h = absurd h
is_less Greater h = absurd h

each_below : {X : Type 0} (k : Text) (es : List (Text × X)) → T (below_all text_cmp k es) → AllByRecursion (λ y. text_cmp k y ≡ Less) (keys_of es)
each_below k [] h = tt
each_below k (e ∷ es) h = (is_less _ (first _ _ h), each_below k es (second _ _ h))

each_above : {X : Type 0} (es : List (Text × X)) → T (is_sorted text_cmp es) → IsStrictlySortedBy text_cmp (keys_of es)
unfolding IsStrictlySortedBy
each_above [] h = tt
each_above (e ∷ es) h = (each_below e.0 es (first _ _ h), each_above es (second _ _ h))

module _ {V : Type 0} where
  abbrev pub ids_of : List (Text × V) → FinMap text_cmp V
  ids_of es = from_entries es

  get_updated : (es fs : List (Text × V)) (k : Text) (w : Option V) → Updated es fs k w → (q : Text) → get (ids_of fs) q ≡ cond (eq_by_cmp text_cmp q k) w (get (ids_of es) q)
  get_updated es fs k w h q =
      get_stored fs q ∙ h q ∙ ap (λ b. cond b w (at_text es q)) (text-sym k q) ∙ ap (cond (eq_by_cmp text_cmp q k) w) (sym (get_stored es q))

  pub one_put : (es fs : List (Text × V)) (k : Text) (v : V) → Updated es fs k (Some v) → ids_of fs ≡ insert (ids_of es) k v
  one_put es fs k v h = same_map texts_total exact_bytes _ _ (λ q. get_updated es fs k (Some v) h q ∙ sym (get-insert texts_total (ids_of es) k v q))

  pub same_ids : (es fs : List (Text × V)) → ((q : Text) → at_text fs q ≡ at_text es q) → ids_of fs ≡ ids_of es
  same_ids es fs h = same_map texts_total exact_bytes _ _ (λ q. get_stored fs q ∙ h q ∙ sym (get_stored es q))

  pub one_out : (es fs : List (Text × V)) (k : Text) → Updated es fs k None → ids_of fs ≡ remove (ids_of es) k
  one_out es fs k h = same_map texts_total exact_bytes _ _ (λ q. get_updated es fs k None h q ∙ sym (get-remove texts_total (ids_of es) k q))

  pub there_at : (es : List (Text × V)) (q : Text) → IsSome (get (ids_of es) q) → IsSome (at_text es q)
  there_at es q h = subst (λ (o : Option V). IsSome o) (get_stored es q) h

  -- a tree's entries are those of the map that they stand for
  pub stored : (es : List (Text × V)) → IsStrictlySortedBy text_cmp (keys_of es) → entries (ids_of es) ≡ es
  stored es ordered =
      let sorted = in_order es ordered in
      ap entries (same_map texts_total exact_bytes (ids_of es) (from_sorted es) (λ q. get-from_entries texts_total es q ∙ sym (get-from_sorted text_cmp es q sorted))) ∙ entries-from_sorted text_cmp es sorted

  -- its entries stand in order
  pub ids_sorted : (m : FinMap text_cmp V) → IsStrictlySortedBy text_cmp (keys_of (entries m))
  ids_sorted m = each_above (entries m) (entries_sorted m)

  pub get_at : (m : FinMap text_cmp V) (q : Text) → get m q ≡ at_text (entries m) q
  get_at m q = get-entries m q ∙ find_lookup q (entries m)

  pub stored_none : (es : List (Text × V)) → ids_of es ≡ empty → length es ≡ 0
  stored_none [] e = refl
  stored_none (x ∷ es) e =
      let there : at_text (x ∷ es) x.0 ≡ Some x.1 = ap (λ b. cond b (Some x.1) (at_text es x.0)) ((eq_by_cmp_equiv texts_total).refl x.0) in
      let none : at_text (x ∷ es) x.0 ≡ None = sym (get_stored (x ∷ es) x.0) ∙ ap (λ m. get m x.0) e ∙ get-empty text_cmp x.0 in
      absurd (none-some x.1 (sym none ∙ there))

  -- a map that has a value isn't empty
  pub put_full : (m : FinMap text_cmp V) (k : Text) (v : V) → insert m k v ≡ empty → ⊥
  put_full m k v e =
      let there : get (insert m k v) k ≡ Some v = get-insert texts_total m k v k ∙ ap (λ b. cond b (Some v) (get m k)) ((eq_by_cmp_equiv texts_total).refl k) in
      none-some v (sym (get-empty text_cmp k) ∙ ap (λ n. get n k) (sym e) ∙ there)

  pub none_stored : (es : List (Text × V)) → length es ≡ 0 → ids_of es ≡ empty
  none_stored [] e = refl
  none_stored (x ∷ es) e = absurd (omega (arith, e))

-- a write through what was lent at a text that is there
pub lent : {X : Type 0} (k : Text) (m n : BTreeMap Text X) (old new : X) → Some old ≡ at_text m.entries k → (IsSome (at_text m.entries k) → UpdatesBy text_cmp (text_cmp k) m n (Some new)) → Updated m.entries n.entries k (Some new)
lent k m n old new there holds = (holds (subst (λ (o : Option _). IsSome o) there refl)).0

-- a write of what stood there already
pub unchanged : {X : Type 0} (k : Text) (m n : BTreeMap Text X) (old new : X) → Some old ≡ at_text m.entries k → Updated m.entries n.entries k (Some new) → new ≡ old → (q : Text) → at_text n.entries q ≡ at_text m.entries q
unchanged k m n old new there update same q = update q ∙ stays (is_at (text_cmp k) q) refl
  where
    stays : (b : Bool) → is_at (text_cmp k) q ≡ b → cond b (Some new) (at_text m.entries q) ≡ at_text m.entries q
    stays true is = ap (λ p. Some p) same ∙ there ∙ ap (at_text m.entries) (text_is k q is)
    stays false is = refl
