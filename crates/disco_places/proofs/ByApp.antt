-- What is found under a key, and the order of the entries, where each app has a map of its own.
use Rattle.std.proofs.Common.{◌≡◌, ℕ, Bool, true, false, ◌&&◌, cond, T, List, [], ◌∷◌, ◌++◌, map, Option, Some, None, IsSome, OnErr, OnOk, Result, Ok, Err, option_and_then, refl, sym, ap, subst, ◌∙◌}
use Rattle.std.specs.Cmp.{tied_itself}
use Rattle.std.specs.FinMap.{FinMap, empty, entries, entries_sorted, find, from_entries, from_sorted, entries-from_sorted, get, get-empty, get-entries, get-from_entries, get-from_sorted, insert, remove, same_map, get-insert, get-remove}
use Rattle.std.specs.FinMap.Entries.{below_all, is_sorted}
use Rattle.std.specs.List.{AllByRecursion}
use Rattle.std.specs.List.Sorted.{IsStrictlySortedBy}
use Rattle.std.specs.Map.{keys_of}
use Rattle.std.specs.Ordering.{is_eq, is_lt, ordering_then}
use Rattle.std.specs.declared.cmp.Ordering.{Ordering}
use Rattle.std.specs.declared.cmp.Ordering.TheVariants.{Less, Equal, Greater}
use Rattle.std.proofs.lemmas.Map.Keys.{sorted_head, sorted_tail}
use Rattle.disco_values.specs.Key.{key_cmp, same_key}
use Rattle.disco_values.specs.declared.key.Key.{Key}
use Rattle.disco_history.proofs.Keys.{keys_total, exact_keys}
use Rattle.disco_places.specs.KeyMaps.{ById, by_key, of_app, of_apps, text_cmp}
use Rattle.disco_places.proofs.Stored.{Text, Updated, at_text, both, first, is_less, second, text_is, text-sym, texts_total}

both_equal : (o p : Ordering) → is_eq (ordering_then o p) ≡ (is_eq o && is_eq p)
both_equal Less p = refl
both_equal Equal p = refl
both_equal Greater p = refl

parts : (a b : Key) → same_key a b ≡ (is_eq (text_cmp a.app b.app) && is_eq (text_cmp a.id b.id))
parts a b = both_equal (text_cmp a.app b.app) (text_cmp a.id b.id)

none_above : {Y : Type 0} (x : Text) (es : List (Text × Y)) → AllByRecursion (λ y. text_cmp x y ≡ Less) (keys_of es) → at_text es x ≡ None
none_above x [] h = refl
none_above x (e ∷ es) h = ap (λ o. cond (is_eq o) (Some e.1) (at_text es x)) h.0 ∙ none_above x es h.1

module _ {X : Type 0} where
  abbrev keyed : Text → Text × X → Key × X
  keyed a e = (record { app = a; id = e.0 }, e.1)

  -- what the places of an app, if there are any, have at an id
  abbrev pub at_id : Option (ById X) → Text → Option X
  at_id o i = option_and_then (λ m. get m i) o

  -- ---- what is found

  one_found : (b c : Bool) (x : X) (r s : Option X) → r ≡ cond b s None → cond (b && c) (Some x) r ≡ cond b (cond c (Some x) s) None
  one_found true c x r s e = ap (cond c (Some x)) e
  one_found false c x r s e = e

  same_either : (b : Bool) (o : Option X) → o ≡ cond b o o
  same_either true o = refl
  same_either false o = refl

  find_in : (a : Text) (q : Key) (es : List (Text × X)) → find key_cmp q (map (keyed a) es) ≡ cond (is_eq (text_cmp q.app a)) (find text_cmp q.id es) None
  find_in a q [] = same_either (is_eq (text_cmp q.app a)) None
  find_in a q (e ∷ es) =
      ap (λ b. cond b (Some e.1) (find key_cmp q (map (keyed a) es))) (parts q (record { app = a; id = e.0 }))
      ∙ one_found (is_eq (text_cmp q.app a)) (is_eq (text_cmp q.id e.0)) e.1 _ (find text_cmp q.id es) (find_in a q es)

  find_of_app : (q : Key) (a : Text × ById X) → find key_cmp q (of_app a) ≡ cond (is_eq (text_cmp q.app a.0)) (get a.1 q.id) None
  find_of_app q a = find_in a.0 q (entries a.1) ∙ ap (λ o. cond (is_eq (text_cmp q.app a.0)) o None) (sym (get-entries a.1 q.id))

  abbrev or_else : Option X → Option X → Option X
  or_else None p = p
  or_else (Some x) p = Some x

  or_else-cond : (b : Bool) (x : X) (o p : Option X) → cond b (Some x) (or_else o p) ≡ or_else (cond b (Some x) o) p
  or_else-cond true x o p = refl
  or_else-cond false x o p = refl

  find-both : (q : Key) (xs ys : List (Key × X)) → find key_cmp q (xs ++ ys) ≡ or_else (find key_cmp q xs) (find key_cmp q ys)
  find-both q [] ys = refl
  find-both q (x ∷ xs) ys = ap (cond (same_key q x.0) (Some x.1)) (find-both q xs ys) ∙ or_else-cond (same_key q x.0) x.1 (find key_cmp q xs) (find key_cmp q ys)

  or_none : (o : Option X) → or_else o None ≡ o
  or_none None = refl
  or_none (Some x) = refl

  found_step : (q : Key) (e : Text × ById X) (es : List (Text × ById X)) (b : Bool) → is_eq (text_cmp q.app e.0) ≡ b → (b ≡ true → at_text es q.app ≡ None) → find key_cmp q (of_apps es) ≡ at_id (at_text es q.app) q.id
      → or_else (cond b (get e.1 q.id) None) (find key_cmp q (of_apps es)) ≡ at_id (cond b (Some e.1) (at_text es q.app)) q.id
  found_step q e es true is none ih = ap (or_else (get e.1 q.id)) (ih ∙ ap (λ o. at_id o q.id) (none refl)) ∙ or_none (get e.1 q.id)
  found_step q e es false is none ih = ih

  pub found : (q : Key) (es : List (Text × ById X)) → IsStrictlySortedBy text_cmp (keys_of es) → find key_cmp q (of_apps es) ≡ at_id (at_text es q.app) q.id
  found q [] h = refl
  found q (e ∷ es) h =
      find-both q (of_app e) (of_apps es)
      ∙ ap (λ o. or_else o (find key_cmp q (of_apps es))) (find_of_app q e)
      ∙ found_step q e es (is_eq (text_cmp q.app e.0)) refl
      (λ is. ap (at_text es) (text_is q.app e.0 is) ∙ none_above e.0 es (sorted_head text_cmp e.0 (keys_of es) h))
      (found q es (sorted_tail text_cmp e.0 (keys_of es) h))

  pub get_by_key : (q : Key) (es : List (Text × ById X)) → IsStrictlySortedBy text_cmp (keys_of es) → get (by_key es) q ≡ at_id (at_text es q.app) q.id
  get_by_key q es h = get-from_entries keys_total (of_apps es) q ∙ found q es h

  -- ---- their order

  below_in : (a x : Text) (es : List (Text × X)) → T (below_all text_cmp x es) → T (below_all key_cmp (record { app = a; id = x }) (map (keyed a) es))
  below_in a x [] h = tt
  below_in a x (e ∷ es) h = both _ _ (subst (λ o. T (is_lt (ordering_then o (text_cmp x e.0)))) (sym (tied_itself texts_total a)) (first _ _ h)) (below_in a x es (second _ _ h))

  sorted_in : (a : Text) (es : List (Text × X)) → T (is_sorted text_cmp es) → T (is_sorted key_cmp (map (keyed a) es))
  sorted_in a [] h = tt
  sorted_in a (e ∷ es) h = both _ _ (below_in a e.0 es (first _ _ h)) (sorted_in a es (second _ _ h))

  below-both : (k : Key) (xs ys : List (Key × X)) → T (below_all key_cmp k xs) → T (below_all key_cmp k ys) → T (below_all key_cmp k (xs ++ ys))
  below-both k [] ys h g = g
  below-both k (x ∷ xs) ys h g = both _ _ (first _ _ h) (below-both k xs ys (second _ _ h) g)

  below_app : (k : Key) (a : Text) (es : List (Text × X)) → text_cmp k.app a ≡ Less → T (below_all key_cmp k (map (keyed a) es))
  below_app k a [] less = tt
  below_app k a (e ∷ es) less = both _ _ (subst (λ o. T (is_lt (ordering_then o (text_cmp k.id e.0)))) (sym less) tt) (below_app k a es less)

  below_apps : (k : Key) (es : List (Text × ById X)) → AllByRecursion (λ y. text_cmp k.app y ≡ Less) (keys_of es) → T (below_all key_cmp k (of_apps es))
  below_apps k [] h = tt
  below_apps k (e ∷ es) h = below-both k (of_app e) (of_apps es) (below_app k e.0 (entries e.1) h.0) (below_apps k es h.1)

  sorted-both : (a : Text) (es : List (Text × X)) (ys : List (Key × X)) → ((x : Text) → T (below_all key_cmp (record { app = a; id = x }) ys)) → T (is_sorted key_cmp ys) → T (is_sorted text_cmp es) → T (is_sorted key_cmp (map (keyed a) es ++ ys))
  sorted-both a [] ys below sorted h = sorted
  sorted-both a (e ∷ es) ys below sorted h =
      both _ _ (below-both (record { app = a; id = e.0 }) (map (keyed a) es) ys (below_in a e.0 es (first _ _ h)) (below e.0)) (sorted-both a es ys below sorted (second _ _ h))

  sorted_apps : (es : List (Text × ById X)) → IsStrictlySortedBy text_cmp (keys_of es) → T (is_sorted key_cmp (of_apps es))
  sorted_apps [] h = tt
  sorted_apps (e ∷ es) h =
      sorted-both e.0 (entries e.1) (of_apps es) (λ x. below_apps (record { app = e.0; id = x }) es (sorted_head text_cmp e.0 (keys_of es) h))
      (sorted_apps es (sorted_tail text_cmp e.0 (keys_of es) h)) (entries_sorted e.1)

  -- the entries of all apps are those of the places by key
  pub entries_by_key : (es : List (Text × ById X)) → IsStrictlySortedBy text_cmp (keys_of es) → entries (by_key es) ≡ of_apps es
  entries_by_key es h =
      let fs = of_apps es in
      let sorted = sorted_apps es h in
      ap entries (same_map keys_total exact_keys (from_entries fs) (from_sorted fs) (λ q. get-from_entries keys_total fs q ∙ sym (get-from_sorted key_cmp fs q sorted))) ∙ entries-from_sorted key_cmp fs sorted

  -- ---- a change of one app's

  module _ (es fs : List (Text × ById X)) (sorted : IsStrictlySortedBy text_cmp (keys_of es)) (sorted_after : IsStrictlySortedBy text_cmp (keys_of fs)) (k : Key) where
    change_at : (q : Key) (n : Option (ById X)) (w : Option X) (b : Bool) → is_eq (text_cmp k.app q.app) ≡ b
        → ((i : Text) → at_id n i ≡ cond (is_eq (text_cmp i k.id)) w (at_id (at_text es k.app) i))
        → at_id (cond b n (at_text es q.app)) q.id ≡ cond (same_key q k) w (get (by_key es) q)
    change_at q n w true is here =
        let app : q.app ≡ k.app = sym (text_is k.app q.app is) in
        here q.id
        ∙ ap (λ a. cond (is_eq (text_cmp q.id k.id)) w (at_id (at_text es a) q.id)) (sym app)
        ∙ ap (cond (is_eq (text_cmp q.id k.id)) w) (sym (get_by_key q es sorted))
        ∙ ap (λ b. cond (b && is_eq (text_cmp q.id k.id)) w (get (by_key es) q)) (sym (text-sym q.app k.app ∙ is))
        ∙ ap (λ b. cond b w (get (by_key es) q)) (sym (parts q k))
    change_at q n w false is here =
        sym (get_by_key q es sorted)
        ∙ ap (λ b. cond (b && is_eq (text_cmp q.id k.id)) w (get (by_key es) q)) (sym (text-sym q.app k.app ∙ is))
        ∙ ap (λ b. cond b w (get (by_key es) q)) (sym (parts q k))

    changed : (n : Option (ById X)) (w : Option X) → Updated es fs k.app n → ((i : Text) → at_id n i ≡ cond (is_eq (text_cmp i k.id)) w (at_id (at_text es k.app) i)) → (q : Key) → get (by_key fs) q ≡ cond (same_key q k) w (get (by_key es) q)
    changed n w update here q = get_by_key q fs sorted_after ∙ ap (λ o. at_id o q.id) (update q.app) ∙ change_at q n w (is_eq (text_cmp k.app q.app)) refl here

    -- a value is put among those of its app
    pub put_among : (m : ById X) (x : X) → Some m ≡ at_text es k.app → Updated es fs k.app (Some (insert m k.id x)) → by_key fs ≡ insert (by_key es) k x
    put_among m x there update = same_map keys_total exact_keys _ _ (λ q.
        changed (Some (insert m k.id x)) (Some x) update (λ i. get-insert texts_total m k.id x i ∙ ap (λ o. cond (is_eq (text_cmp i k.id)) (Some x) (at_id o i)) there) q
        ∙ sym (get-insert keys_total (by_key es) k x q))

    -- or as the first of its app
    pub put_first : (x : X) → None ≡ at_text es k.app → Updated es fs k.app (Some (insert empty k.id x)) → by_key fs ≡ insert (by_key es) k x
    put_first x none update = same_map keys_total exact_keys _ _ (λ q.
        changed (Some (insert empty k.id x)) (Some x) update
        (λ i. get-insert texts_total empty k.id x i ∙ ap (cond (is_eq (text_cmp i k.id)) (Some x)) (get-empty text_cmp i) ∙ ap (λ o. cond (is_eq (text_cmp i k.id)) (Some x) (at_id o i)) none) q
        ∙ sym (get-insert keys_total (by_key es) k x q))

    -- what stood under the key is taken out
    pub out_of : (m : ById X) → Some m ≡ at_text es k.app → Updated es fs k.app (Some (remove m k.id)) → by_key fs ≡ remove (by_key es) k
    out_of m there update = same_map keys_total exact_keys _ _ (λ q.
        changed (Some (remove m k.id)) None update (λ i. get-remove texts_total m k.id i ∙ ap (λ o. cond (is_eq (text_cmp i k.id)) None (at_id o i)) there) q
        ∙ sym (get-remove keys_total (by_key es) k q))

    -- nothing more is taken out with an app that has no place left
    pub bare_out : (m : FinMap key_cmp X) → by_key es ≡ remove m k → at_text es k.app ≡ Some empty → Updated es fs k.app None → by_key fs ≡ remove m k
    bare_out m is bare update = same_map keys_total exact_keys _ _ (λ q.
        changed None None update (λ i. same_either (is_eq (text_cmp i k.id)) None ∙ ap (cond (is_eq (text_cmp i k.id)) None) (sym (ap (λ o. at_id o i) bare ∙ get-empty text_cmp i))) q
        ∙ ap (λ n. cond (same_key q k) None (get n q)) is
        ∙ ap (cond (same_key q k) None) (get-remove keys_total m k q)
        ∙ twice (same_key q k) (get m q)
        ∙ sym (get-remove keys_total m k q))
      where
        twice : (b : Bool) (o : Option X) → cond b None (cond b None o) ≡ cond b None o
        twice true o = refl
        twice false o = refl

  -- nothing is taken out where the key's app has no place
  pub none_out : (es : List (Text × ById X)) (k : Key) → IsStrictlySortedBy text_cmp (keys_of es) → None ≡ at_text es k.app → by_key es ≡ remove (by_key es) k
  none_out es k sorted none = same_map keys_total exact_keys _ _ (λ q. absent q (same_key q k) refl ∙ sym (get-remove keys_total (by_key es) k q))
    where
      gone : (q : Key) → q ≡ k → get (by_key es) q ≡ None
      gone q is = ap (get (by_key es)) is ∙ get_by_key k es sorted ∙ ap (λ o. at_id o k.id) (sym none)

      absent : (q : Key) (b : Bool) → same_key q k ≡ b → get (by_key es) q ≡ cond b None (get (by_key es) q)
      absent q true is = gone q (exact_keys q k (equal_of (key_cmp q k) is))
        where
          equal_of : (r : Ordering) → is_eq r ≡ true → r ≡ Equal
          equal_of Less e = cc
          equal_of Equal e = refl
          equal_of Greater e = cc
      absent q false is = refl

  -- a key whose app has no place has none
  pub nowhere : (es : List (Text × ById X)) (k : Key) → IsStrictlySortedBy text_cmp (keys_of es) → None ≡ at_text es k.app → IsSome (get (by_key es) k) → ⊥
  nowhere es k sorted none is = not_none (get (by_key es) k) (get_by_key k es sorted ∙ ap (λ o. at_id o k.id) (sym none)) is
    where
      not_none : (o : Option X) → o ≡ None → IsSome o → ⊥
      not_none None e is = cc
      not_none (Some x) e is = cc

  -- ---- what the steps do, by what they do to the places of the app

  module _ (es fs : List (Text × ById X)) (sorted : IsStrictlySortedBy text_cmp (keys_of es)) (sorted_after : IsStrictlySortedBy text_cmp (keys_of fs)) (k : Key) (m n : ById X) (there : Some m ≡ at_text es k.app) (update : Updated es fs k.app (Some n)) where
    here : get m k.id ≡ get (by_key es) k
    here = ap (λ o. at_id o k.id) there ∙ sym (get_by_key k es sorted)

    pub put_there : (x : X) → (IsSome (get m k.id) → n ≡ insert m k.id x) → IsSome (get (by_key es) k) → by_key fs ≡ insert (by_key es) k x
    put_there x puts is = put_among es fs sorted sorted_after k m x there (subst (λ p. Updated es fs k.app (Some p)) (puts (subst (λ (o : Option X). IsSome o) (sym here) is)) update)

    stays : (q : Key) (b : Bool) → is_eq (text_cmp k.app q.app) ≡ b → n ≡ m → cond b (Some n) (at_text es q.app) ≡ at_text es q.app
    stays q true is same = ap (λ p. Some p) same ∙ there ∙ ap (at_text es) (text_is k.app q.app is)
    stays q false is same = refl

    pub as_before : n ≡ m → by_key fs ≡ by_key es
    as_before same = same_map keys_total exact_keys _ _ (λ q.
        get_by_key q fs sorted_after ∙ ap (λ o. at_id o q.id) (update q.app ∙ stays q (is_eq (text_cmp k.app q.app)) refl same) ∙ sym (get_by_key q es sorted))

    pub put_nowhere : (get m k.id ≡ None → n ≡ m) → get (by_key es) k ≡ None → by_key fs ≡ by_key es
    put_nowhere same none = as_before (same (here ∙ none))

    pub taken_out : n ≡ remove m k.id → by_key fs ≡ remove (by_key es) k
    taken_out is = out_of es fs sorted sorted_after k m there (subst (λ p. Updated es fs k.app (Some p)) is update)

    pub opened_among : (x : X) → n ≡ insert m k.id x → by_key fs ≡ insert (by_key es) k x
    opened_among x is = put_among es fs sorted sorted_after k m x there (subst (λ p. Updated es fs k.app (Some p)) is update)

pub on_ok : {A E : Type 0} {P Q : Type 0} (r : Result A E) → (P → Q) → OnOk r P → OnOk r Q
on_ok (Ok a) f h = f h
on_ok (Err e) f h = tt

pub on_err : {A E : Type 0} {P Q : Type 0} (r : Result A E) → (P → Q) → OnErr r P → OnErr r Q
on_err (Ok a) f h = tt
on_err (Err e) f h = f h
