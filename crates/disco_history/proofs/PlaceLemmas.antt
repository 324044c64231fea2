-- What is shown of places that aren't empty, and what a change of them does to it.
use Rattle.std.proofs.Common.{◌≡◌, Bool, true, false, cond, T, List, [], ◌∷◌, map, Option, Some, None, option_map, refl, sym, ap, subst, ◌∙◌}
use Rattle.std.specs.FinMap.{FinMap, entries, entries_sorted, from_entries, from_sorted, entries-from_sorted, get, get-entries, get-from_entries, get-from_sorted, insert, remove, same_map, get-insert, get-remove, values}
use Rattle.std.specs.FinMap.Entries.{below_all, find, is_sorted}
use Rattle.std.specs.List.{cons_option, filter_map}
use Rattle.std.specs.Option.{option_flatten}
use Rattle.disco_values.specs.Key.{key_cmp, same_key}
use Rattle.disco_values.specs.declared.key.Key.{Key}
use Rattle.disco_history.proofs.Keys.{keys_total, exact_keys, same_is}
use Rattle.disco_history.proofs.Sorted.{both, both_first, both_second, none_below}
use Rattle.disco_history.specs.Places.{filled, filled_in}

module _ {V W : Type 0} (f : V → W) where
  below_filled : (k : Key) (es : List (Key × Option V)) → T (below_all key_cmp k es) → T (below_all key_cmp k (filled f es))
  below_filled k [] h = tt
  below_filled k (e ∷ es) h = one e.1 (below_filled k es (both_second _ _ h))
    where
      one : (o : Option V) → T (below_all key_cmp k (filled f es)) → T (below_all key_cmp k (cons_option (option_map (λ v. (e.0, f v)) o) (filled f es)))
      one None rest = rest
      one (Some v) rest = both _ _ (both_first _ _ h) rest

  pub sorted_filled : (es : List (Key × Option V)) → T (is_sorted key_cmp es) → T (is_sorted key_cmp (filled f es))
  sorted_filled [] h = tt
  sorted_filled (e ∷ es) h = one e.1 (sorted_filled es (both_second _ _ h))
    where
      one : (o : Option V) → T (is_sorted key_cmp (filled f es)) → T (is_sorted key_cmp (cons_option (option_map (λ v. (e.0, f v)) o) (filled f es)))
      one None rest = rest
      one (Some v) rest = both _ _ (below_filled e.0 es (both_first _ _ h)) rest

  module _ (q : Key) where
    step : (e : Key × Option V) (es : List (Key × Option V)) (o : Option V) (b : Bool) → same_key q e.0 ≡ b → (b ≡ true → find key_cmp q es ≡ None) → find key_cmp q (filled f es) ≡ option_map f (option_flatten (find key_cmp q es))
        → find key_cmp q (cons_option (option_map (λ v. (e.0, f v)) o) (filled f es)) ≡ option_map f (option_flatten (cond b (Some o) (find key_cmp q es)))
    step e es None true same none ih = ih ∙ ap (λ p. option_map f (option_flatten p)) (none refl)
    step e es None false same none ih = ih
    step e es (Some v) true same none ih = ap (λ b. cond b (Some (f v)) (find key_cmp q (filled f es))) same
    step e es (Some v) false same none ih = ap (λ b. cond b (Some (f v)) (find key_cmp q (filled f es))) same ∙ ih

    pub find_filled : (es : List (Key × Option V)) → T (is_sorted key_cmp es) → find key_cmp q (filled f es) ≡ option_map f (option_flatten (find key_cmp q es))
    find_filled [] h = refl
    find_filled (e ∷ es) h =
        step e es e.1 (same_key q e.0) refl (λ tied. none_below q es (subst (λ k. T (below_all key_cmp k es)) (sym (same_is q e.0 tied)) (both_first _ _ h))) (find_filled es (both_second _ _ h))

  pub get_filled : (p : FinMap key_cmp (Option V)) (q : Key) → get (filled_in f p) q ≡ option_map f (option_flatten (get p q))
  get_filled p q = get-from_entries keys_total (filled f (entries p)) q ∙ find_filled q (entries p) (entries_sorted p) ∙ ap (λ o. option_map f (option_flatten o)) (sym (get-entries p q))

  entries_filled : (p : FinMap key_cmp (Option V)) → entries (filled_in f p) ≡ filled f (entries p)
  entries_filled p =
      let es = filled f (entries p) in
      let sorted = sorted_filled (entries p) (entries_sorted p) in
      ap entries (same_map keys_total exact_keys (from_entries es) (from_sorted es) (λ q. get-from_entries keys_total es q ∙ sym (get-from_sorted key_cmp es q sorted))) ∙ entries-from_sorted key_cmp es sorted

  values_in : (es : List (Key × Option V)) → map (λ e. e.1) (filled f es) ≡ filter_map (λ (e : Key × Option V). option_map f e.1) es
  values_in [] = refl
  values_in (e ∷ es) = one e.1 (values_in es)
    where
      one : (o : Option V) → map (λ e. e.1) (filled f es) ≡ filter_map (λ (e : Key × Option V). option_map f e.1) es
          → map (λ e. e.1) (cons_option (option_map (λ v. (e.0, f v)) o) (filled f es)) ≡ cons_option (option_map f o) (filter_map (λ (e : Key × Option V). option_map f e.1) es)
      one None ih = ih
      one (Some v) ih = ap (λ r. f v ∷ r) ih

  pub values_filled : (p : FinMap key_cmp (Option V)) → values (filled_in f p) ≡ filter_map (λ (e : Key × Option V). option_map f e.1) (entries p)
  values_filled p = ap (map (λ e. e.1)) (entries_filled p) ∙ values_in (entries p)

  flat_cond : (b : Bool) (x y : Option (Option V)) → option_map f (option_flatten (cond b x y)) ≡ cond b (option_map f (option_flatten x)) (option_map f (option_flatten y))
  flat_cond true x y = refl
  flat_cond false x y = refl

  pub filled_put : (p : FinMap key_cmp (Option V)) (k : Key) (v : V) → filled_in f (insert p k (Some v)) ≡ insert (filled_in f p) k (f v)
  filled_put p k v = same_map keys_total exact_keys _ _ (λ q.
      get_filled (insert p k (Some v)) q
      ∙ ap (λ o. option_map f (option_flatten o)) (get-insert keys_total p k (Some v) q)
      ∙ flat_cond (same_key q k) (Some (Some v)) (get p q)
      ∙ ap (cond (same_key q k) (Some (f v))) (sym (get_filled p q))
      ∙ sym (get-insert keys_total (filled_in f p) k (f v) q))

  pub filled_out : (p : FinMap key_cmp (Option V)) (k : Key) → filled_in f (remove p k) ≡ remove (filled_in f p) k
  filled_out p k = same_map keys_total exact_keys _ _ (λ q.
      get_filled (remove p k) q
      ∙ ap (λ o. option_map f (option_flatten o)) (get-remove keys_total p k q)
      ∙ flat_cond (same_key q k) None (get p q)
      ∙ ap (cond (same_key q k) None) (sym (get_filled p q))
      ∙ sym (get-remove keys_total (filled_in f p) k q))

  shows_none : (m : FinMap key_cmp W) (k q : Key) (b : Bool) → get m k ≡ None → same_key q k ≡ b → cond b None (get m q) ≡ get m q
  shows_none m k q true none same = sym (ap (get m) (same_is q k same) ∙ none)
  shows_none m k q false none same = refl

  -- an empty place where nothing was shown shows nothing
  pub filled_open : (p : FinMap key_cmp (Option V)) (k : Key) → get (filled_in f p) k ≡ None → filled_in f (insert p k None) ≡ filled_in f p
  filled_open p k none = same_map keys_total exact_keys _ _ (λ q.
      get_filled (insert p k None) q
      ∙ ap (λ o. option_map f (option_flatten o)) (get-insert keys_total p k None q)
      ∙ flat_cond (same_key q k) (Some None) (get p q)
      ∙ ap (cond (same_key q k) None) (sym (get_filled p q))
      ∙ shows_none (filled_in f p) k q (same_key q k) none refl)

  -- nor is anything lost by a place that goes and showed nothing
  pub filled_closed : (p : FinMap key_cmp (Option V)) (k : Key) → get (filled_in f p) k ≡ None → filled_in f (remove p k) ≡ filled_in f p
  filled_closed p k none = filled_out p k ∙ same_map keys_total exact_keys _ _ (λ q. get-remove keys_total (filled_in f p) k q ∙ shows_none (filled_in f p) k q (same_key q k) none refl)
