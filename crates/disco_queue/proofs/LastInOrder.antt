-- A walk of sorted places meets the last change of each key, in the keys' order.
use Rattle.std.proofs.Common.{◌≡◌, ℕ, Bool, true, false, cond, T, List, [], ◌∷◌, map, Option, Some, None, option_map, option_and_then, refl, sym, ap, subst, ◌∙◌}
use mathlib.Core.List.{map-map}
use Rattle.std.proofs.lemmas.List.Elements.{All-from_recursion}
use Rattle.std.specs.FinMap.{FinMap, entries, entries_sorted, entries-from_sorted, from_sorted, get-entries, get-from_sorted, same_map, values}
use Rattle.std.specs.FinMap.Entries.{below_all, find, is_sorted}
use Rattle.std.specs.List.{AllByRecursion, cons_option}
use Rattle.disco_values.specs.Key.{key_cmp, same_key}
use Rattle.disco_values.specs.declared.key.Key.{Key}
use Rattle.disco_history.specs.Change.{Entry, change_view, key_of}
use Rattle.disco_history.specs.Mentions.{delta}
use Rattle.disco_history.proofs.Keys.{keys_total, exact_keys, same_is}
use Rattle.disco_history.proofs.Sets.{get-delta}
use Rattle.disco_history.proofs.Restrictions.{last_key}
use Rattle.disco_history.proofs.Sorted.{Own, both, both_first, both_second, none_below, own}
use Rattle.disco_queue.specs.Latest.{AreOfKeys, Latest, latest_key}
use Rattle.disco_queue.specs.Numbers.{AreNumbered, keyed_change, numbered, numbered_keys}
use Rattle.disco_queue.proofs.LastNumbers.{last_numbered}

abbrev Stored : Type 0
Stored = List (Key × ℕ)

module _ (f : ℕ → Option Entry) where
  abbrev shown : Stored → List (Key × Entry)
  shown es = numbered_keys f es

  below_shown : (k : Key) (es : Stored) → T (below_all key_cmp k es) → T (below_all key_cmp k (shown es))
  below_shown k [] h = tt
  below_shown k (e ∷ es) h =
      let rest = below_shown k es (both_second _ _ h) in
      elim (f e.1) as (λ o. T (below_all key_cmp k (cons_option (option_map (λ x. (e.0, x)) o) (shown es)))) [ Some x ↦ both _ _ (both_first _ _ h) rest | None ↦ rest ]

  sorted_shown : (es : Stored) → T (is_sorted key_cmp es) → T (is_sorted key_cmp (shown es))
  sorted_shown [] h = tt
  sorted_shown (e ∷ es) h =
      let rest = sorted_shown es (both_second _ _ h) in
      elim (f e.1) as (λ o. T (is_sorted key_cmp (cons_option (option_map (λ x. (e.0, x)) o) (shown es)))) [ Some x ↦ both _ _ (below_shown e.0 es (both_first _ _ h)) rest | None ↦ rest ]

  step : (q : Key) (e : Key × ℕ) (es : Stored) (b : Bool) (o : Option Entry) → same_key q e.0 ≡ b → f e.1 ≡ o → (b ≡ true → find key_cmp q es ≡ None) → find key_cmp q (shown es) ≡ option_and_then f (find key_cmp q es)
      → find key_cmp q (cons_option (option_map (λ x. (e.0, x)) o) (shown es)) ≡ option_and_then f (cond b (Some e.1) (find key_cmp q es))
  step q e es true (Some x) tied is none ih = ap (λ b. cond b (Some x) (find key_cmp q (shown es))) tied ∙ sym is
  step q e es true None tied is none ih = ih ∙ ap (option_and_then f) (none refl) ∙ sym is
  step q e es false (Some x) tied is none ih = ap (λ b. cond b (Some x) (find key_cmp q (shown es))) tied ∙ ih
  step q e es false None tied is none ih = ih

  find_shown : (q : Key) (es : Stored) → T (is_sorted key_cmp es) → find key_cmp q (shown es) ≡ option_and_then f (find key_cmp q es)
  find_shown q [] h = refl
  find_shown q (e ∷ es) h =
      step q e es (same_key q e.0) (f e.1) refl refl (λ tied. none_below q es (subst (λ k. T (below_all key_cmp k es)) (sym (same_is q e.0 tied)) (both_first _ _ h))) (find_shown q es (both_second _ _ h))

-- where the places are numbered, a walk meets exactly the last changes
pub walked : (m : FinMap key_cmp ℕ) (before : ℕ) (es : List Entry) → AreNumbered m before es → numbered_keys (numbered before es) (entries m) ≡ entries (delta es 0)
walked m before es are =
    let f = numbered before es in
    let ps = entries m in
    let sorted : T (is_sorted key_cmp ps) = entries_sorted m in
    let both_maps : from_sorted (shown f ps) ≡ delta es 0 = same_map keys_total exact_keys (from_sorted (shown f ps)) (delta es 0) (λ q.
    get-from_sorted key_cmp (shown f ps) q (sorted_shown f ps sorted) ∙ find_shown f q ps sorted ∙ ap (option_and_then f) (sym (get-entries m q)) ∙ last_numbered m before es q are ∙ sym (get-delta es 0 q)) in
    sym (entries-from_sorted key_cmp (shown f ps) (sorted_shown f ps sorted)) ∙ ap entries both_maps

-- ---- what was met, as it is lent

-- the changes alone
pub met_values : (ps : List Latest) (m : FinMap key_cmp Entry) → map keyed_change ps ≡ entries m → map (λ (p : Latest). change_view p.2.now) ps ≡ values m
met_values ps m is = sym (map-map (λ (p : Key × Entry). p.1) keyed_change ps) ∙ ap (map (λ (p : Key × Entry). p.1)) is

own_keys : (es : List Entry) (xs : List (Key × Entry)) → Own (λ q. find key_cmp q (entries (delta es 0))) xs → AllByRecursion (λ (p : Key × Entry). p.0 ≡ key_of p.1) xs
own_keys es [] all = tt
own_keys es (p ∷ xs) all = (same_is p.0 (key_of p.1) (last_key es p.0 p.1 (sym (get-delta es 0 p.0) ∙ get-entries (delta es 0) p.0 ∙ all.0)), own_keys es xs all.1)

lent_keys : (ps : List Latest) → AllByRecursion (λ (p : Key × Entry). p.0 ≡ key_of p.1) (map keyed_change ps) → AllByRecursion (λ (p : Latest). latest_key p ≡ key_of (change_view p.2.now)) ps
lent_keys [] all = tt
lent_keys (p ∷ ps) all = (all.0, lent_keys ps all.1)

-- each with its key
pub met_keys : (ps : List Latest) (es : List Entry) → map keyed_change ps ≡ entries (delta es 0) → AreOfKeys ps
met_keys ps es is =
    let m = delta es 0 in
    let all = own_keys es (entries m) (own (entries m) (entries_sorted m)) in
    All-from_recursion (λ (p : Latest). latest_key p ≡ key_of (change_view p.2.now)) ps (lent_keys ps (subst (λ xs. AllByRecursion (λ (p : Key × Entry). p.0 ≡ key_of p.1) xs) (sym is) all))
