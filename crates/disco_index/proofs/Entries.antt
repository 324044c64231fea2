-- How many of the entries in the order of their keys have a status.
use Rattle.std.proofs.Common.{◌≡◌, ℕ, ◌+◌, cond, T, List, [], ◌∷◌, map, Some, refl, sym, ap, subst, arith}
use Rattle.std.specs.declared.cmp.Ordering.{Ordering}
use Rattle.std.specs.declared.cmp.Ordering.TheVariants.{Less, Equal, Greater}
use Rattle.std.specs.Ordering.{is_eq, is_lt}
use Rattle.std.specs.FinMap.Entries.{is_sorted, put, find, below_all, by_order}
use Rattle.std.proofs.lemmas.List.Sums.{sum_by-cons}
use Rattle.disco_values.specs.Key.{key_cmp}
use Rattle.disco_instance.specs.Row.{Row}
use Rattle.disco_values.specs.Status.{is_same}
use Rattle.disco_values.specs.declared.key.Key.{Key}
use Rattle.disco_values.specs.declared.status.Status.{Status}
use Rattle.disco_history.specs.Change.{Entry}
use Rattle.disco_history.specs.Hash.{count_of}
use Rattle.disco_history.proofs.Keys.{keys_total}
use Rattle.disco_history.proofs.Sorted.{both, both_first, both_second, is_less, none_below}
use Rattle.disco_index.proofs.Numbers.{one_if, part}

abbrev pub Entries : Type 0
Entries = List (Key × Entry)

-- how many of the entries have the status
abbrev pub counted : Entries → Status → ℕ
counted es status = count_of (map (λ (e : Entry). e.0) (map (λ (p : Key × Entry). p.1) es)) status

counted-cons : (p : Key × Entry) (es : Entries) (status : Status) → counted (p ∷ es) status ≡ one_if p.1.0.status status + counted es status
counted-cons p es status = sum_by-cons (λ (r : Row). cond (is_same r.status status) 1 0) p.1.0 (map (λ (e : Entry). e.0) (map (λ (p : Key × Entry). p.1) es))

below_less : (k x : Key) (es : Entries) → key_cmp k x ≡ Less → T (below_all key_cmp x es) → T (below_all key_cmp k es)
below_less k x [] p h = tt
below_less k x (e ∷ es) p h = both _ _ (subst (λ o. T (is_lt o)) (sym (keys_total.trans k x e.0 p (is_less _ (both_first _ _ h)))) tt) (below_less k x es p (both_second _ _ h))

module _ (k : Key) (v : Entry) (status : Status) where
  put_before : (e : Key × Entry) (es : Entries) (o : Ordering) → key_cmp k e.0 ≡ o → T (below_all key_cmp e.0 es)
      → counted (put key_cmp k v es) status + part (find key_cmp k es) status ≡ counted es status + one_if v.0.status status
      → counted (by_order o ((k, v) ∷ e ∷ es) ((e.0, v) ∷ es) (e ∷ put key_cmp k v es)) status + part (cond (is_eq o) (Some e.1) (find key_cmp k es)) status ≡ counted (e ∷ es) status + one_if v.0.status status
  put_before e es Less p below rest =
      let none = ap (λ o. part o status) (none_below k es (below_less k e.0 es p below)) in
      omega (arith, none, counted-cons (k, v) (e ∷ es) status)
  put_before e es Equal p below rest = omega (arith, counted-cons (e.0, v) es status, counted-cons e es status)
  put_before e es Greater p below rest = omega (arith, rest, counted-cons e (put key_cmp k v es) status, counted-cons e es status)

  -- the entry of a key goes in, in place of the one that was there
  pub counted-put : (es : Entries) → T (is_sorted key_cmp es) → counted (put key_cmp k v es) status + part (find key_cmp k es) status ≡ counted es status + one_if v.0.status status
  counted-put [] sorted = omega (arith, counted-cons (k, v) [] status)
  counted-put (e ∷ es) sorted = put_before e es (key_cmp k e.0) refl (both_first _ _ sorted) (counted-put es (both_second _ _ sorted))
