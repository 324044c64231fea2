-- What is stored in order is what its map has, entry by entry.
use Rattle.std.proofs.Common.{◌≡◌, ℕ, ◌&&◌, T, List, [], ◌∷◌, map, Option, Some, option_map, refl, sym, ap, subst, ◌∙◌}
use Rattle.std.specs.declared.cmp.Ordering.{Ordering}
use Rattle.std.specs.declared.cmp.Ordering.TheVariants.{Less}
use Rattle.std.specs.FinMap.{FinMap, entries, entries_sorted, find, from_entries, from_sorted, entries-from_sorted, get, get-entries, get-from_entries, get-from_sorted, keys, same_map}
use Rattle.std.specs.FinMap.Entries.{below_all, is_sorted}
use Rattle.std.specs.Cmp.{IsTotalOrder}
use Rattle.std.specs.List.{AllByRecursion, cons_option, filter_map}
use Rattle.std.specs.List.Sorted.{IsStrictlySortedBy}
use Rattle.std.specs.Map.{keys_of}
use Rattle.std.specs.Option.{option_flatten}
use Rattle.std.specs.Ordering.{is_lt}
use Rattle.std.proofs.lemmas.Map.Keys.{sorted_head, sorted_tail}
use Rattle.std.proofs.lemmas.Map.Lookups.{CmpEqualImpliesEq}
use Rattle.disco_values.specs.Key.{key_cmp}
use Rattle.disco_values.specs.declared.key.Key.{Key}
use Rattle.disco_history.proofs.Keys.{keys_total, exact_keys}
use Rattle.disco_history.proofs.Sorted.{both, own}
use Rattle.disco_lease.specs.Leases as leases
use Rattle.disco_lease.specs.Due.{due_moment, overdue, passed}
use Rattle.disco_lease.specs.Seen.{pairs, plain_lease, seen}
use Rattle.disco_lease.specs.declared.lease.Lease.{Lease}
use Rattle.disco_lease.proofs.Entries.{lease_seen}

module _ {K X : Type 0} (R : K → K → Ordering) where
  all_below : (k : K) (es : List (K × X)) → AllByRecursion (λ y. R k y ≡ Less) (keys_of es) → T (below_all R k es)
  all_below k [] h = tt
  all_below k (e ∷ es) h = both _ _ (subst (λ o. T (is_lt o)) (sym h.0) tt) (all_below k es h.1)

  pub in_order : (es : List (K × X)) → IsStrictlySortedBy R (keys_of es) → T (is_sorted R es)
  in_order [] h = tt
  in_order (e ∷ es) h = both _ _ (all_below e.0 es (sorted_head R e.0 (keys_of es) h)) (in_order es (sorted_tail R e.0 (keys_of es) h))

pub entries_stored : {K X : Type 0} {R : K → K → Ordering} → IsTotalOrder R → CmpEqualImpliesEq R → (es : List (K × X)) → T (is_sorted R es) → entries (from_entries {R = R} es) ≡ es
entries_stored {R = R} total exact es h =
    ap entries (same_map total exact (from_entries es) (from_sorted es) (λ q. get-from_entries total es q ∙ sym (get-from_sorted R es q h)))
    ∙ entries-from_sorted R es h

abbrev pub Entries : Type 0
Entries = List (Key × Option Lease)

abbrev plain : Entries → List (Key × Option leases.LeaseEntry)
plain es = map (λ (e : Key × Option Lease). (e.0, option_map plain_lease e.1)) es

below_plain : (k : Key) (es : Entries) → below_all key_cmp k (plain es) ≡ below_all key_cmp k es
below_plain k [] = refl
below_plain k (e ∷ es) = ap (λ b. is_lt (key_cmp k e.0) && b) (below_plain k es)

sorted_plain : (es : Entries) → is_sorted key_cmp (plain es) ≡ is_sorted key_cmp es
sorted_plain [] = refl
sorted_plain (e ∷ es) = λ i. below_plain e.0 es i && sorted_plain es i

keys_alike : (es : Entries) → map (λ (e : Key × Option leases.LeaseEntry). e.0) (plain es) ≡ keys_of es
keys_alike [] = refl
keys_alike (e ∷ es) = ap (λ ks. e.0 ∷ ks) (keys_alike es)

-- the keys of the places, in their order
keys_stored : (m : FinMap key_cmp (Option Lease)) → keys (seen m) ≡ keys_of (entries m)
keys_stored m =
    ap (map (λ (e : Key × Option leases.LeaseEntry). e.0)) (entries_stored keys_total exact_keys (plain (entries m)) (subst T (sym (sorted_plain (entries m))) (entries_sorted m)))
    ∙ keys_alike (entries m)

-- when the lease of a key runs out
abbrev pub due_of : FinMap key_cmp (Option leases.LeaseEntry) → Key → Option ℕ
due_of m k = option_map due_moment (option_flatten (get m k))

abbrev pair_of : ℕ → (Key → Option ℕ) → Key → Option ((ℕ × Key) × Unit {0})
pair_of now due k = option_map (λ m. ((m, k), tt)) (passed now (due k))

pairs_by_key : (now : ℕ) (m : FinMap key_cmp (Option Lease)) (es : Entries) → AllByRecursion (λ (e : Key × Option Lease). find key_cmp e.0 (entries m) ≡ Some e.1) es → pairs now es ≡ filter_map (pair_of now (due_of (seen m))) (keys_of es)
pairs_by_key now m [] all = refl
pairs_by_key now m (e ∷ es) all =
    ap (λ o. cons_option (option_map (λ m. ((m, e.0), tt)) (passed now o)) (pairs now es)) (sym (found_due m e all.0))
    ∙ ap (cons_option (pair_of now (due_of (seen m)) e.0)) (pairs_by_key now m es all.1)
  where
    found_due : (m : FinMap key_cmp (Option Lease)) (e : Key × Option Lease) → find key_cmp e.0 (entries m) ≡ Some e.1 → due_of (seen m) e.0 ≡ option_map due_moment (option_map plain_lease e.1)
    found_due m e is = ap (option_map due_moment) (sym (lease_seen m e.0)) ∙ ap (λ o. option_map due_moment (option_map plain_lease (option_flatten o))) (get-entries m e.0 ∙ is)

-- what is collected is what is overdue
pub collected : (m : FinMap key_cmp (Option Lease)) (now : ℕ) → from_entries (pairs now (entries m)) ≡ overdue (due_of (seen m)) (keys (seen m)) now
unfolding overdue
collected m now =
    ap (λ l. from_entries l) (pairs_by_key now m (entries m) (own (entries m) (entries_sorted m)) ∙ ap (filter_map (pair_of now (due_of (seen m)))) (sym (keys_stored m)))
