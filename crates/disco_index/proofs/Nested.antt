-- Places in the order of their names, as keys by vip.
use Rattle.std.proofs.Common.{◌≡◌, ℕ, Bool, true, false, ◌&&◌, cond, T, List, [], ◌∷◌, map, filter, Option, Some, None, refl, sym, ap, subst, ◌∙◌}
use Rattle.std.specs.declared.cmp.Ordering.{Ordering}
use Rattle.std.specs.declared.cmp.Ordering.TheVariants.{Less, Equal, Greater}
use Rattle.std.specs.Cmp.{IsTotalOrder, tied_itself, then_total, on_total}
use Rattle.std.specs.Cmp.Lexicographic.{slice_cmp, nat_list_cmp_total, bytes_decides}
use Rattle.std.specs.FinMap.{FinMap, empty, entries, entries_sorted, get, get-empty, get-entries, get-insert, insert}
use Rattle.std.specs.FinMap.Entries.{below_all, find, is_sorted, same_entries}
use Rattle.std.specs.Option.{unwrap_or}
use Rattle.std.specs.Ordering.{is_eq, is_lt, nat_cmp, ordering_then}
use Rattle.std.specs.Str.{bytes_eq}
use Rattle.std.proofs.lemmas.Map.Text.{is_eq-slice_cmp}
use Rattle.std.proofs.lemmas.Map.Lookups.{CmpEqualImpliesEq, exact_pairs, exact_bytes}
use Rattle.disco_values.specs.Key.{key_cmp, same_key}
use Rattle.disco_values.specs.declared.key.Key.{Key}
use Rattle.disco_history.proofs.Keys.{exact_keys, keys_total}
use Rattle.disco_history.proofs.Sorted.{both, both_first, both_second}
use Rattle.disco_index.proofs.Stored.{keys_by_test}
use Rattle.disco_index.specs.Names.{Name, name, name_cmp, nested, of_name}
use Rattle.disco_index.specs.Places.{place_in, under_in}
use Rattle.disco_index.specs.Vips.{KeysByVip, keys_at}

pub names_total : IsTotalOrder name_cmp
names_total = then_total (on_total (λ n. n.vip) nat_list_cmp_total) (on_total (λ n. n.key) keys_total)

pub exact_names : CmpEqualImpliesEq name_cmp
exact_names a b h = ap (λ (p : List ℕ × Key). record { vip = p.0; key = p.1 }) (exact_pairs (slice_cmp nat_cmp) key_cmp exact_bytes exact_keys (a.vip, a.key) (b.vip, b.key) h)

both_equal : (o p : Ordering) → is_eq (ordering_then o p) ≡ (is_eq o && is_eq p)
both_equal Less p = refl
both_equal Equal p = refl
both_equal Greater p = refl

pub same_name : (q : List ℕ) (k : Key) (n : Name) → is_eq (name_cmp (name q k) n) ≡ (bytes_eq q n.vip && same_key k n.key)
same_name q k n = both_equal (slice_cmp nat_cmp q n.vip) (key_cmp k n.key) ∙ ap (λ b. b && same_key k n.key) (is_eq-slice_cmp q n.vip)

-- ---- a place is found by its name

abbrev inner : Option (FinMap key_cmp Bool) → FinMap key_cmp Bool
inner o = unwrap_or o empty

no_place : (q : List ℕ) (k : Key) → place_in empty q k ≡ None
no_place q k = ap (λ (o : Option (FinMap key_cmp Bool)). get (inner o) k) (get-empty (slice_cmp nat_cmp) q) ∙ get-empty key_cmp k

one_more : (m : KeysByVip) (e : Name × Bool) (q : List ℕ) (k : Key) (b : Bool) → bytes_eq q e.0.vip ≡ b
    → get (inner (cond b (Some (insert (keys_at m e.0.vip) e.0.key e.1)) (get m q))) k ≡ cond (b && same_key k e.0.key) (Some e.1) (place_in m q k)
one_more m e q k true same =
    get-insert keys_total (keys_at m e.0.vip) e.0.key e.1 k
    ∙ ap (λ v. cond (same_key k e.0.key) (Some e.1) (place_in m v k)) (sym ((bytes_decides q e.0.vip).0 same))
one_more m e q k false same = refl

pub place_found : (es : List (Name × Bool)) (q : List ℕ) (k : Key) → place_in (nested es) q k ≡ find name_cmp (name q k) es
place_found [] q k = no_place q k
place_found (e ∷ es) q k =
    ap (λ (o : Option (FinMap key_cmp Bool)). get (inner o) k)
    (get-insert nat_list_cmp_total (nested es) e.0.vip (insert (keys_at (nested es) e.0.vip) e.0.key e.1) q
    ∙ ap (λ b. cond b (Some (insert (keys_at (nested es) e.0.vip) e.0.key e.1)) (get (nested es) q)) (is_eq-slice_cmp q e.0.vip))
    ∙ one_more (nested es) e q k (bytes_eq q e.0.vip) refl
    ∙ ap (cond (bytes_eq q e.0.vip && same_key k e.0.key) (Some e.1)) (place_found es q k)
    ∙ ap (λ b. cond b (Some e.1) (find name_cmp (name q k) es)) (sym (same_name q k e.0))

-- ---- the keys under a vip

one_of : (e : Name × Bool) (es : List (Name × Bool)) (q : List ℕ) (k : Key) (b : Bool) → find key_cmp k (of_name q es) ≡ find name_cmp (name q k) es
    → find key_cmp k (cond b ((e.0.key, e.1) ∷ of_name q es) (of_name q es)) ≡ cond (b && same_key k e.0.key) (Some e.1) (find name_cmp (name q k) es)
one_of e es q k true ih = ap (cond (same_key k e.0.key) (Some e.1)) ih
one_of e es q k false ih = ih

found_of : (es : List (Name × Bool)) (q : List ℕ) (k : Key) → find key_cmp k (of_name q es) ≡ find name_cmp (name q k) es
found_of [] q k = refl
found_of (e ∷ es) q k =
    one_of e es q k (bytes_eq q e.0.vip) (found_of es q k)
    ∙ ap (λ b. cond b (Some e.1) (find name_cmp (name q k) es)) (sym (same_name q k e.0))

-- of one vip, names are in the order of their keys
of_one : (a b : Name) → a.vip ≡ b.vip → name_cmp a b ≡ key_cmp a.key b.key
of_one a b same = ap (λ o. ordering_then o (key_cmp a.key b.key)) (ap (λ v. slice_cmp nat_cmp v b.vip) same ∙ equal_to b.vip)
  where
    equal_to : (v : List ℕ) → slice_cmp nat_cmp v v ≡ Equal
    equal_to v = tied_itself nat_list_cmp_total v

one_below : (n : Name) (e : Name × Bool) (es : List (Name × Bool)) (q : List ℕ) (b : Bool) → bytes_eq q n.vip ≡ true → T (is_lt (name_cmp n e.0)) → T (below_all key_cmp n.key (of_name q es)) → bytes_eq q e.0.vip ≡ b
    → T (below_all key_cmp n.key (cond b ((e.0.key, e.1) ∷ of_name q es) (of_name q es)))
one_below n e es q true is lt rest here = both _ _ (subst (λ o. T (is_lt o)) (of_one n e.0 (sym ((bytes_decides q n.vip).0 is) ∙ (bytes_decides q e.0.vip).0 here)) lt) rest
one_below n e es q false is lt rest here = rest

below_of : (n : Name) (es : List (Name × Bool)) (q : List ℕ) → bytes_eq q n.vip ≡ true → T (below_all name_cmp n es) → T (below_all key_cmp n.key (of_name q es))
below_of n [] q is h = tt
below_of n (e ∷ es) q is h = one_below n e es q (bytes_eq q e.0.vip) is (both_first _ _ h) (below_of n es q is (both_second _ _ h)) refl

one_sorted : (e : Name × Bool) (es : List (Name × Bool)) (q : List ℕ) (b : Bool) → T (below_all name_cmp e.0 es) → T (is_sorted key_cmp (of_name q es)) → bytes_eq q e.0.vip ≡ b
    → T (is_sorted key_cmp (cond b ((e.0.key, e.1) ∷ of_name q es) (of_name q es)))
one_sorted e es q true below rest here = both _ _ (below_of e.0 es q here below) rest
one_sorted e es q false below rest here = rest

sorted_of : (es : List (Name × Bool)) (q : List ℕ) → T (is_sorted name_cmp es) → T (is_sorted key_cmp (of_name q es))
sorted_of [] q h = tt
sorted_of (e ∷ es) q h = one_sorted e es q (bytes_eq q e.0.vip) (both_first _ _ h) (sorted_of es q (both_second _ _ h)) refl

entries_of : (es : List (Name × Bool)) (q : List ℕ) → T (is_sorted name_cmp es) → entries (keys_at (nested es) q) ≡ of_name q es
entries_of es q h = same_entries key_cmp keys_total exact_keys (entries (keys_at (nested es) q)) (of_name q es) (entries_sorted (keys_at (nested es) q)) (sorted_of es q h)
    (λ k. sym (get-entries (keys_at (nested es) q) k) ∙ place_found es q k ∙ sym (found_of es q k))

pub under_of : (es : List (Name × Bool)) (q : List ℕ) → T (is_sorted name_cmp es) → under_in (nested es) q ≡ map (λ (e : Key × Bool). e.0) (filter (λ (e : Key × Bool). e.1) (of_name q es))
under_of es q h = sym (keys_by_test (keys_at (nested es) q)) ∙ ap (λ (l : List (Key × Bool)). map (λ (e : Key × Bool). e.0) (filter (λ (e : Key × Bool). e.1) l)) (entries_of es q h)
