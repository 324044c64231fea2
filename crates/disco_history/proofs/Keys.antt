-- The order of keys, and what a chosen map gives.
use Rattle.std.proofs.Common.{◌≡◌, ℕ, Bool, true, false, ◌||◌, cond, List, [], ◌∷◌, Option, Some, None, option_map, refl, sym, ap, ◌∙◌}
use Rattle.std.specs.List.{filter_map, list_any, cons_option}
use Rattle.std.specs.declared.cmp.Ordering.{Ordering}
use Rattle.std.specs.declared.cmp.Ordering.TheVariants.{Less, Equal, Greater}
use Rattle.std.specs.Ordering.{nat_cmp, is_eq}
use Rattle.std.specs.Cmp.{IsTotalOrder, then_total, on_total, eq_by_cmp_equiv}
use Rattle.std.specs.Cmp.Lexicographic.{slice_cmp, nat_list_cmp_total}
use Rattle.std.specs.FinMap.{get, find, get-from_entries}
use Rattle.std.specs.Str.{bytes_eq}
use Rattle.std.proofs.lemmas.Map.Text.{is_eq-slice_cmp}
use Rattle.std.specs.Ordering.{ordering_then}
use Rattle.std.proofs.Common.{◌&&◌}
use Rattle.std.proofs.lemmas.Map.Lookups.{CmpEqualImpliesEq, exact_pairs, exact_bytes}
use Rattle.disco_values.specs.declared.key.Key.{Key}
use Rattle.disco_values.specs.Key.{key_cmp, same_key}
use Rattle.disco_history.specs.MapAt.{map_at}

pub keys_total : IsTotalOrder key_cmp
keys_total = then_total (on_total (λ k. k.app) nat_list_cmp_total) (on_total (λ k. k.id) nat_list_cmp_total)

pub exact_keys : CmpEqualImpliesEq key_cmp
exact_keys a b h = ap (λ (p : List ℕ × List ℕ). record { app = p.0; id = p.1 }) (exact_pairs (slice_cmp nat_cmp) (slice_cmp nat_cmp) exact_bytes exact_bytes (a.app, a.id) (b.app, b.id) h)

cond_none : {V : Type 0} (b : Bool) (x : Option V) → x ≡ None → cond b x None ≡ x
cond_none true x e = refl
cond_none false x e = sym e

equal : (r : Ordering) → is_eq r ≡ true → r ≡ Equal
equal Less e = cc
equal Equal e = refl
equal Greater e = cc

pub same_is : (q k : Key) → same_key q k ≡ true → q ≡ k
same_is q k e = exact_keys q k (equal (key_cmp q k) e)

both_equal : (o p : Ordering) → is_eq (ordering_then o p) ≡ (is_eq o && is_eq p)
both_equal Less p = refl
both_equal Equal p = refl
both_equal Greater p = refl

-- two keys are one where both parts are
pub same_key-parts : (a b : Key) → same_key a b ≡ (bytes_eq a.app b.app && bytes_eq a.id b.id)
same_key-parts a b = both_equal (slice_cmp nat_cmp a.app b.app) (slice_cmp nat_cmp a.id b.id) ∙ (λ i. is_eq-slice_cmp a.app b.app i && is_eq-slice_cmp a.id b.id i)

pub same_key-sym : (a b : Key) → same_key a b ≡ same_key b a
same_key-sym a b = (eq_by_cmp_equiv keys_total).symm a b

module _ {V : Type 0} (f : Key → Option V) (q : Key) where
  pair : Key → Option (Key × V)
  pair k = option_map (λ v. (k, v)) (f k)

  step : (k : Key) (rest : List (Key × V)) (any : Bool) (o : Option V) (b : Bool) → same_key q k ≡ b → (b ≡ true → f q ≡ o) → find key_cmp q rest ≡ cond any (f q) None → find key_cmp q (cons_option (option_map (λ v. (k, v)) o) rest) ≡ cond (b || any) (f q) None
  step k rest any None true e same ih = ih ∙ cond_none any (f q) (same refl)
  step k rest any None false e same ih = ih
  step k rest any (Some v) true e same ih = ap (λ b. cond b (Some v) (find key_cmp q rest)) e ∙ sym (same refl)
  step k rest any (Some v) false e same ih = ap (λ b. cond b (Some v) (find key_cmp q rest)) e ∙ ih

  find_chosen : (ks : List Key) → find key_cmp q (filter_map (λ k. option_map (λ v. (k, v)) (f k)) ks) ≡ cond (list_any (same_key q) ks) (f q) None
  find_chosen [] = refl
  find_chosen (k ∷ ks) = step k _ _ (f k) (same_key q k) refl (λ e. ap f (same_is q k e)) (find_chosen ks)

  -- nothing but at the keys that it was map_at from
  pub get-chosen_in : (ks : List Key) → get (map_at f ks) q ≡ cond (list_any (same_key q) ks) (f q) None
  unfolding map_at
  get-chosen_in ks = get-from_entries keys_total _ q ∙ find_chosen ks

  all_found : (b : Bool) → (b ≡ false → f q ≡ None) → cond b (f q) None ≡ f q
  all_found true absent = refl
  all_found false absent = sym (absent refl)

  pub get-chosen : (ks : List Key) → (list_any (same_key q) ks ≡ false → f q ≡ None) → get (map_at f ks) q ≡ f q
  get-chosen ks absent = get-chosen_in ks ∙ all_found (list_any (same_key q) ks) absent
