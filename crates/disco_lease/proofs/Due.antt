-- The keys whose leases have run out, in their order.
use Rattle.std.proofs.Common.{◌≡◌, ℕ, Bool, true, false, ◌&&◌, ◌||◌, cond, List, [], ◌∷◌, Option, Some, None, option_map, refl, sym, ap, ◌∙◌}
use Rattle.std.specs.declared.cmp.Ordering.{Ordering}
use Rattle.std.specs.declared.cmp.Ordering.TheVariants.{Less, Equal, Greater}
use Rattle.std.specs.List.{filter_map, list_any, cons_option}
use Rattle.std.specs.Ordering.{nat_cmp, ordering_then, is_eq}
use Rattle.std.specs.Cmp.{IsTotalOrder, then_total, on_total, nat_cmp_total}
use Rattle.std.specs.FinMap.{find, get, same_map, get-from_entries}
use Rattle.std.proofs.lemmas.Map.Lookups.{CmpEqualImpliesEq, exact_pairs, exact_unsigned}
use Rattle.disco_values.specs.Key.{key_cmp, same_key}
use Rattle.disco_values.specs.declared.key.Key.{Key}
use Rattle.disco_history.proofs.Keys.{keys_total, exact_keys, same_is}
use Rattle.disco_lease.specs.Due.{due_cmp, overdue, passed}

pub dues_total : IsTotalOrder due_cmp
dues_total = then_total (on_total (λ (d : ℕ × Key). d.0) nat_cmp_total) (on_total (λ (d : ℕ × Key). d.1) keys_total)

pub exact_dues : CmpEqualImpliesEq due_cmp
exact_dues a b h = exact_pairs nat_cmp key_cmp exact_unsigned exact_keys a b h

-- ---- what a map of due moments has

abbrev Dues : Type 0
Dues = List ((ℕ × Key) × Unit {0})

abbrev there : Bool → Option (Unit {0})
there b = cond b (Some tt) None

-- whether a key's moment is that one
abbrev pub is_due : ℕ → Option ℕ → Option (Unit {0})
is_due m None = None
is_due m (Some d) = there (is_eq (nat_cmp m d))

both_equal : (o p : Ordering) → is_eq (ordering_then o p) ≡ (is_eq o && is_eq p)
both_equal Less p = refl
both_equal Equal p = refl
both_equal Greater p = refl

abbrev none : Option (Unit {0})
none = None

nothing : (b : Bool) → none ≡ cond b none none
nothing true = refl
nothing false = refl

ours : (q : ℕ × Key) (k : Key) (d : ℕ) (p : Option ℕ) (here same any : Bool) (rest : Dues) → is_eq (nat_cmp q.0 d) ≡ here → (same ≡ true → p ≡ Some d) → find due_cmp q rest ≡ cond any (is_due q.0 p) None
    → cond (here && same) (Some tt) (find due_cmp q rest) ≡ cond (same || any) (is_due q.0 p) None
ours q k d p true true any rest at alike e = sym (ap (is_due q.0) (alike refl) ∙ ap there at)
ours q k d p false true any rest at alike e =
    let gone : is_due q.0 p ≡ none = ap (is_due q.0) (alike refl) ∙ ap there at in
    e ∙ ap (λ o. cond any o none) gone ∙ sym (nothing any) ∙ sym gone
ours q k d p true false any rest at alike e = e
ours q k d p false false any rest at alike e = e

-- one key more
more : (q : ℕ × Key) (k : Key) (o p : Option ℕ) (same any : Bool) (rest : Dues) → same_key q.1 k ≡ same → (same ≡ true → p ≡ o) → find due_cmp q rest ≡ cond any (is_due q.0 p) None
    → find due_cmp q (cons_option (option_map (λ m. ((m, k), tt)) o) rest) ≡ cond (same || any) (is_due q.0 p) None
more q k None p true any rest is alike e = e ∙ ap (λ o. cond any o None) (ap (is_due q.0) (alike refl)) ∙ sym (nothing any) ∙ sym (ap (is_due q.0) (alike refl))
more q k None p false any rest is alike e = e
more q k (Some d) p same any rest is alike e =
    ap (λ b. cond b (Some tt) (find due_cmp q rest)) (both_equal (nat_cmp q.0 d) (key_cmp q.1 k) ∙ ap (λ b. is_eq (nat_cmp q.0 d) && b) is)
    ∙ ours q k d p (is_eq (nat_cmp q.0 d)) same any rest refl alike e

find_overdue : (f : Key → Option ℕ) (ks : List Key) (q : ℕ × Key) → find due_cmp q (filter_map (λ k. option_map (λ m. ((m, k), tt)) (f k)) ks) ≡ cond (list_any (same_key q.1) ks) (is_due q.0 (f q.1)) None
find_overdue f [] q = refl
find_overdue f (k ∷ ks) q = more q k (f k) (f q.1) (same_key q.1 k) (list_any (same_key q.1) ks) _ refl (λ e. ap f (same_is q.1 k e)) (find_overdue f ks q)

all_there : (b : Bool) (m now : ℕ) (o : Option ℕ) → (b ≡ false → o ≡ None) → cond b (is_due m (passed now o)) None ≡ is_due m (passed now o)
all_there true m now o absent = refl
all_there false m now o absent = sym (ap (λ p. is_due m (passed now p)) (absent refl))

-- what is due at a moment, where the keys are all that have one
pub get-overdue : (due : Key → Option ℕ) (ks : List Key) (now : ℕ) (q : ℕ × Key) → ((k : Key) → list_any (same_key k) ks ≡ false → due k ≡ None) → get (overdue due ks now) q ≡ is_due q.0 (passed now (due q.1))
unfolding overdue
get-overdue due ks now q all =
    get-from_entries dues_total _ q ∙ find_overdue (λ k. passed now (due k)) ks q ∙ all_there (list_any (same_key q.1) ks) q.0 now (due q.1) (all q.1)

-- what is overdue doesn't depend on the list of keys
pub same_overdue : (due owe : Key → Option ℕ) (ks js : List Key) (now : ℕ) → ((k : Key) → due k ≡ owe k) → ((k : Key) → list_any (same_key k) ks ≡ false → due k ≡ None) → ((k : Key) → list_any (same_key k) js ≡ false → owe k ≡ None)
    → overdue due ks now ≡ overdue owe js now
same_overdue due owe ks js now same all every = same_map dues_total exact_dues _ _ (λ q. get-overdue due ks now q all ∙ ap (λ o. is_due q.0 (passed now o)) (same q.1) ∙ sym (get-overdue owe js now q every))
