-- What places show of the leases in them.
use Rattle.std.proofs.Common.{◌≡◌, ℕ, Bool, true, false, cond, List, [], ◌∷◌, map, Option, Some, None, option_map, is_some, IsSome, refl, sym, ap, subst, ◌∙◌}
use Rattle.std.specs.Option.{option_flatten}
use Rattle.std.specs.FinMap.{FinMap, empty, entries, find, get, get-empty, get-entries, insert, remove, same_map, get-from_entries, get-insert, get-remove}
use Rattle.disco_values.specs.Key.{key_cmp, same_key}
use Rattle.disco_values.specs.declared.key.Key.{Key}
use Rattle.disco_history.proofs.Keys.{keys_total, exact_keys}
use Rattle.disco_lease.specs.Leases as leases
use Rattle.disco_lease.specs.Seen.{plain_lease, seen}
use Rattle.disco_lease.specs.declared.lease.Lease.{Lease}

abbrev Places : Type 0
Places = FinMap key_cmp (Option Lease)

abbrev seen_place : Option (Option Lease) → Option (Option leases.LeaseEntry)
seen_place o = option_map (option_map plain_lease) o

step : (b : Bool) (p : Option Lease) (x : Option (Option leases.LeaseEntry)) (o : Option (Option Lease)) → x ≡ seen_place o → cond b (Some (option_map plain_lease p)) x ≡ seen_place (cond b (Some p) o)
step true p x o e = refl
step false p x o e = e

find_seen : (es : List (Key × Option Lease)) (q : Key) → find key_cmp q (map (λ (e : Key × Option Lease). (e.0, option_map plain_lease e.1)) es) ≡ seen_place (find key_cmp q es)
find_seen [] q = refl
find_seen (e ∷ es) q = step (same_key q e.0) e.1 _ (find key_cmp q es) (find_seen es q)

pub get_seen : (m : Places) (q : Key) → get (seen m) q ≡ seen_place (get m q)
get_seen m q = get-from_entries keys_total (map (λ (e : Key × Option Lease). (e.0, option_map plain_lease e.1)) (entries m)) q ∙ find_seen (entries m) q ∙ ap seen_place (sym (get-entries m q))

through : (b : Bool) (w o : Option (Option Lease)) → seen_place (cond b w o) ≡ cond b (seen_place w) (seen_place o)
through true w o = refl
through false w o = refl

pub seen_put : (m : Places) (k : Key) (p : Option Lease) → seen (insert m k p) ≡ insert (seen m) k (option_map plain_lease p)
seen_put m k p = same_map keys_total exact_keys _ _ (λ q.
    get_seen (insert m k p) q ∙ ap seen_place (get-insert keys_total m k p q) ∙ through (same_key q k) (Some p) (get m q)
    ∙ ap (cond (same_key q k) (Some (option_map plain_lease p))) (sym (get_seen m q)) ∙ sym (get-insert keys_total (seen m) k (option_map plain_lease p) q))

pub seen_out : (m : Places) (k : Key) → seen (remove m k) ≡ remove (seen m) k
seen_out m k = same_map keys_total exact_keys _ _ (λ q.
    get_seen (remove m k) q ∙ ap seen_place (get-remove keys_total m k q) ∙ through (same_key q k) None (get m q)
    ∙ ap (cond (same_key q k) None) (sym (get_seen m q)) ∙ sym (get-remove keys_total (seen m) k q))

pub seen_none : seen empty ≡ empty
seen_none = same_map keys_total exact_keys _ _ (λ q. get_seen empty q ∙ ap seen_place (get-empty key_cmp q) ∙ sym (get-empty key_cmp q))

flat : (o : Option (Option Lease)) → option_map plain_lease (option_flatten o) ≡ option_flatten (seen_place o)
flat None = refl
flat (Some p) = refl

pub lease_seen : (m : Places) (q : Key) → option_map plain_lease (option_flatten (get m q)) ≡ option_flatten (get (seen m) q)
lease_seen m q = flat (get m q) ∙ ap option_flatten (sym (get_seen m q))

-- a place that is made shows what stood there
pub seen_made : (m n : Places) (k : Key) → n ≡ insert m k (option_flatten (get m k)) → seen n ≡ insert (seen m) k (option_flatten (get (seen m) k))
seen_made m n k is = ap seen is ∙ seen_put m k (option_flatten (get m k)) ∙ ap (insert (seen m) k) (lease_seen m k)

seen_some : (o : Option (Option Lease)) → IsSome (seen_place o) → IsSome o
seen_some None h = h
seen_some (Some p) h = refl

pub place_seen : (m : Places) (q : Key) → IsSome (get (seen m) q) → IsSome (get m q)
place_seen m q h = seen_some (get m q) (subst (λ (o : Option (Option leases.LeaseEntry)). IsSome o) (get_seen m q) h)

also_some : (o : Option Lease) → is_some o ≡ is_some (option_map plain_lease o)
also_some None = refl
also_some (Some l) = refl

pub some_seen : (m : Places) (k : Key) → is_some (option_flatten (get m k)) ≡ is_some (option_flatten (get (seen m) k))
some_seen m k = also_some (option_flatten (get m k)) ∙ ap is_some (lease_seen m k)

-- a lease that is moved by its duration
pub seen_moved : (m n : Places) (k : Key) (now : ℕ) (old new : Lease) → option_flatten (get m k) ≡ Some old → plain_lease new ≡ leases.extended now (plain_lease old) → n ≡ insert m k (Some new)
    → seen n ≡ insert (seen m) k (option_map (leases.extended now) (option_flatten (get (seen m) k)))
seen_moved m n k now old new there extended put =
    ap seen put
    ∙ seen_put m k (Some new)
    ∙ ap (λ l. insert (seen m) k (Some l)) extended
    ∙ ap (λ o. insert (seen m) k (option_map (leases.extended now) o)) (sym (ap (option_map plain_lease) there) ∙ lease_seen m k)
