-- Collecting the keys of overdue leases.
use Rattle.std.proofs.Common.{◌≡◌, ℕ, Bool, true, false, cond, List, [], ◌∷◌, ◌++◌, map, Option, Some, None, option_map, refl, sym, ap, ◌∙◌, nat_lt}
use Rattle.std.specs.declared.cmp.Ordering.{Ordering}
use Rattle.std.specs.declared.cmp.Ordering.TheVariants.{Less, Equal, Greater}
use Rattle.std.specs.BTreeMap.{insert_entry}
use Rattle.std.specs.List.{cons_option}
use Rattle.std.specs.List.Sorted.{IsStrictlySortedBy}
use Rattle.std.specs.Map.{keys_of}
use Rattle.std.specs.Option.{option_or}
use Rattle.std.specs.Ordering.{match_ordering, eq_by_cmp}
use Rattle.std.specs.FinMap.{entries, find, from_entries, get, get-from_entries, keys, same_map}
use Rattle.std.specs.FinMap.Entries.{put, by_order, find-put}
use Rattle.std.proofs.lemmas.List.Elements.{filter_map-append}
use Rattle.disco_values.specs.declared.key.Key.{Key}
use Rattle.disco_places.specs.KeyMaps.{ById, of_app, of_apps}
use Rattle.disco_lease.specs.Due.{due_cmp, due_moment}
use Rattle.disco_lease.specs.Seen.{at_pair, ids_with_app, pair, pairs, plain_lease, seen_due}
use Rattle.disco_lease.specs.declared.lease.Lease.{Lease}
use Rattle.disco_lease.proofs.Due.{dues_total, exact_dues}
use Rattle.disco_lease.proofs.Ordered.{entries_stored, in_order}

abbrev Dues : Type 0
Dues = List ((ℕ × Key) × Unit {0})

abbrev Found : Type 0
Found = Option (Unit {0})

one_put : (o : Ordering) (a b c : Dues) → match_ordering o a b c ≡ by_order o a b c
one_put Less a b c = refl
one_put Equal a b c = refl
one_put Greater a b c = refl

put_seen : (es : Dues) (k : ℕ × Key) (v : Unit {0}) → insert_entry due_cmp es k v ≡ put due_cmp k v es
put_seen [] k v = refl
put_seen (e ∷ es) k v =
    one_put (due_cmp k e.0) ((k, v) ∷ e ∷ es) ((e.0, v) ∷ es) (e ∷ insert_entry due_cmp es k v)
    ∙ ap (λ r. by_order (due_cmp k e.0) ((k, v) ∷ e ∷ es) ((e.0, v) ∷ es) (e ∷ r)) (put_seen es k v)

unit_or : (b : Bool) (u : Unit {0}) (g : Found) → cond b (Some u) g ≡ option_or (cond b (Some tt) None) g
unit_or true u g = refl
unit_or false u g = refl

-- an entry more
pub get_more : (es fs : Dues) (k : ℕ × Key) (q : ℕ × Key) → fs ≡ insert_entry due_cmp es k tt → get (seen_due fs) q ≡ option_or (at_pair q (Some (k, tt))) (get (seen_due es) q)
get_more es fs k q e =
    get-from_entries dues_total fs q ∙ ap (find due_cmp q) e ∙ ap (find due_cmp q) (put_seen es k tt) ∙ find-put due_cmp dues_total q k tt es
    ∙ unit_or (eq_by_cmp due_cmp q k) tt _ ∙ ap (option_or (at_pair q (Some (k, tt)))) (sym (get-from_entries dues_total es q))

-- the pair of a lease that has run out
pub pair_is : (now : ℕ) (k : Key) (place : Option Lease) (l : Lease) (d : ℕ) → place ≡ Some l → d ≡ due_moment (plain_lease l) → nat_lt d now ≡ true → pair now (k, place) ≡ Some ((d, k), tt)
pair_is now k place l d is due over =
    ap (λ (p : Option Lease). pair now (k, p)) is
    ∙ ap (λ x. option_map (λ m. ((m, k), tt)) (cond (nat_lt x now) (Some x) None)) (sym due)
    ∙ ap (λ b. option_map (λ m. ((m, k), tt)) (cond b (Some d) None)) over

-- ---- the places of one app more

find-both : (q : ℕ × Key) (xs ys : Dues) → find due_cmp q (xs ++ ys) ≡ option_or (find due_cmp q xs) (find due_cmp q ys)
find-both q [] ys = refl
find-both q (x ∷ xs) ys = ap (cond (eq_by_cmp due_cmp q x.0) (Some x.1)) (find-both q xs ys) ∙ by (eq_by_cmp due_cmp q x.0) (find due_cmp q xs)
  where
    by : (b : Bool) (o : Found) → cond b (Some x.1) (option_or o (find due_cmp q ys)) ≡ option_or (cond b (Some x.1) o) (find due_cmp q ys)
    by true o = refl
    by false o = refl

swapped : (a r c : Found) → option_or r (option_or a c) ≡ option_or (option_or a r) c
swapped None r c = refl
swapped (Some a) None c = refl
swapped (Some a) (Some r) c = refl

-- what was collected stands before what comes of one more place
pub one_more : (o : Option ((ℕ × Key) × Unit {0})) (rest : Dues) (old new all : Found) (q : ℕ × Key) → new ≡ option_or (at_pair q o) old → option_or (find due_cmp q (cons_option o rest)) old ≡ all → option_or (find due_cmp q rest) new ≡ all
one_more None rest old new all q is whole = ap (option_or (find due_cmp q rest)) is ∙ whole
one_more (Some p) rest old new all q is whole =
    ap (option_or (find due_cmp q rest)) is ∙ by (eq_by_cmp due_cmp q p.0) (find due_cmp q rest) old ∙ whole
  where
    by : (b : Bool) (r g : Found) → option_or r (option_or (cond b (Some tt) None) g) ≡ option_or (cond b (Some p.1) r) g
    by true None g = refl
    by true (Some r) g = refl
    by false r g = refl

pub app_more : (now : ℕ) (a : List ℕ × ById (Option Lease)) (rest before : List (List ℕ × ById (Option Lease))) (old new all : Found) (q : ℕ × Key) → before ≡ a ∷ rest
    → new ≡ option_or (find due_cmp q (pairs now (ids_with_app a.0 (entries a.1)))) old → option_or (find due_cmp q (pairs now (of_apps before))) old ≡ all → option_or (find due_cmp q (pairs now (of_apps rest))) new ≡ all
app_more now a rest before old new all q is more whole =
    ap (option_or (find due_cmp q (pairs now (of_apps rest)))) more
    ∙ swapped (find due_cmp q (pairs now (of_app a))) (find due_cmp q (pairs now (of_apps rest))) old
    ∙ ap (λ o. option_or o old) (sym (ap (find due_cmp q) (filter_map-append (pair now) (of_app a) (of_apps rest)) ∙ find-both q (pairs now (of_app a)) (pairs now (of_apps rest))))
    ∙ ap (λ b. option_or (find due_cmp q (pairs now (of_apps b))) old) (sym is)
    ∙ whole

or_none : (o p : Found) → p ≡ None → option_or o p ≡ o
or_none None p e = e
or_none (Some u) p e = refl

-- nothing is collected at first
pub none_yet : (all rest : Dues) (es : Dues) (q : ℕ × Key) → rest ≡ all → es ≡ [] → option_or (find due_cmp q rest) (get (seen_due es) q) ≡ find due_cmp q all
none_yet all rest es q same none = or_none (find due_cmp q rest) _ (ap (λ l. get (seen_due l) q) none ∙ get-from_entries dues_total [] q) ∙ ap (find due_cmp q) same

-- all is collected at last
pub all_there : (all rest : Dues) (es : Dues) → rest ≡ [] → ((q : ℕ × Key) → option_or (find due_cmp q rest) (get (seen_due es) q) ≡ find due_cmp q all) → seen_due es ≡ from_entries all
all_there all rest es none is = same_map dues_total exact_dues _ _ (λ q. sym (ap (λ l. option_or (find due_cmp q l) (get (seen_due es) q)) none) ∙ is q ∙ sym (get-from_entries dues_total all q))

taken_keys : (es : Dues) → map (λ (d : ℕ × Key). d.1) (map (λ (e : (ℕ × Key) × Unit {0}). e.0) es) ≡ map (λ (e : (ℕ × Key) × Unit {0}). e.0.1) es
taken_keys [] = refl
taken_keys (e ∷ es) = ap (λ ks. e.0.1 ∷ ks) (taken_keys es)

-- the keys of what is stored in order
pub keys_due : (es : Dues) → IsStrictlySortedBy due_cmp (keys_of es) → map (λ (e : (ℕ × Key) × Unit {0}). e.0.1) es ≡ map (λ (d : ℕ × Key). d.1) (keys (seen_due es))
keys_due es h =
    sym (taken_keys es)
    ∙ ap (λ l. map (λ (d : ℕ × Key). d.1) (map (λ (e : (ℕ × Key) × Unit {0}). e.0) l)) (sym (entries_stored dues_total exact_dues es (in_order due_cmp es h)))
