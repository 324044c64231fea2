-- What the sets of a history have at a key.
use Rattle.std.proofs.Common.{◌≡◌, ℕ, Bool, true, false, cond, T, ◌&&◌, ◌||◌, List, [], ◌∷◌, ◌++◌, map, drop, length, Option, Some, None, option_map, option_and_then, is_some, refl, sym, ap, subst, ◌∙◌}
use Rattle.std.specs.List.{list_any}
use Rattle.std.specs.Option.{option_map_or}
use Rattle.std.specs.Ordering.{eq_by_cmp, is_lt}
use Rattle.std.specs.FinMap.{FinMap, get, keys, values, len, entries, entries_sorted, same_map, contains_key-keys, insert, remove, empty, get-insert, get-remove, get-empty, from_sorted, entries-from_sorted, get-from_sorted, get-entries, len-entries}
use Rattle.std.specs.FinMap.Entries.{is_sorted, below_all, find}
use Rattle.std.proofs.lemmas.List.{length-map}
use Rattle.disco_values.specs.Key.{key_cmp, same_key}
use Rattle.disco_instance.specs.Row.{Row}
use Rattle.disco_values.specs.declared.key.Key.{Key}
use Rattle.disco_history.specs.Change.{Entry, key_of, last}
use Rattle.disco_instance.specs.Mention.{Mention}
use Rattle.disco_history.specs.Mentions.{delta, known, overlay}
use Rattle.disco_history.specs.Query.{Selector, asks_for, restrict}
use Rattle.disco_history.specs.Registry.{kept_by, put_of, registry_of, mentions_of}
use Rattle.disco_history.proofs.Keys.{keys_total, exact_keys, get-chosen}
use Rattle.disco_history.proofs.Lasts.{last_absent, last_more}

none_from_test : {V : Type 0} (o : Option V) → is_some o ≡ false → o ≡ None
none_from_test None e = refl
none_from_test (Some x) e = cc

-- a key that a map does not name has nothing there
pub not_there : {V : Type 0} (m : FinMap key_cmp V) (q : Key) → list_any (same_key q) (keys m) ≡ false → get m q ≡ None
not_there m q e = none_from_test (get m q) (contains_key-keys m q ∙ e)

abbrev pub first_of : Option Entry → Option Row
first_of o = option_map (λ e. e.0) o

pub get-reg : (h : List Entry) (q : Key) → get (registry_of h) q ≡ option_map (λ e. e.0) (option_and_then put_of (last h q))
get-reg h q = get-chosen _ q (map key_of h) (λ e. ap (λ o. first_of (option_and_then put_of o)) (last_absent q h e))

none_first : (o : Option Entry) → first_of o ≡ None → o ≡ None
none_first None e = refl
none_first (Some x) e = absurd (cc)

-- the mentions of the registry have at a key what its last change put
pub get-said : (h : List Entry) (q : Key) → get (mentions_of h (registry_of h)) q ≡ option_and_then put_of (last h q)
get-said h q = get-chosen _ q (keys (registry_of h)) (λ e. none_first (option_and_then put_of (last h q)) (sym (get-reg h q) ∙ not_there (registry_of h) q e))

pub get-said_reg : (h : List Entry) (q : Key) → option_map (λ e. e.0) (get (mentions_of h (registry_of h)) q) ≡ get (registry_of h) q
get-said_reg h q = ap first_of (get-said h q) ∙ sym (get-reg h q)

-- ---- one more change

held_more : (h : List Entry) (e : Entry) (q : Key) → get (mentions_of (h ++ e ∷ []) (registry_of (h ++ e ∷ []))) q ≡ cond (same_key q (key_of e)) (put_of e) (get (mentions_of h (registry_of h)) q)
held_more h e q = get-said (h ++ e ∷ []) q ∙ ap (option_and_then put_of) (last_more h e q) ∙ one (same_key q (key_of e)) ∙ ap (cond (same_key q (key_of e)) (put_of e)) (sym (get-said h q))
  where
    one : (b : Bool) → option_and_then put_of (cond b (Some e) (last h q)) ≡ cond b (put_of e) (option_and_then put_of (last h q))
    one true = refl
    one false = refl

-- a put goes in, and what is gone goes out
pub said_put : (h : List Entry) (e : Entry) → put_of e ≡ Some e → mentions_of (h ++ e ∷ []) (registry_of (h ++ e ∷ [])) ≡ insert (mentions_of h (registry_of h)) (key_of e) e
said_put h e is = same_map keys_total exact_keys _ _ (λ q. held_more h e q ∙ ap (λ o. cond (same_key q (key_of e)) o (get (mentions_of h (registry_of h)) q)) is ∙ sym (get-insert keys_total (mentions_of h (registry_of h)) (key_of e) e q))

pub said_gone : (h : List Entry) (e : Entry) → put_of e ≡ None → mentions_of (h ++ e ∷ []) (registry_of (h ++ e ∷ [])) ≡ remove (mentions_of h (registry_of h)) (key_of e)
said_gone h e is = same_map keys_total exact_keys _ _ (λ q. held_more h e q ∙ ap (λ o. cond (same_key q (key_of e)) o (get (mentions_of h (registry_of h)) q)) is ∙ sym (get-remove keys_total (mentions_of h (registry_of h)) (key_of e) q))

pub said_nil : mentions_of [] (registry_of []) ≡ empty
said_nil = same_map keys_total exact_keys _ _ (λ q. get-said [] q ∙ sym (get-empty key_cmp q))

-- ---- the records of the mentions are those of the registry

abbrev pub records : List (Key × Entry) → List (Key × Row)
records = map (λ p. (p.0, p.1.0))

below_records : (k : Key) (es : List (Key × Entry)) → below_all key_cmp k (records es) ≡ below_all key_cmp k es
below_records k [] = refl
below_records k (e ∷ es) = ap (λ b. is_lt (key_cmp k e.0) && b) (below_records k es)

sorted_records : (es : List (Key × Entry)) → is_sorted key_cmp (records es) ≡ is_sorted key_cmp es
sorted_records [] = refl
sorted_records (e ∷ es) = λ i. below_records e.0 es i && sorted_records es i

one_record : (b : Bool) (e : Entry) (rest : Option Row) (o : Option Entry) → rest ≡ first_of o → cond b (Some e.0) rest ≡ first_of (cond b (Some e) o)
one_record true e rest o same = refl
one_record false e rest o same = same

find_records : (q : Key) (es : List (Key × Entry)) → find key_cmp q (records es) ≡ first_of (find key_cmp q es)
find_records q [] = refl
find_records q (e ∷ es) = one_record (eq_by_cmp key_cmp q e.0) e.1 (find key_cmp q (records es)) (find key_cmp q es) (find_records q es)

values_records : (es : List (Key × Entry)) → map (λ p. p.1) (records es) ≡ map (λ e. e.0) (map (λ p. p.1) es)
values_records [] = refl
values_records (e ∷ es) = ap (λ r. e.1.0 ∷ r) (values_records es)

-- a map of the records of another one's mentions
pub entries_first : (s : FinMap key_cmp Row) (t : FinMap key_cmp Entry) → ((q : Key) → get s q ≡ first_of (get t q)) → entries s ≡ records (entries t)
entries_first s t at =
    let es = entries t in
    let sorted : T (is_sorted key_cmp (records es)) = subst T (sym (sorted_records es)) (entries_sorted t) in
    ap entries (same_map keys_total exact_keys s (from_sorted (records es)) (λ q.
    at q ∙ ap first_of (get-entries t q) ∙ sym (find_records q es) ∙ sym (get-from_sorted key_cmp (records es) q sorted)))
    ∙ entries-from_sorted key_cmp (records es) sorted

pub values_first : (s : FinMap key_cmp Row) (t : FinMap key_cmp Entry) → ((q : Key) → get s q ≡ first_of (get t q)) → values s ≡ map (λ e. e.0) (values t)
values_first s t at = ap (map (λ p. p.1)) (entries_first s t at) ∙ values_records (entries t)

pub len_first : (s : FinMap key_cmp Row) (t : FinMap key_cmp Entry) → ((q : Key) → get s q ≡ first_of (get t q)) → len s ≡ len t
len_first s t at = len-entries s ∙ ap length (entries_first s t at) ∙ length-map (entries t) (λ (p : Key × Entry). (p.0, p.1.0)) ∙ sym (len-entries t)

pub values-reg : (h : List Entry) → values (registry_of h) ≡ map (λ e. e.0) (values (mentions_of h (registry_of h)))
values-reg h = values_first (registry_of h) (mentions_of h (registry_of h)) (λ q. sym (get-said_reg h q))

pub len-reg : (h : List Entry) → len (registry_of h) ≡ len (mentions_of h (registry_of h))
len-reg h = len_first (registry_of h) (mentions_of h (registry_of h)) (λ q. sym (get-said_reg h q))

-- ---- the delta, the overlay and the restriction

pub get-delta : (h : List Entry) (o : ℕ) (q : Key) → get (delta h o) q ≡ last (drop o h) q
get-delta h o q = get-chosen _ q (map key_of (drop o h)) (last_absent q (drop o h))

any_both : (a b : List Key) (q : Key) → list_any (same_key q) (a ++ b) ≡ false → (list_any (same_key q) a ≡ false) × (list_any (same_key q) b ≡ false)
any_both [] b q e = (refl, e)
any_both (k ∷ a) b q e = one (same_key q k) (list_any (same_key q) (a ++ b)) e (any_both a b q)
  where
    one : (t u : Bool) → (t || u) ≡ false → (u ≡ false → (list_any (same_key q) a ≡ false) × (list_any (same_key q) b ≡ false)) → ((t || list_any (same_key q) a) ≡ false) × (list_any (same_key q) b ≡ false)
    one true u e ih = cc
    one false u e ih = ih e

-- what an overlay leaves of what is held: what its change of the key puts, where it has one
abbrev pub overlaid_by : Option Row → Option Entry → Option Row
overlaid_by held change = option_map_or (λ e. kept_by e.1 e.0) change held

pub get-overlay : (s : FinMap key_cmp Row) (ms : List Mention) (q : Key) → get (overlay s ms) q ≡ overlaid_by (get s q) (last (known ms) q)
get-overlay s ms q = get-chosen _ q (keys s ++ map key_of (known ms)) (λ e.
    let parts = any_both (keys s) (map key_of (known ms)) q e in
    ap (overlaid_by (get s q)) (last_absent q (known ms) parts.1) ∙ not_there s q parts.0)

abbrev pub asked_of : Selector → Option Row → Option Row
asked_of a o = option_and_then (λ r. cond (asks_for a r) (Some r) None) o

pub get-restrict : (s : FinMap key_cmp Row) (a : Selector) (q : Key) → get (restrict s a) q ≡ option_and_then (λ r. cond (asks_for a r) (Some r) None) (get s q)
get-restrict s a q = get-chosen _ q (keys s) (λ e. ap (asked_of a) (not_there s q e))
