-- The keys of entries in order, and of those that are true.
use Rattle.std.proofs.Common.{◌≡◌, Bool, true, false, ◌&&◌, cond, T, List, [], ◌∷◌, map, filter, Option, Some, None, refl, sym, ap, subst, ◌∙◌}
use Rattle.std.specs.FinMap.{FinMap, entries, entries_sorted, get, get-entries}
use Rattle.std.specs.FinMap.Entries.{below_all, find, is_sorted, same_entries}
use Rattle.std.specs.List.{AllByRecursion}
use Rattle.std.specs.Option.{unwrap_or, is_some}
use Rattle.std.specs.Ordering.{is_eq, is_lt}
use Rattle.std.specs.Cmp.{tied_itself}
use Rattle.disco_values.specs.Key.{key_cmp, same_key}
use Rattle.disco_values.specs.declared.key.Key.{Key}
use Rattle.disco_history.proofs.Keys.{keys_total, exact_keys, same_key-sym}
use Rattle.disco_history.proofs.Sorted.{both_first, both_second, is_less}

-- ---- two lists in order with the same keys

-- the keys alone
abbrev marks : {X : Type 0} → List (Key × X) → List (Key × Bool)
marks = map (λ e. (e.0, true))

below_marks : {X : Type 0} (k : Key) (es : List (Key × X)) → below_all key_cmp k (marks es) ≡ below_all key_cmp k es
below_marks k [] = refl
below_marks k (e ∷ es) = ap (λ b. is_lt (key_cmp k e.0) && b) (below_marks k es)

sorted_marks : {X : Type 0} (es : List (Key × X)) → is_sorted key_cmp (marks es) ≡ is_sorted key_cmp es
sorted_marks [] = refl
sorted_marks (e ∷ es) = λ i. below_marks e.0 es i && sorted_marks es i

abbrev mark : Bool → Option Bool
mark b = cond b (Some true) None

one_mark : {X : Type 0} (b : Bool) (x : X) (o : Option X) → cond b (Some true) (mark (is_some o)) ≡ mark (is_some (cond b (Some x) o))
one_mark true x o = refl
one_mark false x o = refl

find_marks : {X : Type 0} (q : Key) (es : List (Key × X)) → find key_cmp q (marks es) ≡ mark (is_some (find key_cmp q es))
find_marks q [] = refl
find_marks q (e ∷ es) = ap (cond (same_key q e.0) (Some true)) (find_marks q es) ∙ one_mark (same_key q e.0) e.1 (find key_cmp q es)

keys_marks : {X : Type 0} (es : List (Key × X)) → map (λ e. e.0) (marks es) ≡ map (λ e. e.0) es
keys_marks [] = refl
keys_marks (e ∷ es) = ap (λ ks. e.0 ∷ ks) (keys_marks es)

pub same_keys : {X Y : Type 0} (es : List (Key × X)) (fs : List (Key × Y)) → T (is_sorted key_cmp es) → T (is_sorted key_cmp fs)
    → ((q : Key) → is_some (find key_cmp q es) ≡ is_some (find key_cmp q fs)) → map (λ e. e.0) es ≡ map (λ e. e.0) fs
same_keys es fs h g same =
    sym (keys_marks es)
    ∙ ap (map (λ (e : Key × Bool). e.0)) (same_entries key_cmp keys_total exact_keys (marks es) (marks fs) (subst T (sym (sorted_marks es)) h) (subst T (sym (sorted_marks fs)) g) (λ q. find_marks q es ∙ ap mark (same q) ∙ sym (find_marks q fs)))
    ∙ keys_marks fs

-- ---- the keys whose places are true

pub itself : (k : Key) → same_key k k ≡ true
itself k = ap is_eq (tied_itself keys_total k)

abbrev there_in : List (Key × Bool) → Key → Bool
there_in es k = unwrap_or (find key_cmp k es) false

-- the test says of each entry what stands there
abbrev Agrees : (Key → Bool) → List (Key × Bool) → Type 0
Agrees test es = AllByRecursion (λ (e : Key × Bool). test e.0 ≡ e.1) es

apart : (k : Key) (v : Bool) (es rest : List (Key × Bool)) → T (below_all key_cmp k rest) → Agrees (there_in es) rest → Agrees (there_in ((k, v) ∷ es)) rest
apart k v es [] below h = tt
apart k v es (e ∷ rest) below h =
    let other : same_key e.0 k ≡ false = same_key-sym e.0 k ∙ ap is_eq (is_less (key_cmp k e.0) (both_first _ _ below)) in
    (ap (λ b. unwrap_or (cond b (Some v) (find key_cmp e.0 es)) false) other ∙ h.0, apart k v es rest (both_second _ _ below) h.1)

agrees : (es : List (Key × Bool)) → T (is_sorted key_cmp es) → Agrees (there_in es) es
agrees [] h = tt
agrees (e ∷ es) h = (ap (λ b. unwrap_or (cond b (Some e.1) (find key_cmp e.0 es)) false) (itself e.0), apart e.0 e.1 es es (both_first _ _ h) (agrees es (both_second _ _ h)))

chosen_alike : (test : Key → Bool) (e : Key × Bool) (a b : Bool) (es : List (Key × Bool)) (ks : List Key) → a ≡ b → map (λ (e : Key × Bool). e.0) es ≡ ks → map (λ (e : Key × Bool). e.0) (cond b (e ∷ es) es) ≡ cond a (e.0 ∷ ks) ks
chosen_alike test e true true es ks same rest = ap (λ l. e.0 ∷ l) rest
chosen_alike test e false false es ks same rest = rest
chosen_alike test e true false es ks same rest = absurd (cc)
chosen_alike test e false true es ks same rest = absurd (cc)

by_test : (test : Key → Bool) (es : List (Key × Bool)) → Agrees test es → map (λ (e : Key × Bool). e.0) (filter (λ (e : Key × Bool). e.1) es) ≡ filter test (map (λ (e : Key × Bool). e.0) es)
by_test test [] h = refl
by_test test (e ∷ es) h = chosen_alike test e (test e.0) e.1 (filter (λ (e : Key × Bool). e.1) es) _ h.0 (by_test test es h.1)

pub keys_by_test : (m : FinMap key_cmp Bool) → map (λ (e : Key × Bool). e.0) (filter (λ (e : Key × Bool). e.1) (entries m)) ≡ filter (λ k. unwrap_or (get m k) false) (map (λ (e : Key × Bool). e.0) (entries m))
keys_by_test m = by_test (λ k. unwrap_or (get m k) false) (entries m) (subst (λ (f : Key → Option Bool). Agrees (λ k. unwrap_or (f k) false) (entries m)) (λ i k. sym (get-entries m k) i) (agrees (entries m) (entries_sorted m)))
