-- The mentions of the records that a query asks for.
use Rattle.std.proofs.Common.{◌≡◌, Bool, true, false, cond, T, List, [], ◌∷◌, map, filter, length, Option, Some, None, option_and_then, is_some, refl, sym, ap, subst, ◌∙◌}
use Rattle.std.specs.List.{filter_map}
use Rattle.std.proofs.lemmas.Option.{same_Some}
use Rattle.std.specs.Option.{option_or}
use Rattle.std.specs.FinMap.{FinMap, get, keys, values, len, entries, entries_sorted, same_map, contains_key-keys, from_sorted, entries-from_sorted, get-from_sorted, get-entries, len-entries}
use Rattle.std.specs.FinMap.Entries.{is_sorted, find}
use Rattle.std.proofs.lemmas.List.{length-map}
use Rattle.disco_values.specs.Key.{key_cmp, same_key}
use Rattle.disco_instance.specs.Row.{Row}
use Rattle.disco_values.specs.declared.action.Action.{Action}
use Rattle.disco_values.specs.declared.action.Action.TheVariants.{Added, Modified, Deleted}
use Rattle.disco_values.specs.declared.key.Key.{Key}
use Rattle.disco_history.specs.Change.{Entry, key_of, last}
use Rattle.disco_history.specs.Query.{Selector, all, of_key, asks_for, restrict}
use Rattle.disco_history.specs.Registry.{put_of, registry_of, mentions_of}
use Rattle.disco_history.proofs.Keys.{keys_total, exact_keys, get-chosen_in, same_is}
use Rattle.disco_history.proofs.Sets.{asked_of, entries_first, first_of, get-reg, get-restrict, get-said, get-said_reg, len_first, records, values_first}
use Rattle.disco_history.proofs.Sorted.{found_passing, find_passing, if_passes, passing, sorted_passing, values_passing}

abbrev pub is_asked : Selector → Entry → Bool
is_asked a e = asks_for a e.0

-- ---- what they have at a key

get-said_of : (h : List Entry) (s : FinMap key_cmp Row) (q : Key) → get (mentions_of h s) q ≡ cond (is_some (get s q)) (option_and_then put_of (last h q)) None
get-said_of h s q = get-chosen_in _ q (keys s) ∙ ap (λ b. cond b (option_and_then put_of (last h q)) None) (sym (contains_key-keys s q))

kept_if : (a : Selector) (o : Option Entry) → cond (is_some (asked_of a (first_of o))) o None ≡ if_passes (is_asked a) o
kept_if a None = refl
kept_if a (Some e) = one (asks_for a e.0)
  where
    one : (b : Bool) → cond (is_some (cond b (Some e.0) None)) (Some e) None ≡ cond b (Some e) None
    one true = refl
    one false = refl

pub get-said_restrict : (h : List Entry) (a : Selector) (q : Key) → get (mentions_of h (restrict (registry_of h) a)) q ≡ if_passes (is_asked a) (get (mentions_of h (registry_of h)) q)
get-said_restrict h a q =
    let o = option_and_then put_of (last h q) in
    get-said_of h (restrict (registry_of h) a) q
    ∙ ap (λ r. cond (is_some r) o None) (get-restrict (registry_of h) a q ∙ ap (asked_of a) (get-reg h q))
    ∙ kept_if a o
    ∙ ap (if_passes (is_asked a)) (sym (get-said h q))

asked_first : (a : Selector) (o : Option Entry) → asked_of a (first_of o) ≡ first_of (if_passes (is_asked a) o)
asked_first a None = refl
asked_first a (Some e) = one (asks_for a e.0)
  where
    one : (b : Bool) → cond b (Some e.0) None ≡ first_of (cond b (Some e) None)
    one true = refl
    one false = refl

pub get-first : (h : List Entry) (a : Selector) (q : Key) → get (restrict (registry_of h) a) q ≡ first_of (get (mentions_of h (restrict (registry_of h) a)) q)
get-first h a q =
    get-restrict (registry_of h) a q ∙ ap (asked_of a) (sym (get-said_reg h q)) ∙ asked_first a (get (mentions_of h (registry_of h)) q) ∙ ap first_of (sym (get-said_restrict h a q))

-- ---- as lists

entries-said_restrict : (h : List Entry) (a : Selector) → entries (mentions_of h (restrict (registry_of h) a)) ≡ passing (is_asked a) (entries (mentions_of h (registry_of h)))
entries-said_restrict h a =
    let held = mentions_of h (registry_of h) in
    let es = entries held in
    let sorted : T (is_sorted key_cmp (passing (is_asked a) es)) = sorted_passing (is_asked a) es (entries_sorted held) in
    ap entries (same_map keys_total exact_keys (mentions_of h (restrict (registry_of h) a)) (from_sorted (passing (is_asked a) es)) (λ q.
    get-said_restrict h a q ∙ ap (if_passes (is_asked a)) (get-entries held q) ∙ sym (find_passing (is_asked a) q es (entries_sorted held)) ∙ sym (get-from_sorted key_cmp (passing (is_asked a) es) q sorted)))
    ∙ entries-from_sorted key_cmp (passing (is_asked a) es) sorted

-- the mentions that are asked for are those of all that pass
pub values-said_restrict : (h : List Entry) (a : Selector) → values (mentions_of h (restrict (registry_of h) a)) ≡ filter (is_asked a) (values (mentions_of h (registry_of h)))
values-said_restrict h a = ap (map (λ p. p.1)) (entries-said_restrict h a) ∙ values_passing (is_asked a) (entries (mentions_of h (registry_of h)))

-- the records that are asked for are those of these mentions
pub values-restrict : (h : List Entry) (a : Selector) → values (restrict (registry_of h) a) ≡ map (λ e. e.0) (values (mentions_of h (restrict (registry_of h) a)))
values-restrict h a = values_first (restrict (registry_of h) a) (mentions_of h (restrict (registry_of h) a)) (get-first h a)

pub len-restrict : (h : List Entry) (a : Selector) → len (restrict (registry_of h) a) ≡ length (values (mentions_of h (restrict (registry_of h) a)))
len-restrict h a =
    let t = mentions_of h (restrict (registry_of h) a) in
    len_first (restrict (registry_of h) a) t (get-first h a) ∙ len-entries t ∙ sym (length-map (entries t) (λ (p : Key × Entry). p.1))

all_pass : (es : List Entry) → filter (is_asked all) es ≡ es
all_pass [] = refl
all_pass (e ∷ es) = ap (λ r. e ∷ r) (all_pass es)

pub values-said_all : (h : List Entry) → values (mentions_of h (restrict (registry_of h) all)) ≡ values (mentions_of h (registry_of h))
values-said_all h = values-said_restrict h all ∙ all_pass (values (mentions_of h (registry_of h)))

keys_records : (es : List (Key × Entry)) → map (λ p. p.0) (records es) ≡ map (λ p. p.0) es
keys_records [] = refl
keys_records (e ∷ es) = ap (λ r. e.0 ∷ r) (keys_records es)

-- the keys that are asked for find just these mentions
pub found-restrict : (h : List Entry) (a : Selector) → filter_map (get (mentions_of h (registry_of h))) (keys (restrict (registry_of h) a)) ≡ values (mentions_of h (restrict (registry_of h) a))
found-restrict h a =
    let held = mentions_of h (registry_of h) in
    let es = entries held in
    ap (λ f. filter_map f (keys (restrict (registry_of h) a))) (λ i q. get-entries held q i)
    ∙ ap (filter_map (λ q. find key_cmp q es)) (ap (map (λ p. p.0)) (entries_first (restrict (registry_of h) a) (mentions_of h (restrict (registry_of h) a)) (get-first h a) ∙ ap records (entries-said_restrict h a)) ∙ keys_records (passing (is_asked a) es))
    ∙ found_passing (is_asked a) es (entries_sorted held)
    ∙ ap (map (λ p. p.1)) (sym (entries-said_restrict h a))

-- ---- one key

pub last_key : (h : List Entry) (q : Key) (e : Entry) → last h q ≡ Some e → same_key q (key_of e) ≡ true
last_key [] q e is = absurd (cc)
last_key (x ∷ h) q e is = one (last h q) (same_key q (key_of x)) refl (last_key h q e) is
  where
    one : (o : Option Entry) (b : Bool) → same_key q (key_of x) ≡ b → (o ≡ Some e → same_key q (key_of e) ≡ true) → option_or o (cond b (Some x) None) ≡ Some e → same_key q (key_of e) ≡ true
    one (Some y) b test ih is = ih is
    one None true test ih is = let same : x ≡ e = cc in ap (λ y. same_key q (key_of y)) (sym same) ∙ test
    one None false test ih is = absurd (cc)

put_is : (r : Row) (a : Action) (e : Entry) → put_of (r, a) ≡ Some e → (r, a) ≡ e
put_is r Added e is = same_Some (r, Added) e is
put_is r Modified e is = same_Some (r, Modified) e is
put_is r Deleted e is = absurd (cc)

put_key : (o : Option Entry) (q : Key) (e : Entry) → ((f : Entry) → o ≡ Some f → same_key q (key_of f) ≡ true) → option_and_then put_of o ≡ Some e → same_key q (key_of e) ≡ true
put_key None q e at is = absurd (cc)
put_key (Some f) q e at is = subst (λ (x : Entry). same_key q (key_of x) ≡ true) (put_is f.0 f.1 e is) (at f refl)

-- a mention that is held stands under its own key
pub held_key : (h : List Entry) (q : Key) (e : Entry) → get (mentions_of h (registry_of h)) q ≡ Some e → q ≡ key_of e
held_key h q e is = same_is q (key_of e) (put_key (last h q) q e (last_key h q) (sym (get-said h q) ∙ is))

abbrev pub listed : Option Entry → List Entry
listed None = []
listed (Some e) = e ∷ []

abbrev under : Key → Option Entry → List (Key × Entry)
under k None = []
under k (Some e) = (k, e) ∷ []

sorted_under : (k : Key) (o : Option Entry) → T (is_sorted key_cmp (under k o))
sorted_under k None = tt
sorted_under k (Some e) = tt

values_under : (k : Key) (o : Option Entry) → map (λ p. p.1) (under k o) ≡ listed o
values_under k None = refl
values_under k (Some e) = refl

not_under : (q k : Key) (o : Option Entry) → same_key q k ≡ false → find key_cmp q (under k o) ≡ None
not_under q k None e = refl
not_under q k (Some x) e = ap (λ b. cond b (Some x) None) e

module _ (h : List Entry) (k q : Key) where
  abbrev held : FinMap key_cmp Entry
  held = mentions_of h (registry_of h)

  absent_at : (b : Bool) → same_key q k ≡ b → get held q ≡ None → find key_cmp q (under k (get held k)) ≡ None
  absent_at true e none = ap (λ o. find key_cmp q (under k o)) (ap (get held) (sym (same_is q k e)) ∙ none)
  absent_at false e none = not_under q k (get held k) e

  there_at : (f : Entry) (b : Bool) → same_key q k ≡ b → get held q ≡ Some f → cond b (Some f) None ≡ find key_cmp q (under k (get held k))
  there_at f true e is = sym (ap (λ o. find key_cmp q (under k o)) (ap (get held) (sym (same_is q k e)) ∙ is) ∙ ap (λ b. cond b (Some f) None) e)
  there_at f false e is = sym (not_under q k (get held k) e)

  at_key : (o : Option Entry) → get held q ≡ o → if_passes (is_asked (of_key k)) o ≡ find key_cmp q (under k (get held k))
  at_key None is = sym (absent_at (same_key q k) refl is)
  at_key (Some f) is = ap (λ x. cond (same_key x k) (Some f) None) (sym (held_key h q f is)) ∙ there_at f (same_key q k) refl is

-- of one key there is one mention at most
pub values-said_key : (h : List Entry) (k : Key) → values (mentions_of h (restrict (registry_of h) (of_key k))) ≡ listed (get (mentions_of h (registry_of h)) k)
values-said_key h k =
    let o = get (mentions_of h (registry_of h)) k in
    ap (map (λ p. p.1)) (ap entries (same_map keys_total exact_keys (mentions_of h (restrict (registry_of h) (of_key k))) (from_sorted (under k o)) (λ q.
    get-said_restrict h (of_key k) q ∙ at_key h k q (get (mentions_of h (registry_of h)) q) refl ∙ sym (get-from_sorted key_cmp (under k o) q (sorted_under k o))))
    ∙ entries-from_sorted key_cmp (under k o) (sorted_under k o))
    ∙ values_under k o
