-- What a client makes of the documents of a registry.
use Rattle.std.proofs.Common.{◌≡◌, ℕ, Bool, true, false, cond, T, List, [], ◌∷◌, map, take, drop, Option, Some, None, option_map, option_and_then, refl, sym, ap, subst, ◌∙◌}
use Rattle.std.specs.Option.{option_or}
use Rattle.std.specs.List.{AllByRecursion}
use Rattle.std.specs.FinMap.{FinMap, entries, get, values, get-entries, entries_sorted, same_map}
use Rattle.std.specs.FinMap.Entries.{is_sorted, below_all, find}
use Rattle.disco_values.specs.Key.{key_cmp, same_key}
use Rattle.disco_instance.specs.Row.{Row}
use Rattle.disco_values.specs.declared.action.Action.TheVariants.{Added, Modified, Deleted}
use Rattle.disco_values.specs.declared.key.Key.{Key}
use Rattle.disco_history.specs.Change.{Entry, prefix, key_of, last}
use Rattle.disco_history.specs.Laws.{CopyLaw, OverlayLaw}
use Rattle.disco_history.specs.Mentions.{delta, known, mention_of}
use Rattle.disco_history.specs.Registry.{put_of, registry_of, mentions_of}
use Rattle.disco_history.proofs.Keys.{keys_total, exact_keys, same_is}
use Rattle.disco_history.proofs.Lasts.{last_by_parts, last_mapped, last_of_front}
use Rattle.disco_history.proofs.Restrictions.{held_key, last_key}
use Rattle.disco_history.proofs.Sets.{first_of, get-delta, get-overlay, get-reg, get-said_reg, overlaid_by}
use Rattle.disco_history.proofs.Sorted.{Own, own, none_below, both_first, both_second}

-- all of a map's mentions say what was done
pub known_all : (es : List Entry) → known (map mention_of es) ≡ es
known_all [] = refl
known_all (e ∷ es) = ap (λ r. e ∷ r) (known_all es)

-- ---- each key's last entry is its only one

abbrev Keyed : List (Key × Entry) → Type 0
Keyed es = AllByRecursion (λ p. p.0 ≡ key_of p.1) es

one_last : (e : Entry) (b : Bool) (o p : Option Entry) → o ≡ p → (b ≡ true → p ≡ None) → option_or o (cond b (Some e) None) ≡ cond b (Some e) p
one_last e true o p same none = ap (λ x. option_or x (Some e)) (same ∙ none refl)
one_last e false o p same none = or_none o ∙ same
  where
    or_none : (o : Option Entry) → option_or o None ≡ o
    or_none None = refl
    or_none (Some x) = refl

last_found : (es : List (Key × Entry)) (q : Key) → T (is_sorted key_cmp es) → Keyed es → last (map (λ p. p.1) es) q ≡ find key_cmp q es
last_found [] q sorted keyed = refl
last_found (p ∷ es) q sorted keyed =
    ap (λ k. option_or (last (map (λ p. p.1) es) q) (cond (same_key q k) (Some p.1) None)) (sym keyed.0)
    ∙ one_last p.1 (same_key q p.0) (last (map (λ p. p.1) es) q) (find key_cmp q es) (last_found es q (both_second _ _ sorted) keyed.1)
    (λ tied. none_below q es (subst (λ k. T (below_all key_cmp k es)) (sym (same_is q p.0 tied)) (both_first _ _ sorted)))

-- each entry that is found is of its key
abbrev KeepsKeys : FinMap key_cmp Entry → Type 0
KeepsKeys m = (q : Key) (e : Entry) → get m q ≡ Some e → q ≡ key_of e

keyed_by : (m : FinMap key_cmp Entry) → KeepsKeys m → (es : List (Key × Entry)) → Own (get m) es → Keyed es
keyed_by m keeps [] own = tt
keyed_by m keeps (p ∷ es) own = (keeps p.0 p.1 own.0, keyed_by m keeps es own.1)

found_own : (m : FinMap key_cmp Entry) (es : List (Key × Entry)) → Own (λ q. find key_cmp q (entries m)) es → Own (get m) es
found_own m [] own = tt
found_own m (p ∷ es) own = (get-entries m p.0 ∙ own.0, found_own m es own.1)

pub last_value : (m : FinMap key_cmp Entry) → KeepsKeys m → (q : Key) → last (values m) q ≡ get m q
last_value m keeps q =
    last_found (entries m) q (entries_sorted m) (keyed_by m keeps (entries m) (found_own m (entries m) (own (entries m) (entries_sorted m))))
    ∙ sym (get-entries m q)

-- ---- the overlay

delta_key : (h : List Entry) (o : ℕ) → KeepsKeys (delta h o)
delta_key h o q e is = same_is q (key_of e) (last_key (drop o h) q e (sym (get-delta h o q) ∙ is))

-- what a change put, it puts again
put_again : (r : Row) (x : Option Row) (e : Entry) → overlaid_by x (Some e) ≡ option_map (λ e. e.0) (option_and_then put_of (Some e))
put_again r x (s, Added) = refl
put_again r x (s, Modified) = refl
put_again r x (s, Deleted) = refl

pub overlay_law : OverlayLaw
overlay_law h o a le inside = same_map keys_total exact_keys _ _ (λ q.
    get-overlay (registry_of (prefix h a)) (map mention_of (values (delta h o))) q
    ∙ ap (λ es. overlaid_by (get (registry_of (prefix h a)) q) (last es q)) (known_all (values (delta h o)))
    ∙ ap (overlaid_by (get (registry_of (prefix h a)) q)) (last_value (delta h o) (delta_key h o) q ∙ get-delta h o q)
    ∙ ap (λ x. overlaid_by x (last (drop o h) q)) (get-reg (prefix h a) q)
    ∙ cases q (last (drop o h) q) refl
    ∙ ap left (sym (last_by_parts h o q))
    ∙ sym (get-reg h q))
  where
    left : Option Entry → Option Row
    left e = option_map (λ e. e.0) (option_and_then put_of e)

    cases : (q : Key) (new : Option Entry) → last (drop o h) q ≡ new → overlaid_by (left (last (prefix h a) q)) new ≡ left (option_or new (last (take o h) q))
    cases q (Some e) is = put_again e.0 (left (last (prefix h a) q)) e
    cases q None is = ap left (last_of_front h o a q le is ∙ last_by_parts h o q ∙ ap (λ x. option_or x (last (take o h) q)) is)

-- ---- a full document

abbrev as_added : Entry → Entry
as_added e = (e.0, Added)

added_all : (es : List Entry) → map (λ m. (m.0, Added)) (map mention_of es) ≡ map as_added es
added_all [] = refl
added_all (e ∷ es) = ap (λ r. as_added e ∷ r) (added_all es)

put_added : (o : Option Entry) → option_map (λ e. e.0) (option_and_then put_of (option_map as_added o)) ≡ first_of o
put_added None = refl
put_added (Some e) = refl

pub copy_law : CopyLaw
copy_law h = same_map keys_total exact_keys _ _ (λ q.
    let es = values (mentions_of h (registry_of h)) in
    get-reg (map (λ m. (m.0, Added)) (map mention_of es)) q
    ∙ ap (λ xs. option_map (λ e. e.0) (option_and_then put_of (last xs q))) (added_all es)
    ∙ ap (λ x. option_map (λ e. e.0) (option_and_then put_of x)) (last_mapped as_added (λ e. refl) es q)
    ∙ put_added (last es q)
    ∙ ap first_of (last_value (mentions_of h (registry_of h)) (held_key h) q)
    ∙ get-said_reg h q)
