-- The records of the places, app by app.
use Rattle.std.proofs.Common.{◌≡◌, ℕ, Bool, true, false, cond, List, [], ◌∷◌, ◌++◌, filter, map, Option, Some, None, IfSome, option_map, refl, sym, ap, subst, ◌∙◌}
use Rattle.std.proofs.lemmas.List.{append-nil}
use Rattle.std.proofs.lemmas.List.Elements.{filter-append, filter_map-append}
use Rattle.std.proofs.lemmas.List.Folds.{find-append}
use Rattle.std.proofs.lemmas.Map.Keys.{sorted_head, sorted_tail}
use Rattle.std.proofs.lemmas.Map.Text.{is_eq-slice_cmp}
use Rattle.std.specs.Cmp.Lexicographic.{nat_list_eq_equiv}
use Rattle.std.specs.FinMap.{FinMap, entries, entries_sorted, get, get-entries, values}
use Rattle.std.specs.FinMap.Entries as found
use Rattle.std.specs.List.{AllByRecursion, cons_option, filter_map, find}
use Rattle.std.specs.List.Sorted.{IsStrictlySortedBy}
use Rattle.std.specs.Map.{keys_of}
use Rattle.std.specs.Option.{option_flatten, option_or}
use Rattle.std.specs.Ordering.{is_eq}
use Rattle.std.specs.Str.{bytes_eq}
use Rattle.std.specs.declared.cmp.Ordering.TheVariants.{Less}
use Rattle.disco_values.specs.Key.{key_cmp}
use Rattle.disco_values.specs.declared.key.Key.{Key}
use Rattle.disco_history.specs.Apps.{is_of_app, is_of_id}
use Rattle.disco_history.specs.Change.{Entry}
use Rattle.disco_history.specs.Held.{entry_of}
use Rattle.disco_history.specs.declared.held.Held.{Held}
use Rattle.disco_history.proofs.PlaceLemmas.{values_filled}
use Rattle.disco_history.proofs.Sorted.{Own, own}
use Rattle.disco_places.specs.KeyMaps.{ById, of_app, of_apps, text_cmp}
use Rattle.disco_places.proofs.Stored.{at_text, get_at, ids_sorted, text_is}
use Rattle.disco_registry.specs.Records.{AreInPlace, AreKeyed, AreKeyedById, key_of_held, mentions_held}

abbrev Entries : Type 0
Entries = List (Key × Option Held)

abbrev IdEntries : Type 0
IdEntries = List (List ℕ × Option Held)

abbrev Apps : Type 0
Apps = List (List ℕ × ById (Option Held))

-- what is shown of places by key, and of places by id
abbrev pub shown : Entries → List Entry
shown es = filter_map (λ (e : Key × Option Held). option_map entry_of e.1) es

abbrev pub shown_in : IdEntries → List Entry
shown_in es = filter_map (λ (e : List ℕ × Option Held). option_map entry_of e.1) es

abbrev keyed : List ℕ → IdEntries → Entries
keyed a es = map (λ (e : List ℕ × Option Held). (record { app = a; id = e.0 }, e.1)) es

shown_keyed : (a : List ℕ) (es : IdEntries) → shown (keyed a es) ≡ shown_in es
shown_keyed a [] = refl
shown_keyed a (e ∷ es) = ap (cons_option (option_map entry_of e.1)) (shown_keyed a es)

-- first come the records of the first app
shown_first : (e : List ℕ × ById (Option Held)) (es : Apps) → shown (of_apps (e ∷ es)) ≡ shown_in (entries e.1) ++ shown (of_apps es)
shown_first e es = filter_map-append (λ (x : Key × Option Held). option_map entry_of x.1) (of_app e) (of_apps es) ∙ ap (λ xs. xs ++ shown (of_apps es)) (shown_keyed e.0 (entries e.1))

-- all that the places of the apps show is held
pub all_shown : (p : FinMap key_cmp (Option Held)) (es : Apps) → of_apps es ≡ entries p → shown (of_apps es) ≡ values (mentions_held p)
all_shown p es is = ap shown is ∙ sym (values_filled entry_of p)

-- ---- the first record that passes a test

find_first : (P : Entry → Bool) (e : List ℕ × ById (Option Held)) (es : Apps) → find P (shown (of_apps (e ∷ es))) ≡ option_or (find P (shown_in (entries e.1))) (find P (shown (of_apps es)))
find_first P e es = ap (find P) (shown_first e es) ∙ find-append P (shown_in (entries e.1)) (shown (of_apps es))

pub found_here : (P : Entry → Bool) (x : Entry) (e : List ℕ × ById (Option Held)) (es : Apps) → Some x ≡ find P (shown_in (entries e.1)) → Some x ≡ find P (shown (of_apps (e ∷ es)))
found_here P x e es is = ap (λ o. option_or o (find P (shown (of_apps es)))) is ∙ sym (find_first P e es)

pub found_later : (P : Entry → Bool) (e : List ℕ × ById (Option Held)) (es : Apps) → None ≡ find P (shown_in (entries e.1)) → find P (shown (of_apps es)) ≡ find P (shown (of_apps (e ∷ es)))
found_later P e es none = ap (λ o. option_or o (find P (shown (of_apps es)))) none ∙ sym (find_first P e es)

-- ---- the records of an app

-- each record stands under its key
keyed_entries : (f : Key → Option (Option Held)) (es : Entries) → Own f es → ((q : Key) (h : Held) → f q ≡ Some (Some h) → key_of_held h ≡ q) → AreKeyed es
keyed_entries f [] own each = tt
keyed_entries f (e ∷ es) own each = (one e.1 own.0, keyed_entries f es own.1 each)
  where
    one : (o : Option Held) → f e.0 ≡ Some o → IfSome o (λ h. key_of_held h ≡ e.0)
    one None is = tt
    one (Some h) is = each e.0 h is

-- of one app's places either all records are of an app, or none is
of_one : (a b : List ℕ) (es : IdEntries) (fs : Entries) → AreKeyed (keyed b es ++ fs) → filter (is_of_app a) (shown (keyed b es)) ≡ cond (bytes_eq b a) (shown_in es) []
of_one a b [] fs each = either_way (bytes_eq b a) []
  where
    either_way : (t : Bool) (xs : List Entry) → xs ≡ cond t xs xs
    either_way true xs = refl
    either_way false xs = refl
of_one a b (e ∷ es) fs each = one e.1 each.0 (of_one a b es fs each.1)
  where
    rest : List Entry
    rest = filter (is_of_app a) (shown (keyed b es))

    grown : (t : Bool) (x : Entry) (xs ys : List Entry) → xs ≡ cond t ys [] → cond t (x ∷ xs) xs ≡ cond t (x ∷ ys) []
    grown true x xs ys is = ap (λ r. x ∷ r) is
    grown false x xs ys is = is

    one : (o : Option Held) → IfSome o (λ h. key_of_held h ≡ record { app = b; id = e.0 }) → rest ≡ cond (bytes_eq b a) (shown_in es) []
        → filter (is_of_app a) (cons_option (option_map entry_of o) (shown (keyed b es))) ≡ cond (bytes_eq b a) (cons_option (option_map entry_of o) (shown_in es)) []
    one None key ih = ih
    one (Some h) key ih = ap (λ (k : Key). cond (bytes_eq k.app a) (entry_of h ∷ rest) rest) key ∙ grown (bytes_eq b a) (entry_of h) rest (shown_in es) ih

keyed_later : (es fs : Entries) → AreKeyed (es ++ fs) → AreKeyed fs
keyed_later [] fs each = each
keyed_later (e ∷ es) fs each = keyed_later es fs each.1

none_above : {X : Type 0} (a : List ℕ) (es : List (List ℕ × X)) → AllByRecursion (λ b. text_cmp a b ≡ Less) (keys_of es) → at_text es a ≡ None
none_above a [] h = refl
none_above a (e ∷ es) h = ap (λ o. cond (is_eq o) (Some e.1) (at_text es a)) h.0 ∙ none_above a es h.1

-- what the places of an app show, if there are any
abbrev pub shown_of : Option (ById (Option Held)) → List Entry
shown_of None = []
shown_of (Some m) = shown_in (entries m)

in_app : (a : List ℕ) (es : Apps) → IsStrictlySortedBy text_cmp (keys_of es) → AreKeyed (of_apps es) → shown_of (at_text es a) ≡ filter (is_of_app a) (shown (of_apps es))
in_app a [] sorted each = refl
in_app a (e ∷ es) sorted each =
    by (is_eq (text_cmp a e.0)) refl (in_app a es (sorted_tail text_cmp e.0 (keys_of es) sorted) (keyed_later (of_app e) (of_apps es) each))
    ∙ ap (λ t. cond t (shown_in (entries e.1)) [] ++ rest) (is_eq-slice_cmp a e.0 ∙ nat_list_eq_equiv.symm a e.0)
    ∙ ap (λ xs. xs ++ rest) (sym (of_one a e.0 (entries e.1) (of_apps es) each) ∙ ap (filter (is_of_app a)) (shown_keyed e.0 (entries e.1)))
    ∙ sym (filter-append (is_of_app a) (shown_in (entries e.1)) (shown (of_apps es)))
    ∙ ap (filter (is_of_app a)) (sym (shown_first e es))
  where
    rest : List Entry
    rest = filter (is_of_app a) (shown (of_apps es))

    by : (t : Bool) → is_eq (text_cmp a e.0) ≡ t → shown_of (at_text es a) ≡ rest → shown_of (cond t (Some e.1) (at_text es a)) ≡ cond t (shown_in (entries e.1)) [] ++ rest
    by true is later =
        sym (append-nil (shown_in (entries e.1)))
        ∙ ap (λ xs. shown_in (entries e.1) ++ xs) (sym (ap shown_of (ap (at_text es) (text_is a e.0 is) ∙ none_above e.0 es (sorted_head text_cmp e.0 (keys_of es) sorted))) ∙ later)
    by false is later = later

-- the places of what is held stand under the keys of their records
pub all_keyed : (p : FinMap key_cmp (Option Held)) (next last : Option Held) (es : Apps) → AreInPlace p next last → of_apps es ≡ entries p → AreKeyed (of_apps es)
all_keyed p next last es placed is =
    subst AreKeyed (sym is) (keyed_entries (λ q. found.find key_cmp q (entries p)) (entries p) (own (entries p) (entries_sorted p)) (λ q h there. placed.keyed q h (get-entries p q ∙ there)))

-- what the places of an app show is what is held of it
pub app_shown : (p : FinMap key_cmp (Option Held)) (next last : Option Held) (a : List ℕ) (es : Apps) → AreInPlace p next last → IsStrictlySortedBy text_cmp (keys_of es) → of_apps es ≡ entries p
    → shown_of (at_text es a) ≡ filter (is_of_app a) (values (mentions_held p))
app_shown p next last a es placed sorted is =
    in_app a es sorted (all_keyed p next last es placed is) ∙ ap (filter (is_of_app a)) (all_shown p es is)

-- ---- the record under an id

ids_keyed : (a : List ℕ) (es : IdEntries) (fs : Entries) → AreKeyed (keyed a es ++ fs) → AreKeyedById es
ids_keyed a [] fs each = tt
ids_keyed a (e ∷ es) fs each = (one e.1 each.0, ids_keyed a es fs each.1)
  where
    one : (o : Option Held) → IfSome o (λ h. key_of_held h ≡ record { app = a; id = e.0 }) → IfSome o (λ h. (key_of_held h).id ≡ e.0)
    one None key = tt
    one (Some h) key = ap (λ (k : Key). k.id) key

pub first_keyed : (e : List ℕ × ById (Option Held)) (es : Apps) → AreKeyed (of_apps (e ∷ es)) → AreKeyedById (entries e.1)
first_keyed e es each = ids_keyed e.0 (entries e.1) (of_apps es) each

pub others_keyed : (e : List ℕ × ById (Option Held)) (es : Apps) → AreKeyed (of_apps (e ∷ es)) → AreKeyed (of_apps es)
others_keyed e es each = keyed_later (of_app e) (of_apps es) each

-- what stands under an id of one app is the first record that shows it
under_entries : (id : List ℕ) (es : IdEntries) → IsStrictlySortedBy text_cmp (keys_of es) → AreKeyedById es → option_map entry_of (option_flatten (at_text es id)) ≡ find (is_of_id id) (shown_in es)
under_entries id [] sorted each = refl
under_entries id (e ∷ es) sorted each = by (is_eq (text_cmp id e.0)) refl e.1 each.0 (under_entries id es (sorted_tail text_cmp e.0 (keys_of es) sorted) each.1)
  where
    rest : Option Entry
    rest = find (is_of_id id) (shown_in es)

    test : (h : Held) (t : Bool) → is_eq (text_cmp id e.0) ≡ t → (key_of_held h).id ≡ e.0 → cond (is_of_id id (entry_of h)) (Some (entry_of h)) rest ≡ cond t (Some (entry_of h)) rest
    test h t is key = ap (λ b. cond b (Some (entry_of h)) rest) (ap (λ x. bytes_eq x id) key ∙ sym (is_eq-slice_cmp id e.0 ∙ nat_list_eq_equiv.symm id e.0) ∙ is)

    none_left : is_eq (text_cmp id e.0) ≡ true → at_text es id ≡ None
    none_left is = ap (at_text es) (text_is id e.0 is) ∙ none_above e.0 es (sorted_head text_cmp e.0 (keys_of es) sorted)

    by : (t : Bool) → is_eq (text_cmp id e.0) ≡ t → (o : Option Held) → IfSome o (λ h. (key_of_held h).id ≡ e.0) → option_map entry_of (option_flatten (at_text es id)) ≡ rest
        → option_map entry_of (option_flatten (cond t (Some o) (at_text es id))) ≡ find (is_of_id id) (cons_option (option_map entry_of o) (shown_in es))
    by true is None key later = sym (ap (λ (o : Option (Option Held)). option_map entry_of (option_flatten o)) (none_left is)) ∙ later
    by false is None key later = later
    by true is (Some h) key later = sym (test h true is key)
    by false is (Some h) key later = later ∙ sym (test h false is key)

pub under_id : (id : List ℕ) (m : ById (Option Held)) → AreKeyedById (entries m) → option_map entry_of (option_flatten (get m id)) ≡ find (is_of_id id) (shown_in (entries m))
under_id id m each = ap (λ (o : Option (Option Held)). option_map entry_of (option_flatten o)) (get_at m id) ∙ under_entries id (entries m) (ids_sorted m) each
