-- The kept texts, in the order of their keys, are those of the held instances.
use Rattle.std.proofs.Common.{◌≡◌, ℕ, ◌&&◌, Bool, true, false, cond, T, List, [], ◌∷◌, map, Option, Some, None, option_map, refl, sym, ap, subst, ◌∙◌}
use Rattle.std.specs.List.{cons_option}
use Rattle.std.specs.Ordering.{is_lt}
use Rattle.std.specs.Option.{option_flatten}
use Rattle.std.specs.FinMap.{FinMap, entries, entries_sorted, from_sorted, entries-from_sorted, get, get-entries, get-from_sorted, same_map, values}
use Rattle.std.specs.FinMap.Entries.{below_all, find, is_sorted}
use Rattle.disco_values.specs.Key.{key_cmp, same_key}
use Rattle.disco_values.specs.declared.form.Form.{Form}
use Rattle.disco_values.specs.declared.key.Key.{Key}
use Rattle.disco_history.specs.Change.{Entry, key_of}
use Rattle.disco_history.specs.Mentions.{mention_of}
use Rattle.disco_history.specs.Registry.{registry_of, mentions_of}
use Rattle.disco_history.proofs.Keys.{keys_total, exact_keys}
use Rattle.disco_history.proofs.Restrictions.{held_key}
use Rattle.disco_history.proofs.PlaceLemmas.{find_filled, sorted_filled}
use Rattle.disco_history.proofs.Sorted.{Own, own}
use Rattle.disco_history.specs.Places.{filled}
use Rattle.disco_writer.specs.Joined.{AreTextsOf, Shown, text_of_entry, walked}
use Rattle.disco_writer.specs.Kept.{AreKept, AreTied, IsTextOf, StoredTexts, kept_text_at}
use Rattle.disco_writer.proofs.Told.{owned}

abbrev Text : Type 0
Text = List ℕ

-- ---- the places that don't stand empty

abbrev pub present : List (Key × Option Text) → List (Key × Text)
present es = filled (λ t. t) es

abbrev with_app : Key × Text → Shown
with_app p = (p.0.app, p.1)

walked_present : (es : List (Key × Option Text)) → walked es ≡ map with_app (present es)
walked_present [] = refl
walked_present (e ∷ es) = one e.1 (walked_present es)
  where
    one : (o : Option Text) → walked es ≡ map with_app (present es) → cons_option (option_map (λ t. (e.0.app, t)) o) (walked es) ≡ map with_app (cons_option (option_map (λ t. (e.0, t)) o) (present es))
    one None ih = ih
    one (Some t) ih = ap (λ (r : List Shown). (e.0.app, t) ∷ r) ih

-- ---- the texts of what is held

abbrev texts_of : Form → List (Key × Entry) → List (Key × Text)
texts_of f es = map (λ p. (p.0, text_of_entry f p.1)) es

below_texts : (f : Form) (k : Key) (es : List (Key × Entry)) → below_all key_cmp k (texts_of f es) ≡ below_all key_cmp k es
below_texts f k [] = refl
below_texts f k (e ∷ es) = ap (λ b. is_lt (key_cmp k e.0) && b) (below_texts f k es)

sorted_texts : (f : Form) (es : List (Key × Entry)) → is_sorted key_cmp (texts_of f es) ≡ is_sorted key_cmp es
sorted_texts f [] = refl
sorted_texts f (e ∷ es) = λ i. below_texts f e.0 es i && sorted_texts f es i

find_texts : (f : Form) (q : Key) (es : List (Key × Entry)) → find key_cmp q (texts_of f es) ≡ option_map (text_of_entry f) (find key_cmp q es)
find_texts f q [] = refl
find_texts f q (e ∷ es) = one (same_key q e.0) (find_texts f q es)
  where
    one : (b : Bool) → find key_cmp q (texts_of f es) ≡ option_map (text_of_entry f) (find key_cmp q es) → cond b (Some (text_of_entry f e.1)) (find key_cmp q (texts_of f es)) ≡ option_map (text_of_entry f) (cond b (Some e.1) (find key_cmp q es))
    one true ih = refl
    one false ih = ih

tied_text : (f : Form) (o : Option Text) (p : Option Entry) → AreTied f o p → o ≡ option_map (text_of_entry f) p
tied_text f None None tied = refl
tied_text f None (Some e) tied = absurd tied
tied_text f (Some t) None tied = absurd tied
tied_text f (Some t) (Some e) tied = ap (λ (s : Text). Some s) tied.all

tied_is : (f : Form) (o : Option Text) (e : Entry) → AreTied f o (Some e) → IsTextOf f (text_of_entry f e) (mention_of e)
tied_is f None e tied = absurd tied
tied_is f (Some t) e tied = subst (λ (s : Text). IsTextOf f s (mention_of e)) tied.all tied

pub same_text : (o : Option Text) → option_map (λ t. t) o ≡ o
same_text None = refl
same_text (Some t) = refl

-- what is kept is the text of each that is held
same_texts : (f : Form) (v : StoredTexts) (held : FinMap key_cmp Entry) → AreKept f v held → present (entries v.places) ≡ texts_of f (entries held)
same_texts f v held kept =
    let ps = present (entries v.places) in
    let ts = texts_of f (entries held) in
    let sorted_ps = sorted_filled (λ t. t) (entries v.places) (entries_sorted v.places) in
    let sorted_ts : T (is_sorted key_cmp ts) = subst T (sym (sorted_texts f (entries held))) (entries_sorted held) in
    sym (entries-from_sorted key_cmp ps sorted_ps)
    ∙ ap entries (same_map keys_total exact_keys (from_sorted ps) (from_sorted ts) (λ q.
    get-from_sorted key_cmp ps q sorted_ps ∙ find_filled (λ t. t) q (entries v.places) (entries_sorted v.places) ∙ same_text _ ∙ ap option_flatten (sym (get-entries v.places q)) ∙ tied_text f (kept_text_at v q) (get held q) (kept q)
    ∙ ap (option_map (text_of_entry f)) (get-entries held q) ∙ sym (find_texts f q (entries held)) ∙ sym (get-from_sorted key_cmp ts q sorted_ts)))
    ∙ entries-from_sorted key_cmp ts sorted_ts

each_is : (f : Form) (v : StoredTexts) (h : List Entry) (held : FinMap key_cmp Entry) → held ≡ mentions_of h (registry_of h) → AreKept f v held → (es : List (Key × Entry)) → Own (get held) es → AreTextsOf f (map with_app (texts_of f es)) (map (λ p. p.1) es)
each_is f v h held stands kept [] all = tt
each_is f v h held stands kept (p ∷ es) all =
    let key : p.0 ≡ key_of p.1 = held_key h p.0 p.1 (ap (λ (n : FinMap key_cmp Entry). get n p.0) (sym stands) ∙ all.0) in (
      ap (λ (k : Key). k.app) key,
      tied_is f (kept_text_at v p.0) p.1 (subst (λ (o : Option Entry). AreTied f (kept_text_at v p.0) o) all.0 (kept p.0)),
      each_is f v h held stands kept es all.1,
    )

pub walked_are : (f : Form) (v : StoredTexts) (h : List Entry) (held : FinMap key_cmp Entry) → held ≡ mentions_of h (registry_of h) → AreKept f v held → AreTextsOf f (walked (entries v.places)) (values held)
walked_are f v h held stands kept =
    subst (λ (ps : List Shown). AreTextsOf f ps (values held)) (sym (walked_present (entries v.places) ∙ ap (map with_app) (same_texts f v held kept)))
    (each_is f v h held stands kept (entries held) (owned held (entries held) (own (entries held) (entries_sorted held))))
