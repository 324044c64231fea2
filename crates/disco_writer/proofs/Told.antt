-- The texts that a document is joined of are those of its instances.
use Rattle.std.proofs.Common.{◌≡◌, ℕ, Bool, true, false, cond, List, [], ◌∷◌, drop, map, filter, IfSome, Option, Some, None, refl, sym, ap, subst, ◌∙◌}
use Rattle.std.specs.List.{AllByRecursion, cons_option, filter_map}
use Rattle.std.specs.FinMap.{FinMap, entries, entries_sorted, find, get, get-entries, values}
use Rattle.disco_values.specs.Key.{key_cmp}
use Rattle.disco_values.specs.declared.form.Form.{Form}
use Rattle.disco_values.specs.declared.key.Key.{Key}
use Rattle.disco_history.specs.Change.{Entry, key_of}
use Rattle.disco_history.specs.Mentions.{delta, mention_of}
use Rattle.disco_history.specs.Registry.{put_of, registry_of, mentions_of}
use Rattle.disco_history.proofs.Restrictions.{held_key, last_key}
use Rattle.disco_history.proofs.Keys.{same_is}
use Rattle.disco_history.proofs.Sets.{get-delta}
use Rattle.disco_history.proofs.Sorted.{Own, own}
use Rattle.disco_values.specs.declared.action.Action.TheVariants.{Added, Modified, Deleted}
use Rattle.disco_writer.specs.Joined.{Agrees, AllAgree, AreTextsOf, AreJoinedTexts, texts_by}
use Rattle.disco_writer.specs.Kept.{AreKept, AreTied, IsTextOf, StoredTexts, kept_text_at}
use Rattle.disco_writer.proofs.KeptLaws.{delta_kept_law}

-- where the texts that are to come are told, all are
abbrev pub AreSoFar : Form → StoredTexts → List Entry → List Entry → Type 0
AreSoFar f v rest all = AreJoinedTexts f v rest → AreJoinedTexts f v all

pub told_are : (f : Form) (v : StoredTexts) (es : List Entry) → AreJoinedTexts f v es → AllAgree f v es → AreTextsOf f (texts_by f v es) es
told_are f v [] told agree = tt
told_are f v (e ∷ es) told agree = (refl, told.0 agree.0, told_are f v es told.1 agree.1)

-- ---- kept texts agree with what is held

tied_agrees : (f : Form) (o : Option (List ℕ)) (e : Entry) → AreTied f o (Some e) → IfSome o (λ t. IsTextOf f t (mention_of e))
tied_agrees f None e tied = tt
tied_agrees f (Some t) e tied = tied

-- the registry has each of them
abbrev pub AreHeld : FinMap key_cmp Entry → List Entry → Type 0
AreHeld m es = AllByRecursion (λ e. get m (key_of e) ≡ Some e) es

pub one_agrees : (f : Form) (v : StoredTexts) (m : FinMap key_cmp Entry) (e : Entry) → AreKept f v m → get m (key_of e) ≡ Some e → Agrees f v e
one_agrees f v m e kept there = tied_agrees f (kept_text_at v (key_of e)) e (subst (λ (o : Option Entry). AreTied f (kept_text_at v (key_of e)) o) there (kept (key_of e)))

pub held_agree : (f : Form) (v : StoredTexts) (m : FinMap key_cmp Entry) (es : List Entry) → AreKept f v m → AreHeld m es → AllAgree f v es
held_agree f v m [] kept held = tt
held_agree f v m (e ∷ es) kept held = (one_agrees f v m e kept held.0, held_agree f v m es kept held.1)

pub owned : (m : FinMap key_cmp Entry) (es : List (Key × Entry)) → Own (λ q. find key_cmp q (entries m)) es → Own (get m) es
owned m [] all = tt
owned m (p ∷ es) all = (get-entries m p.0 ∙ all.0, owned m es all.1)

values_owned : (h : List Entry) (m : FinMap key_cmp Entry) → m ≡ mentions_of h (registry_of h) → (es : List (Key × Entry)) → Own (get m) es → AreHeld m (map (λ p. p.1) es)
values_owned h m stands [] all = tt
values_owned h m stands (p ∷ es) all =
    let key : p.0 ≡ key_of p.1 = held_key h p.0 p.1 (ap (λ (n : FinMap key_cmp Entry). get n p.0) (sym stands) ∙ all.0) in
    (subst (λ (k : Key). get m k ≡ Some p.1) key all.0, values_owned h m stands es all.1)

-- all that it holds
pub values_held : (h : List Entry) (m : FinMap key_cmp Entry) → m ≡ mentions_of h (registry_of h) → AreHeld m (values m)
values_held h m stands = values_owned h m stands (entries m) (owned m (entries m) (own (entries m) (entries_sorted m)))

-- those of them that pass a test
pub passing_held : (P : Entry → Bool) (m : FinMap key_cmp Entry) (es : List Entry) → AreHeld m es → AreHeld m (filter P es)
passing_held P m [] all = tt
passing_held P m (e ∷ es) all = one (P e) (passing_held P m es all.1)
  where
    one : (b : Bool) → AreHeld m (filter P es) → AreHeld m (cond b (e ∷ filter P es) (filter P es))
    one true rest = (all.0, rest)
    one false rest = rest

-- what it has at some keys
pub found_held : (h : List Entry) (m : FinMap key_cmp Entry) → m ≡ mentions_of h (registry_of h) → (ks : List Key) → AreHeld m (filter_map (get m) ks)
found_held h m stands [] = tt
found_held h m stands (k ∷ ks) = one (get m k) refl (found_held h m stands ks)
  where
    one : (o : Option Entry) → get m k ≡ o → AreHeld m (filter_map (get m) ks) → AreHeld m (cons_option o (filter_map (get m) ks))
    one None is rest = rest
    one (Some e) is rest =
        let key : k ≡ key_of e = held_key h k e (ap (λ (n : FinMap key_cmp Entry). get n k) (sym stands) ∙ is) in
        (subst (λ (q : Key). get m q ≡ Some e) key is, rest)

-- ---- and with what a delta tells

went_or_put : (f : Form) (o : Option (List ℕ)) (e : Entry) → AreTied f o (put_of e) → IfSome o (λ t. IsTextOf f t (mention_of e))
went_or_put f None e tied = tt
went_or_put f (Some t) (r, Added) tied = tied
went_or_put f (Some t) (r, Modified) tied = tied
went_or_put f (Some t) (r, Deleted) tied = absurd tied

delta_agrees : (f : Form) (v : StoredTexts) (h : List Entry) (base : ℕ) → AreKept f v (mentions_of h (registry_of h)) → (es : List (Key × Entry)) → Own (get (delta h base)) es → AllAgree f v (map (λ p. p.1) es)
delta_agrees f v h base kept [] all = tt
delta_agrees f v h base kept (p ∷ es) all =
    let key : p.0 ≡ key_of p.1 = same_is p.0 (key_of p.1) (last_key (drop base h) p.0 p.1 (sym (get-delta h base p.0) ∙ all.0)) in (
      went_or_put f (kept_text_at v (key_of p.1)) p.1 (subst (λ (k : Key). AreTied f (kept_text_at v k) (put_of p.1)) key (delta_kept_law f v h base p.0 p.1 kept all.0)),
      delta_agrees f v h base kept es all.1,
    )

pub delta_agree : (f : Form) (v : StoredTexts) (h : List Entry) (base : ℕ) → AreKept f v (mentions_of h (registry_of h)) → AllAgree f v (values (delta h base))
delta_agree f v h base kept =
    let m = delta h base in
    delta_agrees f v h base kept (entries m) (owned m (entries m) (own (entries m) (entries_sorted m)))
