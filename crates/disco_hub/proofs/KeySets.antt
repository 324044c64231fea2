-- The keys of a round, and of what was copied in it.
use Rattle.std.proofs.Common.{◌≡◌, ℕ, Bool, true, false, ◌&&◌, ◌||◌, cond, T, List, [], ◌∷◌, ◌++◌, fold, map, length, Option, Some, None, is_some, refl, sym, ap, subst, ◌∙◌, nat_lt}
use Rattle.std.proofs.lemmas.List.{length-map, map-append}
use Rattle.std.proofs.lemmas.List.Folds.{list_any-append}
use Rattle.std.proofs.lemmas.List.Sums.{fold-append}
use Rattle.std.specs.List.{list_any}
use Rattle.std.specs.FinMap.{FinMap, contains_key, contains_key-keys, empty, entries, entries-from_sorted, entries_sorted, find, from_sorted, get, get-entries, get-from_sorted, get-insert, get-remove, insert, is_sorted, keys, len, len-entries, same_map}
use Rattle.std.specs.FinMap.Entries.{below_all}
use Rattle.std.specs.Ordering.{is_lt}
use Rattle.disco_cache.specs.Docs.{Docs}
use Rattle.disco_values.specs.Keys.{doc_cmp, same_doc}
use Rattle.disco_values.specs.declared.doc_key.DocKey.{DocKey}
use Rattle.disco_values.proofs.Orders.{docs_total, exact_docs}
use Rattle.disco_hub.specs.Rounds.{KeySet, kept_keys, round_keys}
use Rattle.disco_hub.specs.Stored.{add_within, kept_with}

-- ---- what one copy more does at a key

abbrev pub keys_of : List (DocKey × Bool) → List DocKey
keys_of done = map (λ copied. copied.0) done

or_one : (a b : Bool) → (a || (b || false)) ≡ cond b true a
or_one true true = refl
or_one true false = refl
or_one false true = refl
or_one false false = refl

pub copied_more : (done : List (DocKey × Bool)) (j : DocKey) (kept : Bool) (k : DocKey)
    → list_any (same_doc k) (keys_of (done ++ (j, kept) ∷ [])) ≡ cond (same_doc k j) true (list_any (same_doc k) (keys_of done))
copied_more done j kept k =
    ap (list_any (same_doc k)) (map-append (λ (copied : DocKey × Bool). copied.0) done ((j, kept) ∷ []))
    ∙ list_any-append (same_doc k) (keys_of done) (j ∷ [])
    ∙ or_one (list_any (same_doc k) (keys_of done)) (same_doc k j)

some_or : {X : Type 0} (b : Bool) (x : X) (o : Option X) → is_some (cond b (Some x) o) ≡ cond b true (is_some o)
some_or true x o = refl
some_or false x o = refl

none_or : {X : Type 0} (b : Bool) (o : Option X) → is_some (cond b None o) ≡ cond b false (is_some o)
none_or true o = refl
none_or false o = refl

pub kept_one : (ks : KeySet) (j : DocKey) (kept : Bool) (k : DocKey) → contains_key (kept_with ks (j, kept)) k ≡ cond (same_doc k j) kept (contains_key ks k)
kept_one ks j true k = ap is_some (get-insert docs_total ks j tt k) ∙ some_or (same_doc k j) tt (get ks k)
kept_one ks j false k = ap is_some (get-remove docs_total ks j k) ∙ none_or (same_doc k j) (get ks k)

pub kept_more : (done : List (DocKey × Bool)) (j : DocKey) (kept : Bool) (k : DocKey) → contains_key (kept_keys (done ++ (j, kept) ∷ [])) k ≡ cond (same_doc k j) kept (contains_key (kept_keys done) k)
kept_more done j kept k = ap (λ (ks : KeySet). contains_key ks k) (fold-append kept_with empty done ((j, kept) ∷ [])) ∙ kept_one (kept_keys done) j kept k

-- ---- a round has each key of the edition

stays : (b : Bool) (x : Bool) → x ≡ true → cond b true x ≡ true
stays true x e = refl
stays false x e = e

stays_in : (b : Bool) (ks : KeySet) (j k : DocKey) → contains_key ks k ≡ true → contains_key (cond b (insert ks j tt) ks) k ≡ true
stays_in true ks j k e = kept_one ks j true k ∙ stays (same_doc k j) (contains_key ks k) e
stays_in false ks j k e = e

stay_in : (most : ℕ) (js : List DocKey) (ks : KeySet) (k : DocKey) → contains_key ks k ≡ true → contains_key (fold (add_within most) ks js) k ≡ true
stay_in most [] ks k e = e
stay_in most (j ∷ js) ks k e = stay_in most js (add_within most ks j) k (stays_in (nat_lt (len ks) most) ks j k e)

pub round_has : (edition : KeySet) (kept : Docs) (k : DocKey) → contains_key edition k ≡ true → list_any (same_doc k) (round_keys edition kept) ≡ true
round_has edition kept k e = sym (contains_key-keys (fold (add_within kept.max) edition (keys kept.docs)) k) ∙ stay_in kept.max (keys kept.docs) edition k e

-- ---- a map and a set with the same keys are as long

same_marks : (o p : Option (Unit {0})) → is_some o ≡ is_some p → o ≡ p
same_marks None None e = refl
same_marks None (Some u) e = absurd (cc)
same_marks (Some u) None e = absurd (cc)
same_marks (Some u) (Some v) e = refl

module _ {X : Type 0} where
  abbrev bare : List (DocKey × X) → List (DocKey × Unit {0})
  bare = map (λ e. (e.0, tt))

  below_bare : (k : DocKey) (es : List (DocKey × X)) → below_all doc_cmp k (bare es) ≡ below_all doc_cmp k es
  below_bare k [] = refl
  below_bare k (e ∷ es) = ap (λ b. is_lt (doc_cmp k e.0) && b) (below_bare k es)

  sorted_bare : (es : List (DocKey × X)) → is_sorted doc_cmp (bare es) ≡ is_sorted doc_cmp es
  sorted_bare [] = refl
  sorted_bare (e ∷ es) = λ i. below_bare e.0 es i && sorted_bare es i

  one_bare : (b : Bool) (x : X) (o : Option (Unit {0})) (p : Option X) → is_some o ≡ is_some p → is_some (cond b (Some tt) o) ≡ is_some (cond b (Some x) p)
  one_bare true x o p e = refl
  one_bare false x o p e = e

  find_bare : (q : DocKey) (es : List (DocKey × X)) → is_some (find doc_cmp q (bare es)) ≡ is_some (find doc_cmp q es)
  find_bare q [] = refl
  find_bare q (e ∷ es) = one_bare (same_doc q e.0) e.1 (find doc_cmp q (bare es)) (find doc_cmp q es) (find_bare q es)

  pub same_len : (m : FinMap doc_cmp X) (ks : KeySet) → ((q : DocKey) → contains_key ks q ≡ contains_key m q) → len m ≡ len ks
  same_len m ks same =
      let es = bare (entries m) in
      let sorted : T (is_sorted doc_cmp es) = subst T (sym (sorted_bare (entries m))) (entries_sorted m) in
      let is : from_sorted es ≡ ks = same_map docs_total exact_docs (from_sorted es) ks (λ q. same_marks _ _
      (ap is_some (get-from_sorted doc_cmp es q sorted) ∙ find_bare q (entries m) ∙ ap is_some (sym (get-entries m q)) ∙ sym (same q))) in
      len-entries m ∙ sym (length-map (entries m) (λ (e : DocKey × X). (e.0, tt))) ∙ ap length (sym (entries-from_sorted doc_cmp es sorted)) ∙ sym (len-entries (from_sorted es)) ∙ ap len is
