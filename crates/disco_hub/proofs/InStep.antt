-- A press list that stays in step with the rounds, and what readers may see of it.
use Rattle.std.specs.Prelude.{◌≡◌, Bool, true, false, cond, List, [], ◌∷◌, ◌++◌, flat_map, fold, map, Option, Some, None, is_some}
use Rattle.std.proofs.Common.{append-nil, append_assoc, refl, sym, ap, subst, ◌∙◌}
use Rattle.std.proofs.lemmas.List.Sums.{fold-append}
use Rattle.std.proofs.lemmas.List.{map-append}
use Rattle.std.proofs.lemmas.List.Concat.{flat_map-append}
use Rattle.std.specs.List.{list_any}
use Rattle.std.specs.FinMap.{contains_key, empty, get, get-empty, get-insert, get-remove, insert, len, remove, same_map}
use Rattle.disco_history.specs.Change.{Entry}
use Rattle.disco_values.specs.Keys.{doc_cmp, same_doc}
use Rattle.disco_values.specs.declared.doc_key.DocKey.{DocKey}
use Rattle.disco_cache.specs.Docs.{Docs}
use Rattle.disco_cache.specs.declared.payload.Payload.{Payload}
use Rattle.disco_values.proofs.Orders.{docs_total, exact_docs}
use Rattle.disco_hub.specs.Press.{Edition, IsInStep, IsPublishable, Note, begin, change, copied_in, doc, edit, edit_anew, edition_of, gone, step}
use Rattle.disco_hub.specs.Rounds.{KeySet, Round, kept_keys, round_keys}
use Rattle.disco_hub.proofs.KeySets.{copied_more, kept_more, keys_of, round_has, same_len}

-- the beginning of a round, of the keys that a round has, leaves all in step
abbrev pub BegunLaw : Type 0
BegunLaw = (published pending : List Note) (edition : KeySet) (kept : Docs) → IsInStep published pending edition None
    → IsInStep published (pending ++ begin ∷ []) edition (Some (record { done = []; left = round_keys edition kept }))

-- and so does a copy of the first key that is left
abbrev pub CopiedLaw : Type 0
CopiedLaw = (published pending : List Note) (edition : KeySet) (done : List (DocKey × Bool)) (k : DocKey) (kept : Bool) (left : List DocKey) (n : Note)
    → step n ≡ Some (k, kept) ∷ []
    → IsInStep published pending edition (Some (record { done = done; left = k ∷ left }))
    → IsInStep published (pending ++ n ∷ []) edition (Some (record { done = done ++ (k, kept) ∷ []; left = left }))

-- with no key left all that was noted may be published
abbrev pub PublishableLaw : Type 0
PublishableLaw = (published pending : List Note) (edition : KeySet) (done : List (DocKey × Bool))
    → IsInStep published pending edition (Some (record { done = done; left = [] })) → IsPublishable (published ++ pending)

-- and is in step then, with the keys that had a document
abbrev pub ShownLaw : Type 0
ShownLaw = (published pending : List Note) (edition : KeySet) (done : List (DocKey × Bool))
    → IsInStep published pending edition (Some (record { done = done; left = [] })) → IsInStep (published ++ pending) [] (kept_keys done) None

-- ---- at one key

-- where the key was copied, the edition has what was copied, and elsewhere it is as it was and nothing was copied
abbrev Agrees : Option Payload → Bool → Bool → Option Payload → Option Payload → Type 0
Agrees base copied kept now new = (copied ≡ true → now ≡ new) × (copied ≡ false → (now ≡ base) × (new ≡ None)) × (is_some new ≡ kept)

-- what is known at a key once these keys were copied
abbrev At : DocKey → Option Payload → List (DocKey × Bool) → Edition → Edition → Type 0
At k base done all new = Agrees base (list_any (same_doc k) (keys_of done)) (contains_key (kept_keys done) k) (get all k) (get new k)

agrees_more : (b : Bool) (base : Option Payload) (copied kept flag : Bool) (now new o : Option Payload) → is_some o ≡ flag → Agrees base copied kept now new → Agrees base (cond b true copied) (cond b flag kept) (cond b o now) (cond b o new)
agrees_more true base copied kept flag now new o e a = ((λ _. refl), (λ (w : true ≡ false). absurd (cc w)), e)
agrees_more false base copied kept flag now new o e a = a

same_step : (c d : DocKey × Bool) (s t : List (Option (DocKey × Bool))) → Some c ∷ s ≡ Some d ∷ t → c ≡ d
same_step c d s t e = cc

rest_is : (c d : Option (DocKey × Bool)) (s t : List (Option (DocKey × Bool))) → c ∷ s ≡ d ∷ t → s ≡ t
rest_is c d s t e = cc

none_begun : (more : List (DocKey × Bool)) (s : List (Option (DocKey × Bool))) → None ∷ s ≡ map Some more → ⊥
none_begun [] s e = absurd (cc)
none_begun (x ∷ more) s e = absurd (cc)

none_more : (x : DocKey × Bool) (s : List (Option (DocKey × Bool))) → Some x ∷ s ≡ [] → ⊥
none_more x s e = absurd (cc)

none_left : (x : DocKey × Bool) (s : List (Option (DocKey × Bool))) → [] ≡ Some x ∷ s → ⊥
none_left x s e = absurd (cc)

module _ (k : DocKey) (base : Option Payload) where
  -- the key j is copied, with this outcome
  copies_more : (done : List (DocKey × Bool)) (all new : Edition) → At k base done all new → (j : DocKey) (kept : Bool) (o : Option Payload) (all' new' : Edition) → is_some o ≡ kept
      → get all' k ≡ cond (same_doc k j) o (get all k) → get new' k ≡ cond (same_doc k j) o (get new k) → At k base (done ++ (j, kept) ∷ []) all' new'
  copies_more done all new a j kept o all' new' e there anew =
      let P : Bool × Bool × Option Payload × Option Payload → Type 0 = λ t. Agrees base t.0 t.1 t.2 t.3 in
      subst P (λ i. (sym (copied_more done j kept k) i, sym (kept_more done j kept k) i, sym there i, sym anew i))
      (agrees_more (same_doc k j) base (list_any (same_doc k) (keys_of done)) (contains_key (kept_keys done) k) kept (get all k) (get new k) o e a)

  -- one more of the copies
  one_more : (done more : List (DocKey × Bool)) (x y : DocKey × Bool) (all new : Edition) → x ≡ y → At k base ((done ++ x ∷ []) ++ more) all new → At k base (done ++ y ∷ more) all new
  one_more done more x y all new same a = subst (λ t. At k base t all new) (append_assoc done (x ∷ []) more ∙ ap (λ t. done ++ t ∷ more) same) a

  -- in an open round
  copies : (l : List Note) (done more : List (DocKey × Bool)) (all new : Edition) → flat_map step l ≡ map Some more → At k base done all new → At k base (done ++ more) (fold edit all l) (fold edit_anew new l)
  copies [] done [] all new e a = subst (λ t. At k base t all new) (sym (append-nil done)) a
  copies [] done (x ∷ more) all new e a = absurd (none_left x (map Some more) e)
  copies (begin ∷ l) done more all new e a = absurd (none_begun more (flat_map step l) e)
  copies (change c ∷ l) done more all new e a = copies l done more all new e a
  copies (doc d ∷ l) done [] all new e a = absurd (none_more (d.key, true) (flat_map step l) e)
  copies (doc d ∷ l) done (x ∷ more) all new e a =
      one_more done more (d.key, true) x (fold edit (insert all d.key d) l) (fold edit_anew (insert new d.key d) l) (same_step (d.key, true) x (flat_map step l) (map Some more) e)
      (copies l (done ++ (d.key, true) ∷ []) more (insert all d.key d) (insert new d.key d) (rest_is (Some (d.key, true)) (Some x) (flat_map step l) (map Some more) e)
      (copies_more done all new a d.key true (Some d) (insert all d.key d) (insert new d.key d) refl (get-insert docs_total all d.key d k) (get-insert docs_total new d.key d k)))
  copies (gone j ∷ l) done [] all new e a = absurd (none_more (j, false) (flat_map step l) e)
  copies (gone j ∷ l) done (x ∷ more) all new e a =
      one_more done more (j, false) x (fold edit (remove all j) l) (fold edit_anew (remove new j) l) (same_step (j, false) x (flat_map step l) (map Some more) e)
      (copies l (done ++ (j, false) ∷ []) more (remove all j) (remove new j) (rest_is (Some (j, false)) (Some x) (flat_map step l) (map Some more) e)
      (copies_more done all new a j false None (remove all j) (remove new j) refl (get-remove docs_total all j k) (get-remove docs_total new j k)))

  -- from the last publish on
  runs : (l : List Note) (done : List (DocKey × Bool)) (all new : Edition) → flat_map step l ≡ None ∷ map Some done → get all k ≡ base → At k base done (fold edit all l) (fold edit_anew new l)
  runs [] done all new e is = absurd (cc)
  runs (begin ∷ l) done all new e is =
      copies l [] done all empty (rest_is None None (flat_map step l) (map Some done) e)
      ((λ (w : false ≡ true). absurd (cc w)), (λ _. (is, get-empty doc_cmp k)), ap is_some (get-empty doc_cmp k) ∙ sym (ap is_some (get-empty doc_cmp k)))
  runs (change c ∷ l) done all new e is = runs l done all new e is
  runs (doc d ∷ l) done all new e is = absurd (cc)
  runs (gone j ∷ l) done all new e is = absurd (cc)

-- ---- of the whole list

module _ (published pending : List Note) (edition : KeySet) (r : Round) (inn : IsInStep published pending edition (Some r)) where
  abbrev whole : List Note
  whole = published ++ pending

  at_key : (k : DocKey) → At k (get (edition_of published) k) r.done (edition_of whole) (copied_in whole)
  at_key k =
      let base = get (edition_of published) k in
      let P : Edition × Edition → Type 0 = λ t. At k base r.done t.0 t.1 in
      subst P (λ i. (sym (fold-append edit empty published pending) i, sym (fold-append edit_anew empty published pending) i))
      (runs k base pending r.done (edition_of published) (copied_in published) inn.steps refl)

  -- what was copied is what had a document
  pub copied_keys : (k : DocKey) → contains_key (copied_in whole) k ≡ contains_key (kept_keys r.done) k
  copied_keys k = (at_key k).2

  module _ (none : r.left ≡ []) where
    was_copied : (k : DocKey) → contains_key edition k ≡ true → list_any (same_doc k) (keys_of r.done) ≡ true
    was_copied k e = ap (list_any (same_doc k)) (sym (append-nil (keys_of r.done)) ∙ ap (λ left. keys_of r.done ++ left) (sym none)) ∙ inn.covers k e

    by_cases : (k : DocKey) (copied there : Bool) → list_any (same_doc k) (keys_of r.done) ≡ copied → contains_key edition k ≡ there → get (edition_of whole) k ≡ get (copied_in whole) k
    by_cases k true there c t = (at_key k).0 c
    by_cases k false true c t = absurd (true_is_false (sym (was_copied k t) ∙ c))
      where
        true_is_false : true ≡ false → ⊥
        true_is_false e = absurd (cc)
    by_cases k false false c t =
        let same = (at_key k).1 c in
        same.0 ∙ nothing (get (edition_of published) k) (sym (inn.keys k) ∙ t) ∙ sym same.1
      where
        nothing : (o : Option Payload) → is_some o ≡ false → o ≡ None
        nothing None e = refl
        nothing (Some d) e = absurd (cc)

    pub all_copied : IsPublishable whole
    all_copied = same_map docs_total exact_docs (edition_of whole) (copied_in whole) (λ k. by_cases k _ _ refl refl)

    pub shown_keys : (k : DocKey) → contains_key (kept_keys r.done) k ≡ contains_key (edition_of whole) k
    shown_keys k = sym (copied_keys k) ∙ ap (λ (m : Edition). contains_key m k) (sym all_copied)

    pub shown_len : len (edition_of whole) ≡ len (kept_keys r.done)
    shown_len = same_len (edition_of whole) (kept_keys r.done) shown_keys

-- ---- the laws

pub nothing_noted : IsInStep [] [] empty None
nothing_noted = record { keys = λ k. ap is_some (get-empty doc_cmp k) ∙ sym (ap is_some (get-empty doc_cmp k)); steps = refl; covers = tt }

no_steps : (cs : List Entry) → flat_map step (map change cs) ≡ []
no_steps [] = refl
no_steps (c ∷ cs) = no_steps cs

-- many changes, one after another
pub changes_stay : (published pending : List Note) (edition : KeySet) (round : Option Round) (cs : List Entry) → IsInStep published pending edition round → IsInStep published (pending ++ map change cs) edition round
changes_stay published pending edition round cs inn = record {
  keys = inn.keys;
  steps = flat_map-append step pending (map change cs) ∙ ap (λ t. flat_map step pending ++ t) (no_steps cs) ∙ append-nil (flat_map step pending) ∙ inn.steps;
  covers = inn.covers;
}

pub begun_law : BegunLaw
begun_law published pending edition kept inn = record {
  keys = inn.keys;
  steps = flat_map-append step pending (begin ∷ []) ∙ ap (λ t. t ++ None ∷ []) inn.steps;
  covers = λ k e. round_has edition kept k e;
}

steps_more : (pending : List Note) (n : Note) (x : Option (DocKey × Bool)) (s t : List (Option (DocKey × Bool))) → step n ≡ x ∷ [] → flat_map step pending ≡ s → s ++ x ∷ [] ≡ t → flat_map step (pending ++ n ∷ []) ≡ t
steps_more pending n x s t is before after = flat_map-append step pending (n ∷ []) ∙ (λ i. before i ++ (append-nil (step n) ∙ is) i) ∙ after

pub copied_law : CopiedLaw
copied_law published pending edition done k kept left n is inn = record {
  keys = inn.keys;
  steps = steps_more pending n (Some (k, kept)) (None ∷ map Some done) (None ∷ map Some (done ++ (k, kept) ∷ [])) is inn.steps (ap (λ t. None ∷ t) (sym (map-append Some done ((k, kept) ∷ []))));
  covers = λ j there. subst (λ ks. list_any (same_doc j) ks ≡ true) (sym (append_assoc (keys_of done) (k ∷ []) left) ∙ ap (λ t. t ++ left) (sym (map-append (λ (c : DocKey × Bool). c.0) done ((k, kept) ∷ [])))) (inn.covers j there);
}

pub publishable_law : PublishableLaw
publishable_law published pending edition done inn = all_copied published pending edition (record { done = done; left = [] }) inn refl

pub shown_law : ShownLaw
shown_law published pending edition done inn = record {
  keys = shown_keys published pending edition (record { done = done; left = [] }) inn refl;
  steps = refl;
  covers = tt;
}
