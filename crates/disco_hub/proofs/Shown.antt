-- A document that readers see was noted after the beginning of the last round, and was true there.
use Rattle.std.proofs.Common.{◌≡◌, ℕ, Bool, true, false, cond, List, [], ◌∷◌, fold, Some, None, refl, sym, ap, ◌∙◌}
use Rattle.std.proofs.lemmas.Option.{same_Some}
use Rattle.std.specs.List.{list_any}
use Rattle.std.specs.FinMap.{empty, get, get-empty, get-insert, get-remove}
use Rattle.std.specs.Ordering.{is_eq}
use Rattle.std.specs.declared.cmp.Ordering.{Ordering}
use Rattle.std.specs.declared.cmp.Ordering.TheVariants.{Less, Equal, Greater}
use Rattle.disco_values.specs.Keys.{doc_cmp, same_doc}
use Rattle.disco_cache.specs.Payloads.{IsTruePayload}
use Rattle.disco_values.specs.declared.doc_key.DocKey.{DocKey}
use Rattle.disco_cache.specs.declared.payload.Payload.{Payload}
use Rattle.disco_values.proofs.Orders.{docs_total, exact_docs}
use Rattle.disco_hub.specs.Press.{Edition, IsLegal, IsPublishable, Note, begin, change, changes_in, copied_in, doc, edit_anew, edition_of, gone}
use Rattle.disco_hub.specs.Shown.{StandsIn, is_begin}

-- what a map that these notes went into has at a key was there and no round began, or it is one of them
data Found (m : Edition) (l : List Note) (k : DocKey) (d : Payload) : Type 0 where
  held : get m k ≡ Some d → list_any is_begin l ≡ false → Found m l k d
  copied : StandsIn l k d → Found m l k d

later : (m : Edition) (n : Note) (l : List Note) (k : DocKey) (d : Payload) → StandsIn l k d → Found m (n ∷ l) k d
later m n l k d s = copied (record { before = n ∷ s.before; after = s.after; there = ap (λ t. n ∷ t) s.there; key = s.key; last = s.last })

equal : (r : Ordering) → is_eq r ≡ true → r ≡ Equal
equal Less e = absurd (cc)
equal Equal e = refl
equal Greater e = absurd (cc)

module _ (m : Edition) (l : List Note) (k : DocKey) (d : Payload) (none : list_any is_begin l ≡ false) where
  of_doc : (e : Payload) (b : Bool) → same_doc k e.key ≡ b → cond b (Some e) (get m k) ≡ Some d → Found m (doc e ∷ l) k d
  of_doc e true same is =
      let one : e ≡ d = same_Some e d is in
      copied (record { before = []; after = l; there = ap (λ x. doc x ∷ l) one; key = ap (λ (x : Payload). x.key) (sym one) ∙ sym (exact_docs k e.key (equal (doc_cmp k e.key) same)); last = none })
  of_doc e false same is = held is none

  of_gone : (j : DocKey) (b : Bool) → cond b None (get m k) ≡ Some d → Found m (gone j ∷ l) k d
  of_gone j true is = absurd (cc)
  of_gone j false is = held is none

  of_begin : None ≡ Some d → Found m (begin ∷ l) k d
  of_begin is = absurd (cc)

  -- the map had it after the first note
  first : (n : Note) → get (edit_anew m n) k ≡ Some d → Found m (n ∷ l) k d
  first begin is = of_begin (sym (get-empty doc_cmp k) ∙ is)
  first (change c) is = held is none
  first (doc e) is = of_doc e (same_doc k e.key) refl (sym (get-insert docs_total m e.key e k) ∙ is)
  first (gone j) is = of_gone j (same_doc k j) (sym (get-remove docs_total m j k) ∙ is)

found : (m : Edition) (l : List Note) (k : DocKey) (d : Payload) → get (fold edit_anew m l) k ≡ Some d → Found m l k d
found m [] k d is = held is refl
found m (n ∷ l) k d is = elim (found (edit_anew m n) l k d is) [ held there none ↦ first m l k d none n there | copied s ↦ later m n l k d s ]

copied_stands : (l : List Note) (k : DocKey) (d : Payload) → get (copied_in l) k ≡ Some d → StandsIn l k d
copied_stands l k d is = elim (found empty l k d is) [ held there none ↦ absurd (nothing (sym (get-empty doc_cmp k) ∙ there)) | copied s ↦ s ]
  where
    nothing : None ≡ Some d → ⊥
    nothing e = absurd (cc)

pub shown_stands : (l : List Note) (k : DocKey) (d : Payload) → IsPublishable l → get (edition_of l) k ≡ Some d → StandsIn l k d
shown_stands l k d publishable is = copied_stands l k d (ap (λ (m : Edition). get m k) (sym publishable) ∙ is)

pub true_there : (run : ℕ) (l : List Note) (k : DocKey) (d : Payload) → IsLegal run l → (s : StandsIn l k d) → IsTruePayload run d (changes_in s.before)
true_there run l k d legal s = legal s.before (doc d) s.after s.there
