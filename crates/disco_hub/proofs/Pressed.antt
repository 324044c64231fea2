-- A press list after one more note.
use Rattle.std.proofs.Common.{◌≡◌, ℕ, Bool, List, [], ◌∷◌, ◌++◌, map, Option, Some, None, refl, sym, ap, subst, ◌∙◌, append-nil, append_assoc}
use Rattle.std.specs.FinMap.{empty}
use Rattle.disco_history.specs.Change.{Entry}
use Rattle.disco_cache.specs.Docs.{Docs}
use Rattle.disco_values.specs.declared.doc_key.DocKey.{DocKey}
use Rattle.disco_hub.specs.Press.{Fits, IsLegal, IsPressed, Note, begin, change, changes_in, step}
use Rattle.disco_hub.specs.Rounds.{KeySet, Round, kept_keys, round_keys}
use Rattle.disco_hub.proofs.InStep.{begun_law, changes_stay, copied_law, nothing_noted, publishable_law, shown_law}
use Rattle.disco_hub.proofs.Notes.{changes-begin, changes_more, legal_changes, legal_more}

module _ (run : ℕ) (published pending : List Note) (h : List Entry) (edition : KeySet) where
  grown : (ns : List Note) → (published ++ pending) ++ ns ≡ published ++ (pending ++ ns)
  grown ns = append_assoc published pending ns

  pub plain_pressed : (round : Option Round) (cs : List Entry) → IsPressed run published pending h edition round → IsPressed run published (pending ++ map change cs) (h ++ cs) edition round
  plain_pressed round cs was = record {
    changes = ap changes_in (sym (grown (map change cs))) ∙ changes_more (published ++ pending) cs ∙ ap (λ x. x ++ cs) was.changes;
    legal = subst (IsLegal run) (grown (map change cs)) (legal_changes run cs (published ++ pending) was.legal);
    publishable = was.publishable;
    in_step = changes_stay published pending edition round cs was.in_step;
  }

  pub begun_pressed : (kept : Docs) → IsPressed run published pending h edition None → IsPressed run published (pending ++ begin ∷ []) h edition (Some (record { done = []; left = round_keys edition kept }))
  begun_pressed kept was = record {
    changes = ap changes_in (sym (grown (begin ∷ []))) ∙ changes-begin (published ++ pending) ∙ was.changes;
    legal = subst (IsLegal run) (grown (begin ∷ [])) (legal_more run (published ++ pending) begin was.legal tt);
    publishable = was.publishable;
    in_step = begun_law published pending edition kept was.in_step;
  }

  -- a note of a copy
  pub record IsNoted (x : Note) (k : DocKey) (kept : Bool) : Type 0 where
    pub step_is : step x ≡ Some (k, kept) ∷ []
    pub fits : Fits run h x
    pub same : changes_in ((published ++ pending) ++ x ∷ []) ≡ changes_in (published ++ pending)

  pub copied_pressed : (x : Note) (done : List (DocKey × Bool)) (k : DocKey) (kept : Bool) (left : List DocKey) → IsNoted x k kept → IsPressed run published pending h edition (Some (record { done = done; left = k ∷ left }))
      → IsPressed run published (pending ++ x ∷ []) h edition (Some (record { done = done ++ (k, kept) ∷ []; left = left }))
  copied_pressed x done k kept left noted was = record {
    changes = ap changes_in (sym (grown (x ∷ []))) ∙ noted.same ∙ was.changes;
    legal = subst (IsLegal run) (grown (x ∷ [])) (legal_more run (published ++ pending) x was.legal (subst (λ g. Fits run g x) (sym was.changes) noted.fits));
    publishable = was.publishable;
    in_step = copied_law published pending edition done k kept left x noted.step_is was.in_step;
  }

  pub published_pressed : (done : List (DocKey × Bool)) → IsPressed run published pending h edition (Some (record { done = done; left = [] })) → IsPressed run (published ++ pending) [] h (kept_keys done) None
  published_pressed done was = record {
    changes = ap changes_in (append-nil (published ++ pending)) ∙ was.changes;
    legal = subst (IsLegal run) (sym (append-nil (published ++ pending))) was.legal;
    publishable = publishable_law published pending edition done was.in_step;
    in_step = shown_law published pending edition done was.in_step;
  }

-- nothing was noted yet
pub first_pressed : (run : ℕ) → IsPressed run [] [] [] empty None
first_pressed run = record { changes = refl; legal = none_legal; publishable = refl; in_step = nothing_noted }
  where
    none_legal : IsLegal run []
    none_legal [] n after e = absurd (cc)
    none_legal (b ∷ before) n after e = absurd (cc)
