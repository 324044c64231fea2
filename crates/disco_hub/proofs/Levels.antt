-- A hub and what a publisher keeps beside it, after one more event.
use Rattle.std.proofs.Common.{◌≡◌, ℕ, Bool, true, false, List, [], ◌∷◌, ◌++◌, map, Option, Some, None, IfSome, is_some, slice_get, refl, sym, ap, subst, ◌∙◌, append-nil, append_assoc}
use Rattle.std.specs.FinMap.{empty, insert, len, remove}
use Rattle.disco_history.specs.Change.{Entry}
use Rattle.disco_history.specs.Query.{is_absent}
use Rattle.disco_history.specs.Registry.{registry_of}
use Rattle.disco_wire.specs.Documents.{asked_by}
use Rattle.disco_values.specs.declared.doc_key.DocKey.{DocKey}
use Rattle.disco_core.specs.Past.{Past, history, nothing}
use Rattle.disco_core.specs.State as core
use Rattle.disco_hub.specs.Levels.{AreLevels}
use Rattle.disco_hub.specs.Press.{put_copy, Edition, IsLegal, IsPressed, IsPublishable, Note, begin, change, copied_in, doc, edition_of, gone, note_of, is_doc}
use Rattle.disco_hub.specs.Rounds.{Advances, Begins, Ends, Round, Rounds, kept_keys, round_keys}
use Rattle.disco_hub.specs.State.{AreServable, IsCopied, HubState, HubStandsFor}
use Rattle.disco_hub.specs.declared.copied.Copied.{Copied}
use Rattle.disco_hub.specs.declared.copied.Copied.TheVariants as copied
use Rattle.disco_hub.proofs.InStep.{publishable_law, shown_len}
use Rattle.disco_hub.proofs.Notes.{changes-doc, changes-gone, copied-begin, copied-change, copied-doc, copied-gone}
use Rattle.disco_hub.proofs.Pressed.{IsNoted, begun_pressed, copied_pressed, first_pressed, plain_pressed, published_pressed}

-- ---- the levels, one event on

pub stands_on : (old new : HubState) (p : Past) → new ≡ record old { rounds = new.rounds } → HubStandsFor old p → HubStandsFor new p
stands_on old new p is stands = record {
  core = subst (λ (x : HubState). core.CoreStandsFor x.core p) (sym is) stands.core;
  docs = subst (λ (x : HubState). AreServable x.core.delta x.docs.docs p) (sym is) stands.docs;
}

pub copied_changes : (cs : List Entry) (l : List Note) → copied_in (l ++ map change cs) ≡ copied_in l
copied_changes [] l = ap copied_in (append-nil l)
copied_changes (c ∷ cs) l = ap copied_in (sym (append_assoc l (change c ∷ []) (map change cs))) ∙ copied_changes cs (l ++ change c ∷ []) ∙ copied-change l c

some_on : {P Q : Type 0} (o : Option Round) → IfSome o (λ _. P) → (P → Q) → IfSome o (λ _. Q)
some_on None p f = tt
some_on (Some r) p f = f p

gone_key : (j k : DocKey) (p : Past) → IsCopied k (copied.Drop j) p → is_absent (registry_of (history p)) (asked_by j.query) ≡ true
gone_key j k p it = subst (λ (x : DocKey). is_absent (registry_of (history p)) (asked_by x.query) ≡ true) (sym it.0) it.1

pub first_levels : (run : ℕ) (s : HubState) (next : Edition) → HubStandsFor s (nothing run) → s.rounds ≡ record { edition = empty; round = None } → AreLevels s next [] [] (nothing run)
first_levels run s next stands rounds = record {
  stands = stands;
  pressed = subst (λ (r : Rounds). IsPressed run [] [] [] r.edition r.round) (sym rounds) (first_pressed run);
  copied = subst (λ (r : Rounds). IfSome r.round (λ _. next ≡ copied_in [])) (sym rounds) tt;
}

module _ (old new : HubState) (next next' : Edition) (published pending : List Note) (p : Past) (levels : AreLevels old next published pending p) where
  abbrev whole : List Note
  whole = published ++ pending

  -- changes, or none
  pub plain_levels : (q : Past) (cs : List Entry) → q.run ≡ p.run → history q ≡ history p ++ cs → HubStandsFor new q → new.rounds ≡ old.rounds → next' ≡ next → AreLevels new next' published (pending ++ map change cs) q
  plain_levels q cs run more stands rounds same =
      let pressed = plain_pressed p.run published pending (history p) old.rounds.edition old.rounds.round cs levels.pressed in
      let stays : copied_in (published ++ (pending ++ map change cs)) ≡ copied_in whole = ap copied_in (sym (append_assoc published pending (map change cs))) ∙ copied_changes cs whole in
      let there : IfSome old.rounds.round (λ _. next' ≡ copied_in (published ++ (pending ++ map change cs))) = some_on old.rounds.round levels.copied (λ e. same ∙ e ∙ sym stays) in
      record {
        stands = stands;
        pressed = subst (λ (t : ℕ × List Entry × Rounds). IsPressed t.0 published (pending ++ map change cs) t.1 t.2.edition t.2.round) (λ i. (sym run i, sym more i, sym rounds i)) pressed;
        copied = subst (λ (r : Rounds). IfSome r.round (λ _. next' ≡ copied_in (published ++ (pending ++ map change cs)))) (sym rounds) there;
      }

  pub begun_levels : (n : ℕ) → Begins (round_keys old.rounds.edition old.docs) n old.rounds new.rounds → new ≡ record old { rounds = new.rounds } → next' ≡ empty → AreLevels new next' published (pending ++ begin ∷ []) p
  begun_levels n is rest none =
      let edition = old.rounds.edition in
      let was : IsPressed p.run published pending (history p) edition None = subst (IsPressed p.run published pending (history p) edition) is.none levels.pressed in
      let fresh : copied_in (published ++ (pending ++ begin ∷ [])) ≡ empty = ap copied_in (sym (append_assoc published pending (begin ∷ []))) ∙ copied-begin whole in
      record {
        stands = stands_on old new p rest levels.stands;
        pressed = subst (λ (r : Rounds). IsPressed p.run published (pending ++ begin ∷ []) (history p) r.edition r.round) (sym is.round) (begun_pressed p.run published pending (history p) edition old.docs was);
        copied = subst (λ (r : Rounds). IfSome r.round (λ _. next' ≡ copied_in (published ++ (pending ++ begin ∷ [])))) (sym is.round) (none ∙ sym fresh);
      }

  -- a key is copied
  copied_on : (x : Note) (kept : Bool) (before after : Round) (key : DocKey) → old.rounds.round ≡ Some before → before.left ≡ key ∷ after.left → after.done ≡ before.done ++ (key, kept) ∷ []
      → new.rounds ≡ record old.rounds { round = Some after } → new ≡ record old { rounds = new.rounds } → IsNoted p.run published pending (history p) old.rounds.edition x key kept → next' ≡ copied_in (whole ++ x ∷ []) → AreLevels new next' published (pending ++ x ∷ []) p
  copied_on x kept before after key was first done is rest noted put =
      let edition = old.rounds.edition in
      let there : old.rounds.round ≡ Some (record { done = before.done; left = key ∷ after.left }) = was ∙ (λ i. Some (record { done = before.done; left = first i })) in
      let pressed = copied_pressed p.run published pending (history p) edition x before.done key kept after.left noted (subst (IsPressed p.run published pending (history p) edition) there levels.pressed) in
      let rounds : new.rounds ≡ record { edition = edition; round = Some (record { done = before.done ++ (key, kept) ∷ []; left = after.left }) } = is ∙ (λ i. record { edition = edition; round = Some (record { done = done i; left = after.left }) }) in
      record {
        stands = stands_on old new p rest levels.stands;
        pressed = subst (λ (r : Rounds). IsPressed p.run published (pending ++ x ∷ []) (history p) r.edition r.round) (sym rounds) pressed;
        copied = subst (λ (r : Rounds). IfSome r.round (λ _. next' ≡ copied_in (published ++ (pending ++ x ∷ [])))) (sym rounds) (put ∙ ap copied_in (append_assoc published pending (x ∷ [])));
      }

  next_is : (before : Round) → old.rounds.round ≡ Some before → next ≡ copied_in whole
  next_is before was = subst (λ o. IfSome o (λ _. next ≡ copied_in whole)) was levels.copied

  pub copied_is : (c : Copied) → ((q : Past) → HubStandsFor old q → IfSome old.rounds.round (λ r. IfSome (slice_get r.left 0) (λ k. IsCopied k c q))) → (before : Round) (k : DocKey) (left : List DocKey) → old.rounds.round ≡ Some before → before.left ≡ k ∷ left → IsCopied k c p
  copied_is c is before k left was first =
      let it = subst (λ o. IfSome o (λ r. IfSome (slice_get r.left 0) (λ k. IsCopied k c p))) was (is p levels.stands) in
      subst (λ ks. IfSome (slice_get ks 0) (λ k. IsCopied k c p)) first it

  pub copied_levels : (c : Copied) → ((q : Past) → HubStandsFor old q → IfSome old.rounds.round (λ r. IfSome (slice_get r.left 0) (λ k. IsCopied k c q))) → Advances (is_doc c) old.rounds new.rounds → new ≡ record old { rounds = new.rounds } → next' ≡ put_copy next c
      → AreLevels new next' published (pending ++ note_of c ∷ []) p
  copied_levels (copied.Doc d) is m rest put =
      let it = copied_is (copied.Doc d) is m.before m.marks.key m.after.left m.was m.marks.first in
      copied_on (doc d.value) true m.before m.after m.marks.key m.was m.marks.first m.marks.done m.round rest (record { step_is = ap (λ k. Some (k, true) ∷ []) it.0; fits = it.1.true_now; same = changes-doc whole d.value })
      (put ∙ ap (λ (e : Edition). insert e d.value.key d.value) (next_is m.before m.was) ∙ sym (copied-doc whole d.value))
  copied_levels (copied.Drop j) is m rest put =
      let it = copied_is (copied.Drop j) is m.before m.marks.key m.after.left m.was m.marks.first in
      copied_on (gone j) false m.before m.after m.marks.key m.was m.marks.first m.marks.done m.round rest (record { step_is = ap (λ k. Some (k, false) ∷ []) it.0; fits = gone_key j m.marks.key p it; same = changes-gone whole j })
      (put ∙ ap (λ (e : Edition). remove e j) (next_is m.before m.was) ∙ sym (copied-gone whole j))

  -- the round ends
  module _ (n : ℕ) (is : Ends n old.rounds new.rounds) where
    at_end : IsPressed p.run published pending (history p) old.rounds.edition (Some (record { done = is.round.done; left = [] }))
    at_end =
        let there : old.rounds.round ≡ Some (record { done = is.round.done; left = [] }) = is.was ∙ (λ i. Some (record { done = is.round.done; left = is.whole i })) in
        subst (IsPressed p.run published pending (history p) old.rounds.edition) there levels.pressed

    pub ended_legal : IsLegal p.run whole
    ended_legal = levels.pressed.legal

    pub ended_publishable : IsPublishable whole
    ended_publishable = publishable_law published pending old.rounds.edition is.round.done at_end.in_step

    -- what was copied is the edition of all that was noted
    pub ended_edition : next ≡ edition_of whole
    ended_edition = next_is is.round is.was ∙ sym ended_publishable

    pub ended_len : len (edition_of whole) ≡ len (kept_keys is.round.done)
    ended_len = shown_len published pending old.rounds.edition (record { done = is.round.done; left = [] }) at_end.in_step refl

    pub ended_levels : new ≡ record old { rounds = new.rounds } → AreLevels new next' whole [] p
    ended_levels rest = record {
      stands = stands_on old new p rest levels.stands;
      pressed = subst (λ (r : Rounds). IsPressed p.run whole [] (history p) r.edition r.round) (sym is.edition) (published_pressed p.run published pending (history p) old.rounds.edition is.round.done at_end);
      copied = subst (λ (r : Rounds). IfSome r.round (λ _. next' ≡ copied_in (whole ++ []))) (sym is.edition) tt;
    }

-- nothing is copied where no key is left
pub no_key : {A : Type 0} (o : Option Round) (c : Option A) → c ≡ None → IfSome o (λ r. is_some (slice_get r.left 0) ≡ is_some c) → IfSome o (λ r. r.left ≡ [])
no_key None c is e = tt
no_key (Some r) c is e = none_left r.left (e ∙ ap is_some is)
  where
    none_left : (l : List DocKey) → is_some (slice_get l 0) ≡ false → l ≡ []
    none_left [] e = refl
    none_left (x ∷ l) e = absurd (cc)
