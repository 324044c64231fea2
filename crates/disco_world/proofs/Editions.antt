-- Where the documents come from that readers see: each was copied after some event since its round began, and could be served there.
use Rattle.std.proofs.Common.{◌≡◌, ℕ, zero, suc, ◌+◌, ◌≤◌, Bool, true, false, cond, List, [], ◌∷◌, ◌++◌, length, map, Option, Some, None, slice_get, refl, sym, ap, subst, ◌∙◌, arith, append-nil, append_assoc, add-one}
use Rattle.std.proofs.lemmas.List.{length-append}
use Rattle.std.proofs.lemmas.Option.{same_Some}
use Rattle.std.specs.FinMap.{empty, get, get-empty, get-insert, get-remove}
use Rattle.std.specs.Ordering.{is_eq}
use Rattle.std.specs.declared.cmp.Ordering.{Ordering}
use Rattle.std.specs.declared.cmp.Ordering.TheVariants.{Less, Equal, Greater}
use Rattle.disco_history.specs.Change.{Entry}
use Rattle.disco_values.specs.Keys.{doc_cmp, same_doc}
use Rattle.disco_values.specs.declared.doc_key.DocKey.{DocKey}
use Rattle.disco_cache.specs.declared.payload.Payload.{Payload}
use Rattle.disco_values.proofs.Orders.{docs_total, exact_docs}
use Rattle.disco_core.specs.State.{Rules}
use Rattle.disco_hub.specs.Press.{Edition, IsPublishable, begin, change, copied_in, doc, edition_of, gone}
use Rattle.disco_hub.specs.State.{MayServe}
use Rattle.disco_hub.specs.declared.copied.Copied.TheVariants as copied
use Rattle.disco_hub.proofs.Notes.{copied-begin, copied-doc, copied-gone}
use Rattle.disco_world.specs.Events.{Effect, World, begins, copies, publishes, restarts, effect}
use Rattle.disco_world.specs.Outcomes.{after, after_at, outcome, world}
use Rattle.disco_world.specs.Steps.{AreAnswered, IsAnswer, changes_since, is_plain}
use Rattle.disco_world.specs.Rounds.{Press, all_of, press_from}
use Rattle.disco_world.specs.declared.event.Event.{Event}
use Rattle.disco_world.proofs.EffectParts.{parts}
use Rattle.disco_hub.proofs.Levels.{copied_changes}
use Rattle.disco_world.specs.declared.event.Reply.{Reply}
use Rattle.disco_world.specs.declared.event.Reply.TheVariants.{Begun, Copied, Published, Restarted}

none_at : (k : DocKey) (d : Payload) → get (empty {X = Payload} {R = doc_cmp}) k ≡ Some d → ⊥
none_at k d is = absurd (the (sym (get-empty doc_cmp k) ∙ is))
  where
    the : None ≡ Some d → ⊥
    the e = absurd (cc)

equal : (r : Ordering) → is_eq r ≡ true → r ≡ Equal
equal Less e = absurd (cc)
equal Equal e = refl
equal Greater e = absurd (cc)

module _ (rules : Rules) (first_run : ℕ) (es : List Event) (rs : List Reply) where
  abbrev here : ℕ → World
  here i = world rules first_run es rs i

  -- a document of that key could be served after some event from one on
  pub record Was (i from : ℕ) (k : DocKey) (d : Payload) : Type 0 where
    pub after : ℕ
    pub since : from ≤ after
    pub within : after ≤ i
    pub served : MayServe d (here after).past
    pub key : d.key ≡ k

  longer : (i from : ℕ) (k : DocKey) (d : Payload) → Was i from k d → Was (i + 1) from k d
  longer i from k d was = record { after = was.after; since = was.since; within = omega (arith, was.within); served = was.served; key = was.key }

  abbrev pub AllWere : ℕ → ℕ → Edition → Type 0
  AllWere i from m = (k : DocKey) (d : Payload) → get m k ≡ Some d → Was i from k d

  -- of a press after so many replies
  pub record SeesIn (s : Press) (i n : ℕ) : Type 0 where
    pub begun : s.begun ≤ n
    pub floor : s.floor ≤ n
    pub copied : AllWere i s.begun (copied_in (all_of s))
    pub shown : AllWere i s.floor (edition_of s.published)

  module _ (i n : ℕ) (le : n ≤ i) where
    on_from : (from : ℕ) (m : Edition) → AllWere i from m → AllWere (i + 1) from m
    on_from from m were = λ k d is. longer i from k d (were k d is)

    plainly : (s : Press) (cs : List Entry) → SeesIn s i n → SeesIn (record s { pending = s.pending ++ map change cs }) (i + 1) (n + 1)
    plainly s cs sees = record {
      begun = omega (arith, sees.begun);
      floor = omega (arith, sees.floor);
      copied = subst (AllWere (i + 1) s.begun) (sym (ap copied_in (sym (append_assoc s.published s.pending (map change cs))) ∙ copied_changes cs (all_of s))) (on_from s.begun (copied_in (all_of s)) sees.copied);
      shown = on_from s.floor (edition_of s.published) sees.shown;
    }

    begun_on : (s : Press) → SeesIn s i n → SeesIn (record s { pending = s.pending ++ begin ∷ []; begun = n + 1 }) (i + 1) (n + 1)
    begun_on s sees = record {
      begun = omega arith;
      floor = omega (arith, sees.floor);
      copied = subst (AllWere (i + 1) (n + 1)) (sym (ap copied_in (sym (append_assoc s.published s.pending (begin ∷ []))) ∙ copied-begin (all_of s))) (λ k d is. absurd (none_at k d is));
      shown = on_from s.floor (edition_of s.published) sees.shown;
    }

    put_one : (from : ℕ) (m : Edition) (d : Payload) → from ≤ i → MayServe d (here i).past → AllWere i from m → (k : DocKey) (e : Payload) (b : Bool) → same_doc k d.key ≡ b → cond b (Some d) (get m k) ≡ Some e → Was (i + 1) from k e
    put_one from m d since may were k e true same is =
        let key : k ≡ d.key = exact_docs k d.key (equal (doc_cmp k d.key) same) in
        subst (Was (i + 1) from k) (same_Some d e is) (record { after = i; since = since; within = omega arith; served = may; key = sym key })
    put_one from m d since may were k e false same is = longer i from k e (were k e is)

    out_one : (from : ℕ) (m : Edition) → AllWere i from m → (k : DocKey) (e : Payload) (b : Bool) → cond b None (get m k) ≡ Some e → Was (i + 1) from k e
    out_one from m were k e true is = absurd (cc)
    out_one from m were k e false is = longer i from k e (were k e is)

    doc_on : (s : Press) (d : Payload) → MayServe d (here i).past → SeesIn s i n → SeesIn (record s { pending = s.pending ++ doc d ∷ [] }) (i + 1) (n + 1)
    doc_on s d may sees = record {
      begun = omega (arith, sees.begun);
      floor = omega (arith, sees.floor);
      copied = subst (AllWere (i + 1) s.begun) (sym (ap copied_in (sym (append_assoc s.published s.pending (doc d ∷ []))) ∙ copied-doc (all_of s) d))
          (λ k e is. put_one s.begun (copied_in (all_of s)) d (omega (arith, sees.begun, le)) may sees.copied k e (same_doc k d.key) refl (sym (get-insert docs_total (copied_in (all_of s)) d.key d k) ∙ is));
      shown = on_from s.floor (edition_of s.published) sees.shown;
    }

    gone_on : (s : Press) (j : DocKey) → SeesIn s i n → SeesIn (record s { pending = s.pending ++ gone j ∷ [] }) (i + 1) (n + 1)
    gone_on s j sees = record {
      begun = omega (arith, sees.begun);
      floor = omega (arith, sees.floor);
      copied = subst (AllWere (i + 1) s.begun) (sym (ap copied_in (sym (append_assoc s.published s.pending (gone j ∷ []))) ∙ copied-gone (all_of s) j))
          (λ k e is. out_one s.begun (copied_in (all_of s)) sees.copied k e (same_doc k j) (sym (get-remove docs_total (copied_in (all_of s)) j k) ∙ is));
      shown = on_from s.floor (edition_of s.published) sees.shown;
    }

    published_on : (s : Press) → IsPublishable (all_of s) → SeesIn s i n → SeesIn (record s { published = all_of s; pending = []; floor = s.begun }) (i + 1) (n + 1)
    published_on s fresh sees = record {
      begun = omega (arith, sees.begun);
      floor = omega (arith, sees.begun);
      copied = subst (AllWere (i + 1) s.begun) (sym (ap copied_in (append-nil (all_of s)))) (on_from s.begun (copied_in (all_of s)) sees.copied);
      shown = subst (AllWere (i + 1) s.begun) (sym fresh) (on_from s.begun (copied_in (all_of s)) sees.copied);
    }

    -- nothing is seen of a run that has just begun
    restarted_on : SeesIn (press_from (n + 1)) (i + 1) (n + 1)
    restarted_on = record {
      begun = omega arith;
      floor = omega arith;
      copied = λ k d is. absurd (none_at k d is);
      shown = λ k d is. absurd (none_at k d is);
    }

  module _ (i : ℕ) (le : length (here i).replies ≤ i) where
    abbrev s : Press
    s = (here i).press

    abbrev n : ℕ
    n = length (here i).replies

    plain_on : (what : Effect) (r : Reply) → is_plain what r ≡ true → SeesIn s i n → SeesIn (after rules (here i) what r).press (i + 1) (n + 1)
    plain_on what r plain sees =
        subst (λ t. SeesIn t (i + 1) (n + 1)) (sym ((parts rules (here i) what r).press plain)) (plainly i n le s (changes_since (here i).past (outcome rules (here i) what r).next.past) sees)

    sees_on : (what : Effect) (r : Reply) → IsAnswer rules (here i) what r → IsPublishable (after rules (here i) what r).press.published → SeesIn s i n → SeesIn (after rules (here i) what r).press (i + 1) (n + 1)
    sees_on begins (Begun m) answer fresh sees = begun_on i n le s sees
    sees_on copies (Copied (copied.Doc p)) answer fresh sees = doc_on i n le s p.value answer.may.1.1 sees
    sees_on copies (Copied (copied.Drop j)) answer fresh sees = gone_on i n le s j sees
    sees_on publishes (Published m) answer fresh sees = published_on i n le s fresh sees
    sees_on (restarts run) (Restarted r) answer fresh sees = restarted_on i n le
    sees_on what r answer fresh sees = plain_on what r refl sees

-- what readers see may be published
abbrev pub ShowsFresh : Rules → ℕ → List Event → List Reply → ℕ → Type 0
ShowsFresh rules first_run es rs i = IsPublishable (world rules first_run es rs i).press.published

-- there are no more replies than events so far, and documents come from where they may
pub record Sees (rules : Rules) (first_run : ℕ) (es : List Event) (rs : List Reply) (i : ℕ) : Type 0 where
  pub count : length (world rules first_run es rs i).replies ≤ i
  pub sees : SeesIn rules first_run es rs (world rules first_run es rs i).press i (length (world rules first_run es rs i).replies)

-- the same of what comes after an event
record Next (rules : Rules) (first_run : ℕ) (es : List Event) (rs : List Reply) (i : ℕ) (w : World) : Type 0 where
  count : length w.replies ≤ i
  sees : SeesIn rules first_run es rs w.press i (length w.replies)

module _ (rules : Rules) (first_run : ℕ) (es : List Event) (rs : List Reply) where
  later : (s : Press) (i n : ℕ) → SeesIn rules first_run es rs s i n → SeesIn rules first_run es rs s (i + 1) n
  later s i n sees = record {
    begun = sees.begun;
    floor = sees.floor;
    copied = λ k d is. longer rules first_run es rs i s.begun k d (sees.copied k d is);
    shown = λ k d is. longer rules first_run es rs i s.floor k d (sees.shown k d is);
  }

  one_on : AreAnswered rules first_run es rs → (i : ℕ) → Sees rules first_run es rs i → (e : Option Event) → slice_get es i ≡ e → (r : Option Reply) → slice_get rs i ≡ r
      → IsPublishable (after_at rules (world rules first_run es rs i) e r).press.published → Next rules first_run es rs (i + 1) (after_at rules (world rules first_run es rs i) e r)
  one_on answers i now (Some e) event (Some r) reply fresh =
      let w = world rules first_run es rs i in
      let n = length w.replies in
      let what = effect rules w e in
      let many : length (w.replies ++ r ∷ []) ≡ n + 1 = length-append w.replies (r ∷ []) in
      record {
        count = omega (arith, many, now.count);
        sees = subst (SeesIn rules first_run es rs (after rules w what r).press (i + 1)) (sym many)
            (sees_on rules first_run es rs i now.count what r (answers i e r event reply) fresh now.sees);
      }
  one_on answers i now None event r reply fresh = record { count = omega (arith, now.count); sees = later (world rules first_run es rs i).press i (length (world rules first_run es rs i).replies) now.sees }
  one_on answers i now (Some e) event None reply fresh = record { count = omega (arith, now.count); sees = later (world rules first_run es rs i).press i (length (world rules first_run es rs i).replies) now.sees }

  pub sees_at : AreAnswered rules first_run es rs → (i : ℕ) → ((j : ℕ) → j ≤ i → ShowsFresh rules first_run es rs j) → Sees rules first_run es rs i
  unfolding world
  sees_at answers zero fresh = record {
    count = omega arith;
    sees = record { begun = omega arith; floor = omega arith; copied = λ k d is. absurd (none_at k d is); shown = λ k d is. absurd (none_at k d is) };
  }
  sees_at answers (suc i) fresh =
      let next = one_on answers i (sees_at answers i (λ j le. fresh j (omega (arith, le)))) (slice_get es i) refl (slice_get rs i) refl (fresh (suc i) (omega arith)) in
      record { count = omega (arith, next.count); sees = subst (λ k. SeesIn rules first_run es rs (world rules first_run es rs (suc i)).press k (length (world rules first_run es rs (suc i)).replies)) (add-one i) next.sees }
