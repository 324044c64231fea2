-- What each effect does to the two levels of documents.
use Rattle.std.proofs.Common.{◌≡◌, ℕ, ◌+◌, ◌<◌, ◌≤◌, Bool, true, false, cond, List, [], ◌∷◌, ◌++◌, length, fold, nat_lt, Option, Some, IfSome, slice_get, refl, sym, ap, subst, ◌∙◌, arith}
use Rattle.std.proofs.lemmas.List.{length-map, take-append-drop}
use Rattle.std.specs.FinMap.{empty, get, insert, keys, len, len-entries, len-insert}
use Rattle.disco_cache.specs.Docs.{Docs}
use Rattle.disco_values.specs.declared.doc_key.DocKey.{DocKey}
use Rattle.disco_values.proofs.Orders.{docs_total}
use Rattle.disco_core.specs.Past.{Past, history, nothing}
use Rattle.disco_core.specs.State.{Rules}
use Rattle.disco_hub.specs.Levels.{AreLevels}
use Rattle.disco_hub.specs.Press.{Edition, edition_of}
use Rattle.disco_hub.specs.Rounds.{KeySet, Round, round_keys}
use Rattle.disco_hub.specs.Kept.{IsCopiedAsKept}
use Rattle.disco_hub.specs.State.{HubState, HubStandsFor, rules_of, version_of}
use Rattle.disco_hub.specs.Transitions.{BeginsRound, EndsRound}
use Rattle.disco_hub.specs.declared.copied.Copied.{Copied}
use Rattle.disco_hub.proofs.KeySets.{same_len}
use Rattle.disco_hub.specs.Stored.{add_within}
use Rattle.disco_hub.proofs.Levels.{begun_levels, copied_is, copied_levels, ended_edition, ended_len, ended_levels, first_levels, plain_levels}
use Rattle.disco_world.specs.Events.{Effect, World, begins, copies, publishes, looks, restarts}
use Rattle.disco_world.specs.Outcomes.{Cache, after, new_cache, outcome}
use Rattle.disco_world.specs.Levels.{AreLevelsOf, Copies, Looks}
use Rattle.disco_world.specs.Steps.{cache_of, changes_since, is_plain, only_asks}
use Rattle.disco_world.specs.Rounds.{Press, all_of}
use Rattle.disco_world.specs.declared.event.Reply.{Reply}
use Rattle.disco_world.specs.declared.event.Reply.TheVariants as reply
use Rattle.disco_world.specs.declared.levels.CacheLevels.{CacheLevels}
use Rattle.disco_world.proofs.Known.{Extends, extends_same}
use Rattle.disco_world.proofs.EffectParts.{noted_to, parts}

-- ---- how many keys a round has

longer_set : (most : ℕ) (ks : KeySet) (k : DocKey) → len ks ≤ len (add_within most ks k)
longer_set most ks k = one (nat_lt (len ks) most)
  where
    two : (b : Bool) (n : ℕ) → n ≤ cond b n (n + 1)
    two true n = omega arith
    two false n = omega arith

    one : (b : Bool) → len ks ≤ len (cond b (insert ks k tt) ks)
    one true = subst (λ n. len ks ≤ n) (sym (len-insert docs_total ks k tt)) (two _ (len ks))
    one false = omega arith

longer_by : (most : ℕ) (js : List DocKey) (ks : KeySet) → len ks ≤ len (fold (add_within most) ks js)
longer_by most [] ks = omega arith
longer_by most (j ∷ js) ks = omega (arith, longer_set most ks j, longer_by most js (add_within most ks j))

many_keys : (m : KeySet) → length (keys m) ≡ len m
many_keys m = length-map _ _ ∙ sym (len-entries m)

-- a round has no fewer keys than the edition
edition_fits : (edition : KeySet) (kept : Docs) → len edition ≤ length (round_keys edition kept)
edition_fits edition kept = omega (arith, longer_by kept.max (keys kept.docs) edition, many_keys (fold (add_within kept.max) edition (keys kept.docs)))

-- ---- the levels after an effect

history_on : (p q : Past) → Extends (history p) (history q) → history q ≡ history p ++ changes_since p q
history_on p q ext = sym (take-append-drop (length (history p)) (history q)) ∙ ap (λ h. h ++ changes_since p q) ext.begins

-- an effect of the hub alone
pub plainly : (old new : CacheLevels) (w v : World) → AreLevelsOf old w → v.press ≡ noted_to w v.past → v.past.run ≡ w.past.run → Extends (history w.past) (history v.past)
    → HubStandsFor new.hub v.past → new.hub.rounds ≡ old.hub.rounds → new.published ≡ old.published → new.next ≡ old.next → AreLevelsOf new v
plainly old new w v was press run ext stands rounds published next =
    let s = w.press in
    let levels = plain_levels old.hub new.hub old.next new.next s.published s.pending w.past was.levels v.past (changes_since w.past v.past) run (history_on w.past v.past ext) stands rounds next in record {
      levels = subst (λ (t : Press). AreLevels new.hub new.next t.published t.pending v.past) (sym press) levels;
      published = published ∙ was.published ∙ ap (λ (t : Press). edition_of t.published) (sym press);
    }

module _ (old new : CacheLevels) (w : World) (was : AreLevelsOf old w) where
  abbrev s : Press
  s = w.press

  -- how it turns by an effect and a reply
  abbrev Turned : Effect → Reply → Type 0
  Turned what r = AreLevelsOf new (after (rules_of old.hub) w what r) × (outcome (rules_of old.hub) w what r).may (cache_of old.hub) (cache_of new.hub)

  pub begun_turns : (n : ℕ) → BeginsRound old.hub new.hub n → new.published ≡ old.published → new.next ≡ empty → Turned begins (reply.Begun n)
  begun_turns n begins_round published next =
      let is = begins_round.begun in
      let edition = old.hub.rounds.edition in
      let many : len (edition_of s.published) ≡ len edition = same_len (edition_of s.published) edition was.levels.pressed.in_step.keys in (
        record {
          levels = begun_levels old.hub new.hub old.next new.next s.published s.pending w.past was.levels n is begins_round.rest next;
          published = published ∙ was.published;
        },
        (is, omega (arith, many, edition_fits edition old.hub.docs, is.many), ap (λ (h : HubState). h.docs) begins_round.rest),
      )

  -- what is copied of the first key that is left, by a version and a base
  abbrev CopiedBy : Copied → Option Round → ℕ → ℕ → Type 0
  CopiedBy c o version base = IfSome o (λ r. IfSome (slice_get r.left 0) (λ k. IsCopiedAsKept version base old.hub.docs k c))

  -- it is as it is kept
  as_kept : (c : Copied) (before : Round) (k : DocKey) (left : List DocKey) → old.hub.rounds.round ≡ Some before → before.left ≡ k ∷ left → CopiedBy c old.hub.rounds.round (version_of old.hub) old.hub.core.queue.base
      → IsCopiedAsKept (length (history w.past)) w.past.base old.hub.docs k c
  as_kept c before k left was_open first kept =
      let stands = was.levels.stands in
      let by_past = subst (λ n. CopiedBy c old.hub.rounds.round n w.past.base) stands.core.registry.version (subst (λ b. CopiedBy c old.hub.rounds.round (version_of old.hub) b) stands.core.queue.base kept) in
      subst (λ ks. IfSome (slice_get ks 0) (λ k. IsCopiedAsKept (length (history w.past)) w.past.base old.hub.docs k c)) first (subst (λ o. CopiedBy c o (length (history w.past)) w.past.base) was_open by_past)

  pub copied_turns : (c : Copied) → Copies old new c → Turned copies (reply.Copied c)
  copied_turns c is =
      let m = is.one.marked in (
        record {
          levels = copied_levels old.hub new.hub old.next new.next s.published s.pending w.past was.levels c is.one.copied.copied m is.one.rest is.next;
          published = is.published ∙ was.published;
        },
        (
          m,
          copied_is old.hub new.hub old.next new.next s.published s.pending w.past was.levels c is.one.copied.copied m.before m.marks.key m.after.left m.was m.marks.first,
          as_kept c m.before m.marks.key m.after.left m.was m.marks.first is.one.copied.as_kept,
          ap (λ (h : HubState). h.docs) is.one.rest,
        ),
      )

  pub published_turns : (n k : ℕ) → EndsRound old.hub new.hub k → new.published ≡ old.next → n ≡ len new.published → Turned publishes (reply.Published n)
  published_turns n k ends published many =
      let is = ends.finished in
      let shown : new.published ≡ edition_of (all_of s) = published ∙ ended_edition old.hub new.hub old.next new.next s.published s.pending w.past was.levels k is in
      let shows_many : n ≡ len (edition_of (all_of s)) = many ∙ ap (λ (m : Edition). len m) shown in (
        record {
          levels = ended_levels old.hub new.hub old.next new.next s.published s.pending w.past was.levels k is ends.rest;
          published = shown;
        },
        (
          record { round = is.round; was = is.was; whole = is.whole; edition = is.edition; many = shows_many ∙ ended_len old.hub new.hub old.next new.next s.published s.pending w.past was.levels k is },
          shows_many,
          ap (λ (h : HubState). h.docs) ends.rest,
        ),
      )

-- ---- another run begins

pub restarted_turns : (old new : CacheLevels) (w : World) (run : ℕ) → w.past.run < run → HubStandsFor new.hub (nothing run) → cache_of new.hub ≡ new_cache old.hub.docs.max → new.published ≡ empty
    → AreLevelsOf new (after (rules_of old.hub) w (restarts run) (reply.Restarted run)) × (outcome (rules_of old.hub) w (restarts run) (reply.Restarted run)).may (cache_of old.hub) (cache_of new.hub)
restarted_turns old new w run later stands cache published = (
  record {
    levels = first_levels run new.hub new.next stands (ap (λ (c : Cache). c.rounds) cache);
    published = published;
  },
  (refl, later, cache),
)

-- ---- what changes nothing

-- an effect that only asks
pub quiet_turns : (rules : Rules) (s : CacheLevels) (w : World) (what : Effect) (r : Reply) → AreLevelsOf s w → only_asks what ≡ true → is_plain what r ≡ true → AreLevelsOf s (after rules w what r)
quiet_turns rules s w what r was asks plain =
    let are = parts rules w what r in
    let past = are.quiet asks in
    plainly s s w (after rules w what r) was (are.press plain) (ap (λ (p : Past). p.run) past) (subst (λ p. Extends (history w.past) (history p)) (sym past) (extends_same (history w.past)))
    (subst (λ p. HubStandsFor s.hub p) (sym past) was.levels.stands) refl refl refl

-- what an edition has at a key is what readers see
pub looked : (rules : Rules) (w : World) (m : Edition) (k : DocKey) (r : Reply) (s : Cache) → m ≡ edition_of w.press.published → Looks m k r → (outcome rules w (looks (Some k)) r).may s s
looked rules w m k (reply.Doc d) s is found = (ap (λ (e : Edition). get e k) (sym is) ∙ found, refl)
looked rules w m k reply.Missed s is found = (ap (λ (e : Edition). get e k) (sym is) ∙ found, refl)
looked rules w m k (reply.Refused f) s is found = (found, refl)
looked rules w m k r s is found = absurd found
