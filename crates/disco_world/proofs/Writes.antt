-- What a hub answers to a write, and what it stands for then.
use Rattle.std.proofs.Common.{◌≡◌, ◌≢◌, ℕ, ◌+◌, [], ◌∷◌, length, true, Option, Some, Result, Ok, Err, IfOk, IfErr, OnErr, refl, sym, ap, subst, ◌∙◌}
use Rattle.std.proofs.lemmas.List.{length-append, length-map}
use Rattle.disco_instance.specs.Instance.{Gives}
use Rattle.disco_values.specs.declared.fault.Fault.{Fault}
use Rattle.disco_values.specs.declared.fault.Fault.TheVariants.{OutOfMemory}
use Rattle.disco_history.specs.Change.{Entry}
use Rattle.disco_core.specs.Past.{Past, after_ask, history, with_done}
use Rattle.disco_hub.specs.State.{HubState, HubStandsFor, rules_of, version_of}
use Rattle.disco_hub.specs.Transitions.{Declines, IsDocOf, Loads, Withholds, Writes}
use Rattle.disco_values.specs.declared.doc_key.DocKey.{DocKey}
use Rattle.disco_cache.specs.declared.payload.Payload.{Payload}
use Rattle.std.specs.Option.{option_map_or}
use Rattle.std.specs.declared.alloc.Global.{Global}
use Rattle.std.specs.declared.sync.Arc.{Arc}
use Rattle.disco_registry.specs.Accept.{accept_after, accepts}
use Rattle.disco_registry.specs.Commit.{done_by}
use Rattle.disco_registry.specs.Op.{OpView}
use Rattle.disco_registry.specs.declared.op.Applied.{Applied}
use Rattle.disco_registry.specs.declared.op.Applied.TheVariants as applied
use Rattle.disco_registry.proofs.Histories.{accepts_after}
use Rattle.disco_queue.specs.Timed.{Timed}
use Rattle.disco_world.specs.Events.{Effect, World, loads, writes}
use Rattle.disco_world.specs.Outcomes.{after, outcome}
use Rattle.disco_core.specs.Refusals.{loaded}
use Rattle.disco_world.specs.declared.event.Reply.{Reply}
use Rattle.disco_world.specs.declared.event.Reply.TheVariants.{Refused}
use Rattle.disco_world.specs.Levels.{AreLevelsOf}
use Rattle.std.specs.FinMap.{get}
use Rattle.disco_hub.specs.Kept.{IsAsKept, IsKeptOrNew}
use Rattle.disco_world.specs.Steps.{AreHeld, Performs, Holders, cache_of, certified_after, clients_after, goes_on, is_plain, reply_of, reply_to}
use Rattle.disco_world.specs.declared.levels.CacheLevels.{CacheLevels}
use Rattle.disco_world.proofs.EffectParts.{parts}
use Rattle.disco_world.proofs.LevelEffects.{plainly}

-- what a hub does is done after all that it stands for
at_history : (s : HubState) (p : Past) (ask : OpView) (now : ℕ) → HubStandsFor s p → accepts s.core.registry ask now ≡ accept_after (rules_of s).limits (history p) ask now
at_history s p ask now stands = accepts_after s.core.registry (history p) stands.core.registry ask now

gives : (old new : HubState) (p : Past) (ask : OpView) (now : ℕ) (r : Result Applied Fault) → HubStandsFor old p → IfOk r (λ a. Writes old new ask now (done_by a)) → IfErr r (Declines old new ask now) → Gives done_by r (accept_after (rules_of old).limits (history p) ask now)
gives old new p ask now (Ok a) stands done refused = sym (at_history old p ask now stands) ∙ done.accepted
gives old new p ask now (Err e) stands done refused = λ other. sym (at_history old p ask now stands) ∙ refused.cause other

-- the history is longer by its change
one_longer : (most : ℕ) (p : Past) (now : ℕ) (ask : OpView) (c : Entry) → length (history (with_done most p now ask (Some c))) ≡ length (history p) + 1
one_longer most p now ask c =
    length-map (with_done most p now ask (Some c)).timed (λ (t : Timed). t.0) ∙ length-append p.timed ((c, now) ∷ []) ∙ ap (λ n. n + 1) (sym (length-map p.timed (λ (t : Timed). t.0)))

-- what is kept, where the rounds stay
kept_on : (old new : HubState) → new.rounds ≡ old.rounds → new.docs ≡ old.docs → cache_of new ≡ cache_of old
kept_on old new rounds docs = λ i. record { docs = docs i; rounds = rounds i }

module _ (old new : HubState) (w : World) (now : ℕ) (ask : OpView) (stands : HubStandsFor old w.past) (rounds : new.rounds ≡ old.rounds) where
  -- it stands for what has happened after an accepted operation
  stands_now : (c : Option Entry) → Writes old new ask now c → accept_after (rules_of old).limits (history w.past) ask now ≡ Ok c → HubStandsFor new (after_ask (rules_of old).queue w.past now ask (accept_after (rules_of old).limits (history w.past) ask now))
  stands_now c wrote is = subst (HubStandsFor new) (sym (ap (after_ask (rules_of old).queue w.past now ask) is)) (wrote.history w.past stands)

  goes_so : (r : Result Applied Fault) → Gives done_by r (accept_after (rules_of old).limits (history w.past) ask now) → IfOk r (λ a. Writes old new ask now (done_by a)) → IfErr r (Declines old new ask now)
      → HubStandsFor new (outcome (rules_of old) w (writes now (Ok ask)) (reply_to r new.core.registry.version)).next.past
      × (outcome (rules_of old) w (writes now (Ok ask)) (reply_to r new.core.registry.version)).may (cache_of old) (cache_of new)
  goes_so (Ok (applied.Changed c)) gives wrote refused = (
    stands_now (done_by (applied.Changed c)) wrote gives,
    (_, gives, (wrote.history w.past stands).core.registry.version ∙ one_longer (rules_of old).queue w.past now ask _, wrote.docs w.past stands, rounds),
  )
  goes_so (Ok applied.Same) gives wrote refused = (stands_now (done_by applied.Same) wrote gives, (gives, kept_on old new rounds (wrote.docs w.past stands)))
  goes_so (Err e) gives wrote refused = (refused.history w.past stands, (gives, kept_on old new rounds refused.docs))

pub does : (old new : HubState) (ask : OpView) (now : ℕ) (r : Result Applied Fault) → new.rounds ≡ old.rounds → IfOk r (λ a. Writes old new ask now (done_by a)) → IfErr r (Declines old new ask now)
    → Performs old new (λ _. writes now (Ok ask)) (reply_to r new.core.registry.version)
does old new ask now r rounds done refused = λ w stands. goes_so old new w now ask stands rounds r (gives old new w.past ask now r stands done refused) done refused

-- what is no operation is refused for its cause
pub declines : (s : HubState) (asked : Result OpView Fault) (now : ℕ) (f : Fault) → (f ≢ OutOfMemory → asked ≡ Err f) → Performs s s (λ _. writes now asked) (Refused f)
declines s (Ok ask) now f is = λ w stands. (stands, (λ other. let bad = is other in absurd (cc), refl))
declines s (Err cause) now f is = λ w stands. (stands, (λ other. let same = is other in cc, refl))

-- ---- loads

-- the document of that key, unless there is a cause against it
abbrev unless : DocKey → Option Fault → Result DocKey Fault
unless k o = option_map_or (λ e. Err e) o (Ok k)

-- what is kept or of now is so by what has happened
kept_or_new : (s : HubState) (p : Past) → HubStandsFor s p → (o : Option Payload) (d : Payload) → IsKeptOrNew (version_of s) s.core.queue.base o d → IsKeptOrNew (length (history p)) p.base o d
kept_or_new s p stands o d is = subst (λ n. IsKeptOrNew n p.base o d) stands.core.registry.version (subst (λ b. IsKeptOrNew (version_of s) b o d) stands.core.queue.base is)

pub loads_so : (old new : HubState) (key : DocKey) (r : Result (Arc Payload Global) Fault) → IfOk r (λ d. IsDocOf old (rules_of old).delta key d.value) → IfErr r (Withholds old (rules_of old).delta key) → IfOk r (λ d. Loads old new key d.value) → OnErr r (new ≡ old) → Performs old new (λ w. loads (loaded (rules_of old).delta key (history w.past))) (reply_of r)
loads_so old new key (Ok d) may refused did same = λ w stands. (
  did.history w.past stands,
  (
    ap (unless key) (may.allowed w.past stands) ∙ ap (λ k. Ok k) (sym may.key),
    may.served w.past stands,
    subst (λ k. IsAsKept (length (history w.past)) w.past.base old.docs k d.value) (sym may.key) (kept_or_new old w.past stands (get old.docs.docs key) d.value did.as_kept),
    did.keeps,
    ap (λ (s : HubState). s.rounds) did.rest,
  ),
)
loads_so old new key (Err e) may refused did same = λ w stands. (
  subst (λ (s : HubState). HubStandsFor s w.past) (sym same) stands,
  (λ other. ap (unless key) (refused other w.past stands), ap cache_of same),
)

-- ---- the levels and the clients

module _ (old new : CacheLevels) (held : Holders) (w : World) (what : Effect) (r : Reply) (plain : clients_after w.clients what r ≡ w.clients) (certified : certified_after w.certified what r ≡ w.certified) (are : AreHeld held w) where
  abbrev v : World
  v = after (rules_of old.hub) w what r

  abbrev May : Type 0
  May = (outcome (rules_of old.hub) w what r).may (cache_of old.hub) (cache_of new.hub)

  -- an effect that gives no client a document leaves the clients
  held_on : AreHeld held v
  held_on =
      let are_now = parts (rules_of old.hub) w what r in
      (λ q. are.0 q ∙ ap (λ f. f q) (sym (are_now.clients ∙ plain)), λ q. are.1 q ∙ ap (λ f. f q) (sym (are_now.certified ∙ certified)))

  -- an effect that the hub answers alone
  pub with_hub : goes_on what r ≡ true → is_plain what r ≡ true → AreLevelsOf old w → new.hub.rounds ≡ old.hub.rounds → new.published ≡ old.published → new.next ≡ old.next → HubStandsFor new.hub v.past × May → AreLevelsOf new v × AreHeld held v × May
  with_hub goes notes levels rounds published next so =
      let are_now = parts (rules_of old.hub) w what r in
      let on = are_now.goes goes in
      (plainly old new w v levels (are_now.press notes) on.run on.extends so.0 rounds published next, held_on, so.1)

  -- an effect of a publisher or of a reader, or a restart
  pub with_turn : AreLevelsOf new v × May → AreLevelsOf new v × AreHeld held v × May
  with_turn so = (so.0, held_on, so.1)
