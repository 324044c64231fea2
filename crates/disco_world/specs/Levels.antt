-- What private contracts say of the two levels of documents. Nothing here is to be believed: the clauses of `run` don't cite it.
use Rattle.std.specs.Prelude.{◌≡◌, Some, None}
use Rattle.std.specs.FinMap.{get}
use Rattle.disco_values.specs.declared.fault.Fault.TheVariants.{OutOfMemory}
use Rattle.disco_values.specs.declared.doc_key.DocKey.{DocKey}
use Rattle.disco_core.specs.State.{Rules}
use Rattle.disco_hub.specs.Levels.{AreLevels}
use Rattle.disco_hub.specs.Press.{put_copy, Edition, edition_of}
use Rattle.disco_hub.specs.State.{HubState, rules_of}
use Rattle.disco_hub.specs.Transitions.{CopiesOne}
use Rattle.disco_hub.specs.declared.copied.Copied.{Copied}
use Rattle.disco_world.specs.Events.{Effect, World, effect, query_asked}
use Rattle.disco_world.specs.Outcomes.{after, outcome}
use Rattle.disco_world.specs.Steps.{AreHeld, Holders, cache_of}
use Rattle.disco_world.specs.declared.event.Event.{Event}
use Rattle.disco_world.specs.declared.event.Reply.{Reply}
use Rattle.disco_world.specs.declared.event.Reply.TheVariants.{Missed, Refused}
use Rattle.disco_world.specs.declared.event.Reply.TheVariants as replied
use Rattle.disco_world.specs.declared.levels.CacheLevels.{CacheLevels}

-- the levels are those of what has happened
pub record AreLevelsOf (s : CacheLevels) (w : World) : Type 0 where
  pub levels : AreLevels s.hub s.next w.press.published w.press.pending w.past
  pub published : s.published ≡ edition_of w.press.published

-- they answer an effect, and are then those of what has happened with it
abbrev pub Turns : CacheLevels → CacheLevels → (World → Effect) → Reply → Type 0
Turns old new what reply = (w : World) → AreLevelsOf old w → AreLevelsOf new (after (rules_of old.hub) w (what w) reply)
    × (outcome (rules_of old.hub) w (what w) reply).may (cache_of old.hub) (cache_of new.hub)

-- they and the clients answer an event, and are then those of what has happened with it
abbrev pub AnswersEvent : Rules → World → Event → Reply → HubState → CacheLevels → Holders → Type 0
AnswersEvent rules w e r old new held = let what = effect rules w e in
    AreLevelsOf new (after rules w what r) × AreHeld held (after rules w what r) × (outcome rules w what r).may (cache_of old) (cache_of new.hub)

-- the first key that was left was copied so, and put in or taken out
pub record Copies (old new : CacheLevels) (c : Copied) : Type 0 where
  pub one : CopiesOne old.hub new.hub c
  pub published : new.published ≡ old.published
  pub next : new.next ≡ put_copy old.next c

abbrev pub key_looked : DocKey → DocKey
key_looked k = record { query = query_asked k.query; form = k.form }

-- what an edition has at a key is found, or there was no memory
abbrev pub Looks : Edition → DocKey → Reply → Type 0
Looks m k (replied.Doc d) = get m k ≡ Some d.value
Looks m k Missed = get m k ≡ None
Looks m k (Refused e) = e ≡ OutOfMemory
Looks m k _ = ⊥
