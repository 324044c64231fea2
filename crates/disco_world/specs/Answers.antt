-- What lists of events answer.
use Rattle.std.specs.Prelude.{◌≡◌, ◌⊎◌, ℕ, ◌+◌, ◌≤◌, List, length, Some, Ok, slice_get}
use Rattle.std.specs.declared.alloc.Global.{Global}
use Rattle.std.specs.declared.sync.Arc.{Arc}
use Rattle.disco_values.specs.declared.fault.Fault.{Fault}
use Rattle.disco_values.specs.declared.fault.Fault.TheVariants.{BadEvent}
use Rattle.disco_core.specs.Past.{history}
use Rattle.disco_core.specs.State.{Rules}
use Rattle.disco_hub.specs.Press.{IsPressed}
use Rattle.disco_hub.specs.State.{MayServe}
use Rattle.disco_cache.specs.declared.payload.Payload.{Payload}
use Rattle.disco_client.specs.Tracks.{IsVersionIn}
use Rattle.disco_client.specs.declared.certified.CertifiedCopy.{CertifiedCopy}
use Rattle.disco_client.specs.declared.known.Known.{Known}
use Rattle.disco_world.specs.declared.clients.Client.{Client}
use Rattle.disco_world.specs.Events.{loads, looks, bad, effect}
use Rattle.disco_world.specs.Outcomes.{Cache, history_of, new_cache, outcome, world}
use Rattle.disco_world.specs.declared.event.Event.{Event}
use Rattle.disco_world.specs.declared.event.Reply.{Reply}
use Rattle.disco_world.specs.declared.event.Reply.TheVariants as replied

-- what was kept and copied before each event and after the last one: nothing at first; each reply may be given between
-- what there was before its event and what there is after it, so each answered event can be run; and what was noted is
-- in step with the rounds
pub record AreAnswers (most : ℕ) (rules : Rules) (run : ℕ) (events : List Event) (replies : List Reply) : Type 0 where
  pub caches : ℕ → Cache
  pub first : caches 0 ≡ new_cache most
  pub each : (i : ℕ) (event : Event) (reply : Reply) → slice_get events i ≡ Some event → slice_get replies i ≡ Some reply
      → let w = world rules run events replies i in (outcome rules w (effect rules w event) reply).may (caches i) (caches (i + 1))
  pub pressed : (i : ℕ) → i ≤ length replies → let w = world rules run events replies i in
      IsPressed w.past.run w.press.published w.press.pending (history w.past) (caches i).rounds.edition (caches i).rounds.round

-- each document that is answered may be served after the first so many events, no earlier than the last published round began, or than the run did
-- where it published none: to a load of its key after all up to it, and to a look for its key
abbrev pub AreServed : Rules → ℕ → List Event → List Reply → Type 0
AreServed rules run events replies = (i : ℕ) (event : Event) (d : Arc Payload Global) → slice_get events i ≡ Some event → slice_get replies i ≡ Some (replied.Doc d)
    → let w = world rules run events replies in let what = effect rules (w i) event in
    (after : ℕ) × ((w (i + 1)).press.floor ≤ after) × (after ≤ i + 1) × MayServe d.value (w after).past
    × (((what ≡ loads (Ok d.value.key)) × (after ≡ i + 1)) ⊎ (what ≡ looks (Some d.value.key)))

-- each client's copy that is known at a version of a run is exactly that version of the run's history, in its form, after any number of events
abbrev pub AreKnown : Rules → ℕ → List Event → List Reply → Type 0
AreKnown rules run events replies = (i : ℕ) (client : ℕ) (c : Client) (at : Known) → let w = world rules run events replies i in
    w.clients client ≡ Some c → c.known ≡ Some at → IsVersionIn (history_of w at.run) at c.copy

-- each certified client's copy is exactly the version that it shows of its run's history, in its form, after any number of events
abbrev pub AreExact : Rules → ℕ → List Event → List Reply → Type 0
AreExact rules run events replies = (i : ℕ) (client : ℕ) (k : CertifiedCopy) → let w = world rules run events replies i in w.certified client ≡ Some k
    → IsVersionIn (history_of w k.known.run) k.known k.copy

-- from one event to the next no certified client loses its copy, and while the copy's run stays its version doesn't
-- decrease
abbrev pub NeverFall : Rules → ℕ → List Event → List Reply → Type 0
NeverFall rules run events replies = (i : ℕ) (client : ℕ) (k : CertifiedCopy) → (world rules run events replies i).certified client ≡ Some k
    → (l : CertifiedCopy) × ((world rules run events replies (i + 1)).certified client ≡ Some l)
    × (l.known.run ≡ k.known.run → k.known.version ≤ l.known.version)

-- the fault names the first event that can't be run, by its number from 1: those before it are answered, and each of these answers may be want of
-- memory, which a caller that gets the fault isn't told
pub record IsFirstBadEvent (most : ℕ) (rules : Rules) (run : ℕ) (events : List Event) (fault : Fault) : Type 0 where
  pub replies : List Reply
  pub event : Event
  pub before : AreAnswers most rules run events replies
  pub is_next : slice_get events (length replies) ≡ Some event
  pub is_bad : effect rules (world rules run events replies (length replies)) event ≡ bad
  pub number : fault ≡ BadEvent (length replies + 1)
