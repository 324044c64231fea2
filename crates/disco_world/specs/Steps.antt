-- What private contracts say of one event. Nothing here is to be believed: the clauses of `run` don't cite it.
use Rattle.std.specs.Prelude.{◌≡◌, ◌≢◌, ℕ, Bool, true, false, List, drop, length, Option, Some, None, Result, Ok, Err, slice_get}
use Rattle.std.specs.BTreeMap as tree
use Rattle.std.specs.Ordering.{nat_cmp}
use Rattle.std.specs.declared.alloc.Global.{Global}
use Rattle.std.specs.declared.sync.Arc.{Arc}
use Rattle.disco_instance.specs.Row.{Row}
use Rattle.disco_values.specs.declared.fault.Fault.{Fault}
use Rattle.disco_values.specs.declared.fault.Fault.TheVariants.{NotFetched, OutOfMemory}
use Rattle.disco_history.specs.Change.{Entry}
use Rattle.disco_registry.specs.declared.op.Applied.{Applied}
use Rattle.disco_registry.specs.declared.op.Applied.TheVariants as applied
use Rattle.disco_wire.specs.Documents.{document_of}
use Rattle.disco_wire.specs.Meaning.{Meaning}
use Rattle.disco_wire.specs.declared.wire.Shape.TheVariants as shapes
use Rattle.disco_cache.specs.declared.payload.Payload.{Payload}
use Rattle.disco_core.specs.Past.{Past, history}
use Rattle.disco_core.specs.State.{Rules}
use Rattle.disco_hub.specs.State.{HubState, HubStandsFor, rules_of}
use Rattle.disco_client.specs.declared.certified.CertifiedCopy.{CertifiedCopy}
use Rattle.disco_client.specs.declared.known.Known.{Known}
use Rattle.disco_world.specs.Clients.{IsGiven, IsTakenReply, client_after, given, takes_it, with_one}
use Rattle.disco_world.specs.Events.{Effect, World, begins, copies, publishes, looks, takes, certifies, shows, shows_certified, restarts, doc_of_event, effect}
use Rattle.disco_world.specs.Outcomes.{Cache, outcome, world}
use Rattle.disco_world.specs.declared.clients.Client.{Client}
use Rattle.disco_world.specs.declared.clients.Clients.{Clients}
use Rattle.disco_world.specs.declared.event.Event.{Event}
use Rattle.disco_world.specs.declared.event.Reply.{Reply}
use Rattle.disco_world.specs.declared.event.Reply.TheVariants.{Changed, Same, Begun, Published, Restarted, Refused}
use Rattle.disco_world.specs.declared.event.Reply.TheVariants as replied
use Rattle.disco_world.specs.declared.event.Reply.TheVariants.{Taken, Certified, Held}
use Rattle.disco_world.specs.declared.instance_summary.InstanceSummary.{InstanceSummary}

-- the reply to a write, after which there are so many versions
abbrev pub reply_to : Result Applied Fault → ℕ → Reply
reply_to (Ok (applied.Changed c)) version = Changed version
reply_to (Ok applied.Same) version = Same
reply_to (Err e) version = Refused e

-- the reply to a load
abbrev pub reply_of : Result (Arc Payload Global) Fault → Reply
reply_of (Ok p) = replied.Doc p
reply_of (Err e) = Refused e

-- the reply to a take
abbrev pub reply_to_take : Result (Bool × Option ℕ) Fault → Reply
reply_to_take (Ok told) = Taken told.0 told.1
reply_to_take (Err e) = Refused e

-- the reply to a document for a certified client: where the copy is known then
abbrev pub reply_to_give : Result (Bool × Known) Fault → Reply
reply_to_give (Ok told) = Certified told.0 told.1.run told.1.version
reply_to_give (Err e) = Refused e

-- the reply to a show
abbrev pub reply_to_show : Result (List InstanceSummary) Fault → Reply
reply_to_show (Ok listed) = Held listed
reply_to_show (Err e) = Refused e

-- ---- what an effect with that reply makes of each part of what has happened

-- the reply may be given between two states of what is kept and copied
pub record IsAnswer (rules : Rules) (w : World) (what : Effect) (reply : Reply) : Type 0 where
  pub old : Cache
  pub new : Cache
  pub may : (outcome rules w what reply).may old new

-- each reply may be given so
abbrev pub AreAnswered : Rules → ℕ → List Event → List Reply → Type 0
AreAnswered rules run events replies = (i : ℕ) (event : Event) (reply : Reply) → slice_get events i ≡ Some event → slice_get replies i ≡ Some reply
    → let w = world rules run events replies i in IsAnswer rules w (effect rules w event) reply

-- the clients' copies
abbrev pub clients_after : (ℕ → Option Client) → Effect → Reply → ℕ → Option Client
clients_after clients (takes client d) (Taken equal version) = with_one clients client (client_after d (clients client))
clients_after clients _ _ = clients

-- and those of the certified clients
abbrev pub certified_after : (ℕ → Option CertifiedCopy) → Effect → Reply → ℕ → Option CertifiedCopy
certified_after clients (certifies client d) (Certified taken run version) = with_one clients client (given d (clients client))
certified_after clients _ _ = clients

-- the changes that the second past has behind the first
abbrev pub changes_since : Past → Past → List Entry
changes_since p q = drop (length (history p)) (history q)

-- the effect begins no run
abbrev pub goes_on : Effect → Reply → Bool
goes_on (restarts run) (Restarted r) = false
goes_on _ _ = true

-- the effect is no step of a round and no restart, so that only changes are noted
abbrev pub is_plain : Effect → Reply → Bool
is_plain begins (Begun n) = false
is_plain copies (replied.Copied c) = false
is_plain publishes (Published n) = false
is_plain (restarts run) (Restarted r) = false
is_plain _ _ = true

-- the effect leaves the registry as it is, whatever the reply
abbrev pub only_asks : Effect → Bool
only_asks (looks key) = true
only_asks (takes client d) = true
only_asks (certifies client d) = true
only_asks (shows client) = true
only_asks (shows_certified client) = true
only_asks _ = false

-- ---- calls

-- what a hub keeps and copies
abbrev pub cache_of : HubState → Cache
cache_of s = record { docs = s.docs; rounds = s.rounds }

-- a hub answers an effect, then stands for what has happened with it, and keeps what it leaves
abbrev pub Performs : HubState → HubState → (World → Effect) → Reply → Type 0
Performs old new what reply = (w : World) → HubStandsFor old w.past → HubStandsFor new (outcome (rules_of old) w (what w) reply).next.past
    × (outcome (rules_of old) w (what w) reply).may (cache_of old) (cache_of new)

-- the document means that, which is of many apps
abbrev pub IsMeant : Payload → Meaning → Type 0
IsMeant d m = (document_of d.text ≡ Ok m) × (m.shape ≡ shapes.Many)

abbrev pub IsReadable : Payload → Type 0
IsReadable d = (m : Meaning) × IsMeant d m

-- a client takes a document, or is refused it and all is as before
abbrev pub ClientTakes : (ℕ → Option Client) → (ℕ → Option Client) → ℕ → Payload → Result (Bool × Option ℕ) Fault → Type 0
ClientTakes old new client d (Ok told) = IsTakenReply d (client_after d (old client)) told.0 told.1
    × ((q : ℕ) → new q ≡ with_one old client (client_after d (old client)) q)
ClientTakes old new client d (Err e) = (e ≢ OutOfMemory → (e ≡ NotFetched) × (client_after d (old client) ≡ None)) × ((q : ℕ) → new q ≡ old q)

-- a copy is given a document: what it is then, and whether it took it
pub record IsTurned (d : Payload) (old new : CertifiedCopy) (taken : Bool) : Type 0 where
  pub now : given d (Some old) ≡ Some new
  pub taken_is : taken ≡ takes_it d (Some old)

-- a certified client is given a document, or is refused it and all is as before
abbrev pub ClientIsGiven : (ℕ → Option CertifiedCopy) → (ℕ → Option CertifiedCopy) → ℕ → Payload → Result (Bool × Known) Fault → Type 0
ClientIsGiven old new client d (Ok told) = IsGiven d (old client) told.0 told.1.run told.1.version
    × ((q : ℕ) → new q ≡ with_one old client (given d (old client)) q)
ClientIsGiven old new client d (Err e) = (e ≢ OutOfMemory → (e ≡ NotFetched) × (given d (old client) ≡ None)) × ((q : ℕ) → new q ≡ old q)

-- each of these documents can be read
abbrev pub AreReadable : List Reply → Type 0
AreReadable replies = (event : ℕ) (d : Payload) → doc_of_event replies event ≡ Some d → IsReadable d

abbrev pub summary_of : Row → InstanceSummary
summary_of r = record { key = r.key; status = r.status }

-- the clients that have a copy, plain and certified, by their numbers
pub record Holders : Type 0 where
  pub plain : ℕ → Option Client
  pub certified : ℕ → Option CertifiedCopy

abbrev pub holders : Clients → Holders
holders c = record { plain = tree.get nat_cmp c.plain; certified = tree.get nat_cmp c.certified }

-- the clients are those of what has happened
abbrev pub AreHeld : Holders → World → Type 0
AreHeld held w = ((q : ℕ) → held.plain q ≡ w.clients q) × ((q : ℕ) → held.certified q ≡ w.certified q)
