-- What has happened, and what events are for.
use Rattle.std.specs.Prelude.{ℕ, zero, suc, List, Bool, true, false, if◌then◌else◌, Option, Some, None, Result, Ok, slice_get}
use Rattle.std.specs.Option.{option_map_or}
use Rattle.disco_values.specs.Text.{in_upper_case}
use Rattle.disco_values.specs.declared.fault.Fault.{Fault}
use Rattle.disco_registry.specs.Op.{OpView, cancel, renew, set_status, drop_status, add_metadata}
use Rattle.disco_wire.specs.Registration.{registration_of}
use Rattle.disco_operations.specs.Operations.{key_named, registers}
use Rattle.disco_values.specs.declared.doc_key.DocKey.{DocKey}
use Rattle.disco_core.specs.Past.{Past, history}
use Rattle.disco_core.specs.Refusals.{loaded, loaded_by_id}
use Rattle.disco_core.specs.State.{Rules}
use Rattle.disco_values.specs.declared.query.Query.{Query}
use Rattle.disco_values.specs.declared.query.Query.TheVariants as query
use Rattle.disco_cache.specs.declared.payload.Payload.{Payload}
use Rattle.disco_client.specs.Tracks.{Histories}
use Rattle.disco_client.specs.declared.certified.CertifiedCopy.{CertifiedCopy}
use Rattle.disco_world.specs.Rounds.{Press}
use Rattle.disco_world.specs.declared.clients.Client.{Client}
use Rattle.disco_world.specs.declared.event.Event.{Event}
use Rattle.disco_world.specs.declared.event.Event.TheVariants as events
use Rattle.disco_world.specs.declared.event.Step.TheVariants.{Register, Cancel, Renew, SetStatus, DropStatus, Metadata, Load, LoadById, Clean}
use Rattle.disco_world.specs.declared.event.Step.TheVariants as steps
use Rattle.disco_world.specs.declared.event.Step.TheVariants.{Expire, Begin, Copy, Publish, Look, LookById, Show, ShowCertified, Restart}
use Rattle.disco_world.specs.declared.event.Reply.{Reply}
use Rattle.disco_world.specs.declared.event.Reply.TheVariants as replied

-- what has happened: to the registry in the run that is running, the histories of the runs that ended, what each event answered, the plain and the
-- certified clients that have a copy, and what was noted for readers
pub record World : Type 0 where
  pub past : Past
  pub ended : Histories
  pub replies : List Reply
  pub clients : ℕ → Option Client
  pub certified : ℕ → Option CertifiedCopy
  pub press : Press

-- what an event is for: an operation at a moment in milliseconds, or why it is none; a document, or why it isn't served; a cleaning at a moment; the
-- closing of a minute; a run at a moment that cancels instances whose leases ran out; the beginning of a round, a copy in it, and its publish; a look
-- for a document, if readers can see one of its kind; a document for a client, and one for a certified client; a look at a client's copy, and at a
-- certified client's; a restart of the server in a run; nothing that can be run
pub data Effect : Type 0 where
  writes : ℕ → Result OpView Fault → Effect
  loads : Result DocKey Fault → Effect
  cleans : ℕ → Effect
  closes : Effect
  expires : ℕ → Effect
  begins : Effect
  copies : Effect
  publishes : Effect
  looks : Option DocKey → Effect
  takes : ℕ → Payload → Effect
  certifies : ℕ → Payload → Effect
  shows : ℕ → Effect
  shows_certified : ℕ → Effect
  restarts : ℕ → Effect
  bad : Effect

-- what is asked for, with the name of an app in upper case
abbrev pub query_asked : Query → Query
query_asked (query.App name) = query.App (in_upper_case name)
query_asked (query.Instance k) = query.Instance (key_named k.app k.id)
query_asked q = q

-- a document of all apps, or a delta
abbrev pub for_clients : Query → Bool
for_clients query.Apps = true
for_clients query.Delta = true
for_clients _ = false

-- the document of a reply that a client can take, if it is one
abbrev pub doc_in : Option Reply → Option Payload
doc_in (Some (replied.Doc d)) = if for_clients d.value.key.query then Some d.value else None
doc_in _ = None

-- the document that the event of that number, from 1, answered
abbrev pub doc_of_event : List Reply → ℕ → Option Payload
doc_of_event replies zero = None
doc_of_event replies (suc i) = doc_in (slice_get replies i)

-- the table of events: what each is for after what has happened; a client can take an earlier document of all apps or delta alone
abbrev pub effect : Rules → World → Event → Effect
effect rules w (events.Step (Register now app json)) = writes now (registers app (registration_of json))
effect rules w (events.Step (Cancel now app id)) = writes now (Ok (cancel (key_named app id)))
effect rules w (events.Step (Renew now app id)) = writes now (Ok (renew (key_named app id)))
effect rules w (events.Step (SetStatus now app id status)) = writes now (Ok (set_status (key_named app id) status))
effect rules w (events.Step (DropStatus now app id status)) = writes now (Ok (drop_status (key_named app id) status))
effect rules w (events.Step (Metadata now app id entries)) = writes now (Ok (add_metadata (key_named app id) entries))
effect rules w (events.Step (Load key)) = loads (loaded rules.delta (record { query = query_asked key.query; form = key.form }) (history w.past))
effect rules w (events.Step (LoadById id form)) = loads (loaded_by_id id form (history w.past))
effect rules w (events.Step (Clean now)) = cleans now
effect rules w (events.Step steps.Minute) = closes
effect rules w (events.Step (Expire now)) = expires now
effect rules w (events.Step Begin) = begins
effect rules w (events.Step Copy) = copies
effect rules w (events.Step Publish) = publishes
effect rules w (events.Step (Look key)) = looks (Some (record { query = query_asked key.query; form = key.form }))
effect rules w (events.Step (LookById id form)) = looks None
effect rules w (events.Step (Show client)) = shows client
effect rules w (events.Step (ShowCertified client)) = shows_certified client
effect rules w (events.Step (Restart run)) = restarts run
effect rules w (events.Take client event) = option_map_or (takes client) (doc_of_event w.replies event) bad
effect rules w (events.Certify client event) = option_map_or (certifies client) (doc_of_event w.replies event) bad
