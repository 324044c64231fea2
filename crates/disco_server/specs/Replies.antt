-- Replies to requests (Eureka's REST operations), by what has happened before and happens after.
use Rattle.std.specs.Prelude.{◌≡◌, ◌⊎◌, ℕ, true, List, Option, Some, None, Result, Ok, Err}
use Rattle.std.specs.Arc.{arc_value}
use Rattle.std.specs.FinMap.{get}
use Rattle.disco_values.specs.declared.fault.Fault.{Fault}
use Rattle.disco_history.specs.Change.{Entry}
use Rattle.disco_registry.specs.Accept.{accept_after}
use Rattle.disco_registry.specs.Op.{OpView, register}
use Rattle.disco_values.specs.declared.doc_key.DocKey.{DocKey}
use Rattle.disco_cache.specs.Payloads.{cert_of}
use Rattle.disco_cache.specs.declared.payload.Payload.{Payload}
use Rattle.disco_core.specs.Past.{Past, history, with_done}
use Rattle.disco_core.specs.Refusals.{doc_of_key, loaded, loaded_by_id}
use Rattle.disco_core.specs.State.{Rules}
use Rattle.disco_hub.specs.Kept.{Keeps}
use Rattle.disco_hub.specs.State.{MayServe, HubStandsFor, HubState, rules_of}
use Rattle.disco_message.specs.ReplyText.{ReplyView}
use Rattle.disco_message.specs.StatusLine.{refusal}
use Rattle.disco_calls.specs.Calls.{CallView, loads, shows, shows_id, writes, lacks}
use Rattle.disco_server.specs.declared.shared.Shared.{Shared}

-- the bytes of a document that is answered
abbrev pub shared_text : Shared → List ℕ
shared_text s = (arc_value s.payload).text

-- a status alone
abbrev pub plain : ℕ → ReplyView
plain status = record { status = status; allow = None; document = None; cert = None }

abbrev pub refusal_answer : Fault → ReplyView
refusal_answer fault = plain (refusal fault)

-- a document, with its certificate
abbrev pub with_document : Payload → ReplyView
with_document d = record { status = 200; allow = None; document = Some d.text; cert = Some (cert_of d) }

-- a registration has no content, each other operation that is accepted is a success
abbrev pub success_of : OpView → ℕ
success_of (register r) = 204
success_of _ = 200

-- the document may be served, or the cause against it is told
abbrev pub ShowsDocument : Past → Result DocKey Fault → ReplyView → Type 0
ShowsDocument p (Err fault) y = y ≡ refusal_answer fault
ShowsDocument p (Ok key) y = (d : Payload) × (d.key ≡ key) × MayServe d p × (y ≡ with_document d)

-- an operation that is accepted has happened afterwards, one that isn't is refused
abbrev pub IsDone : Rules → Past → OpView → ℕ → Result (Option Entry) Fault → ReplyView → Past → Type 0
IsDone rules p ask now (Err fault) y q = (y ≡ refusal_answer fault) × (q ≡ p)
IsDone rules p ask now (Ok change) y q = (y ≡ plain (success_of ask)) × (q ≡ with_done rules.queue p now ask change)

-- the reply at a moment to what is asked for, where one thing has happened before and another after
abbrev pub Replies : Rules → Past → Result CallView Fault → ℕ → ReplyView → Past → Type 0
Replies rules p (Err fault) now y q = (y ≡ refusal_answer fault) × (q ≡ p)
Replies rules p (Ok (lacks allow)) now y q = (y ≡ record { status = 405; allow = Some allow; document = None; cert = None }) × (q ≡ p)
Replies rules p (Ok (loads key)) now y q = ShowsDocument p (loaded rules.delta key (history p)) y × (q ≡ p)
Replies rules p (Ok (shows key form)) now y q = ShowsDocument p (loaded true (doc_of_key key form) (history p)) y × (q ≡ p)
Replies rules p (Ok (shows_id id form)) now y q = ShowsDocument p (loaded_by_id id form (history p)) y × (q ≡ p)
Replies rules p (Ok (writes ask)) now y q = IsDone rules p ask now (accept_after rules.limits (history p) ask now) y q

-- memory may always be refused, and then nothing has happened
abbrev pub IsReply : Rules → Past → Result CallView Fault → ℕ → ReplyView → Past → Type 0
IsReply rules p asked now y q = Replies rules p asked now y q ⊎ ((y ≡ plain 503) × (q ≡ p))

-- whatever has happened to a hub before, this is a reply to it, and the hub stands for what has happened after
abbrev pub IsAnswered : HubState → HubState → Result CallView Fault → ℕ → ReplyView → Type 0
IsAnswered old new asked now y = (p : Past) → HubStandsFor old p → (q : Past) × IsReply (rules_of old) p asked now y q × HubStandsFor new q

-- what a call does to kept documents: a load keeps at most that of its key, an operation keeps none more, and nothing else moves them
abbrev pub KeepsAsked : HubState → HubState → Result CallView Fault → Type 0
KeepsAsked old new (Ok (loads key)) = (new.docs ≡ old.docs) ⊎ ((d : Payload) × (d.key ≡ key) × Keeps (rules_of old).delta d old.docs new.docs)
KeepsAsked old new (Ok (writes ask)) = (p : Past) → HubStandsFor old p → (k : DocKey) (d : Payload) → get new.docs.docs k ≡ Some d → get old.docs.docs k ≡ Some d
KeepsAsked old new _ = new.docs ≡ old.docs
