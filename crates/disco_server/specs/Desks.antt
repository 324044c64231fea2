-- Replies of a desk to a seat, and of a seat's own look.
use Rattle.std.specs.Prelude.{◌≡◌, ◌⊎◌, ◌≤◌, ℕ, ◌+◌, List, ◌++◌, length, map, Result, Ok}
use mathlib.Core.List.{IsPrefix}
use Rattle.std.specs.declared.alloc.Global.{Global}
use Rattle.std.specs.declared.sync.Arc.{Arc}
use Rattle.disco_values.specs.declared.fault.Fault.{Fault}
use Rattle.disco_history.specs.Change.{Entry}
use Rattle.disco_values.specs.declared.doc_key.DocKey.{DocKey}
use Rattle.disco_cache.specs.declared.payload.Payload.{Payload}
use Rattle.disco_core.specs.Past.{Past, history}
use Rattle.disco_hub.specs.Press.{change}
use Rattle.disco_hub.specs.State.{HubStandsFor, rules_of, version_of}
use Rattle.disco_press.specs.Desks.{CountsBySeat, DeskState, IsValid, Notes, notes_of}
use Rattle.disco_press.specs.Looks.{Shows}
use Rattle.disco_press.specs.Logs.{notes_in}
use Rattle.disco_press.specs.Seats.{SeatState}
use Rattle.disco_press.specs.declared.look.Looked.TheVariants as looked
use Rattle.disco_message.specs.ReplyText.{ReplyView}
use Rattle.disco_calls.specs.Calls.{CallView, loads}
use Rattle.disco_server.specs.Replies.{IsReply, KeepsAsked, with_document}

-- these changes are noted, and counted by the seat and as a seat's; whatever has happened before, this is a reply to it, they come behind it, and the
-- desk stands for what has happened after
pub record IsAnsweredOn (old new : DeskState) (before after : SeatState) (asked : Result CallView Fault) (now : ℕ) (y : ReplyView) : Type 0 where
  pub changes : List Entry
  pub noted : Notes (map change changes) old new
  pub counted : after.changes ≡ before.changes + length changes
  pub by_seat : CountsBySeat (length changes) old new
  pub replied : (p : Past) → HubStandsFor old.hub p → (q : Past) × IsReply (rules_of old.hub) p asked now y q × (history q ≡ history p ++ changes)
      × HubStandsFor new.hub q

-- and the desk had no fewer changes than the seat, had published what the seat knew, and had noted what the seat had heard of; then the seat knows
-- what it has published, and all that it has noted; and kept documents move as for what is asked
pub record IsAnsweredBy (old new : DeskState) (before after : SeatState) (asked : Result CallView Fault) (now : ℕ) (y : ReplyView) : Type 0 where
  pub valid : IsValid old
  pub bound : before.changes ≤ version_of old.hub
  pub knew : IsPrefix before.known old.published
  pub heard : IsPrefix before.heard (notes_of old)
  pub answered : IsAnsweredOn old new before after asked now y
  pub kept : KeepsAsked old.hub new.hub asked
  pub knows : after.known ≡ new.published
  pub hears : after.heard ≡ notes_of new

-- some desk has answered so, of the seat's name: by what the seat had heard of and hears then, its notes are those of that name
pub record IsAnsweredBySome (before after : SeatState) (asked : Result CallView Fault) (now : ℕ) (y : ReplyView) : Type 0 where
  pub old : DeskState
  pub new : DeskState
  pub by : IsAnsweredBy old new before after asked now y

-- a document is asked for, and is shown by what the seat knows then; nothing is counted
pub record IsLooked (before after : SeatState) (asked : Result CallView Fault) (y : ReplyView) : Type 0 where
  pub key : DocKey
  pub doc : Arc Payload Global
  pub asks : asked ≡ Ok (loads key)
  pub found : Shows (notes_in after.known) key (looked.Doc doc)
  pub replied : y ≡ with_document doc.value
  pub counted : after.changes ≡ before.changes
  pub heard : after.heard ≡ before.heard

-- a look of the seat is the reply, or that of some desk
abbrev pub IsLookOrCall : SeatState → SeatState → Result CallView Fault → ℕ → ReplyView → Type 0
IsLookOrCall before after asked now y = IsLooked before after asked y ⊎ IsAnsweredBySome before after asked now y
