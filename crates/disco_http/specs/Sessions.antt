-- What a session has done with the bytes that it was given, however they were cut.
use Rattle.std.specs.Prelude.{◌≡◌, ◌⊎◌, ℕ, ◌-◌, ◌<◌, ◌≤◌, Bool, List, [], ◌∷◌, ◌++◌, IsTrue, Option, drop, length, None, Some, is_some, nat_le, true, ⊤}
use Rattle.std.specs.Borrow.{Array, Fml, Lends, MutBor, RattleType, u8}
use Rattle.std.specs.List.{concat}
use Rattle.disco_values.specs.declared.fault.Fault.TheVariants.{OutOfMemory}
use Rattle.disco_values.specs.declared.fault.Fault as fault
use Rattle.disco_message.specs.declared.limits.Limits.{Limits}
use Rattle.disco_message.specs.RequestView as message
use Rattle.disco_message.specs.ReplyText.{ReplyView, reply_text, reply_view}
use Rattle.disco_http.specs.Coming.{StandsFor}
use Rattle.disco_http.specs.Requests.{HasNone, Refused, TakesRequest}
use Rattle.disco_http.specs.Served.{end_behind, refused}
use Rattle.disco_http.specs.declared.incoming.Incoming.{Incoming}
use Rattle.disco_http.specs.Unread.{bytes_of, room_of, with_room}
use Rattle.disco_http.specs.contracts.steps.Session.{the_row}
use Rattle.disco_http.specs.declared.session.End.{End}
use Rattle.disco_http.specs.declared.session.End.TheVariants.{Closed}
use Rattle.disco_http.specs.declared.session.End.TheVariants as ends
use Rattle.disco_http.specs.declared.steps.Next.{Next}
use Rattle.disco_http.specs.declared.steps.Next.TheVariants as next
use Rattle.disco_http.specs.declared.outgoing.Outgoing.{Outgoing}
use Rattle.disco_http.specs.declared.steps.Session.{Session}
use Rattle.disco_http.specs.declared.steps.State.{State}
use Rattle.disco_http.specs.declared.unread.Unread.{Unread}
use Rattle.disco_http.specs.declared.steps.State.TheVariants.{Waits, Looks, Writes, Over}

-- these requests stand at the front of what was given, one after another, and then the rest
abbrev pub Fronts : Limits → List ℕ → List message.RequestView → List ℕ → Type 0
Fronts limits given [] rest = given ≡ rest
Fronts limits given (a ∷ asks) rest = (next : List ℕ) × TakesRequest limits given a next × Fronts limits next asks rest

-- the text of a reply that goes out
abbrev pub text_of : {D : Type 0} → (D → List ℕ) → Outgoing D → List ℕ
text_of content o = reply_text (reply_view content o.reply) (is_some o.end)

-- what a session still has to put out
abbrev pub unsent : {D : Type 0} → (D → List ℕ) → State D → List ℕ
unsent content (Writes o) = drop (length (text_of content o) - o.left) (text_of content o)
unsent content state = []

-- this reply goes out, and nothing of it is out
abbrev pub IsGoing : {D : Type 0} → (D → List ℕ) → ReplyView → Option End → State D → Type 0
IsGoing {D} content r end state = (o : Outgoing D) × (state ≡ Writes o) × (reply_view content o.reply ≡ r) × (o.end ≡ end) × (o.left ≡ length (text_of content o))

-- what it says is next: where it waits for bytes it holds no whole request, and all that it has to put out is out
abbrev pub next_of : {D : Type 0} → State D → Next
next_of Waits = next.Read
next_of Looks = next.Answer
next_of (Writes o) = next.Write
next_of (Over end) = next.Over end

-- what it holds of the bytes behind the requests that it answered where the connection ends by this, if it does: behind a last reply
-- they are unread, and a connection is closed only where there are none
abbrev pub Leaves : Limits → Incoming → List ℕ → Option End → Type 0
Leaves limits incoming rest None = StandsFor limits incoming rest
Leaves limits incoming rest (Some Closed) = rest ≡ []
Leaves limits incoming rest (Some (ends.Fault f)) = ⊤
Leaves limits incoming rest (Some end) = rest ≡ bytes_of incoming.unread

-- what it holds of the bytes behind the requests that it answered: where it waits for more, no whole request, and there is room for more
abbrev pub Holds : {D : Type 0} → (D → List ℕ) → Limits → Incoming → State D → List ℕ → Type 0
Holds content limits incoming Waits rest = StandsFor limits incoming rest × HasNone limits rest × (length (bytes_of incoming.unread) < limits.head)
Holds content limits incoming Looks rest = StandsFor limits incoming rest
Holds content limits incoming (Writes o) rest = Leaves limits incoming rest o.end × (o.left ≤ length (text_of content o))
Holds content limits incoming (Over end) rest = Leaves limits incoming rest (Some end)

-- the room that is lent for bytes: where it waits for some, what stands in the buffer behind those that are unread
abbrev pub lent_by : {D : Type 0} → State D → Unread → List ℕ
lent_by Waits unread = room_of unread
lent_by state unread = []

-- the room that a session lends
abbrev pub lent : {D : Type 0} → Session D → List ℕ
lent session = lent_by session.state session.incoming.unread

-- the same session with these bytes in that room
abbrev pub with_lent : {D : Type 0} → Session D → List ℕ → Session D
with_lent session came = record session { incoming = record session.incoming { unread = with_room session.incoming.unread came } }

-- once the borrow ends, the room has what was written
abbrev pub LendsRoom : (D : RattleType) → MutBor (Session D.Denot) → MutBor (List ℕ) → Fml
LendsRoom D session room = Lends (the_row D) (Array u8 0) session room (with_lent session.now)

-- it was given these bytes, has answered these requests of them by these texts, and this is what it put out
pub record HasDone {D : Type 0} (content : D → List ℕ) (session : Session D) (given : List ℕ) (asks : List message.RequestView) (texts : List (List ℕ))
    (out : List ℕ) : Type 0 where
  pub rest : List ℕ
  pub fronts : Fronts session.limits given asks rest
  pub holds : Holds content session.limits session.incoming session.state rest
  pub put : out ++ unsent content session.state ≡ concat texts

-- whether the request that was answered last was the last that a connection may make
abbrev pub is_limit : {D : Type 0} → Session D → Bool
is_limit session = nat_le session.limits.requests session.requests

-- one request more is answered by the service
abbrev pub AnswersNext : {D S : Type 0} → (D → List ℕ) → (S → message.RequestView → ReplyView → S → Type 0) → Session D → S → S → List ℕ → List message.RequestView
    → List (List ℕ) → List ℕ → Type 0
AnswersNext content answers session old new given asks texts out = (a : message.RequestView) × (r : ReplyView) × answers old a r new
    × HasDone content session given (asks ++ a ∷ []) (texts ++ reply_text r (is_some (end_behind a.closes (is_limit session))) ∷ []) out

-- what follows is refused: whatever comes behind it, at the end of the input, or for want of memory
abbrev pub RefusesNext : {D : Type 0} → (D → List ℕ) → Session D → List ℕ → List message.RequestView → List (List ℕ) → List ℕ → Type 0
RefusesNext content session given asks texts out = (f : fault.Fault) × (rest : List ℕ) × Fronts session.limits given asks rest
    × ((f ≡ OutOfMemory) ⊎ (((more : List ℕ) → Refused session.limits f (rest ++ more)) ⊎ (IsTrue session.has_ended × Refused session.limits f rest)))
    × HasDone content session given asks (texts ++ reply_text (refused f) true ∷ []) out

-- what a look at what came does: it answers the next request, refuses it, or waits for more, and at the end of the input it is over
abbrev pub Answered : {D S : Type 0} → (D → List ℕ) → (S → message.RequestView → ReplyView → S → Type 0) → Session D → Session D → S → S → Type 0
Answered content answers before session old new = (given : List ℕ) (asks : List message.RequestView) (texts : List (List ℕ)) (out : List ℕ)
    → HasDone content before given asks texts out
    → AnswersNext content answers session old new given asks texts out
    ⊎ ((new ≡ old) × (RefusesNext content session given asks texts out ⊎ HasDone content session given asks texts out))
