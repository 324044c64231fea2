-- Only what code keeps: nothing here is to be believed.
use Rattle.std.specs.Prelude.{◌≡◌, ◌⊎◌, ℕ, ◌+◌, ◌-◌, ◌*◌, ◌<◌, ◌≤◌, Bool, true, false, List, [], ◌++◌, length, ⊤, Ok}
use Rattle.std.specs.Borrow.{Array, Fml, Lends, MutBor, u8}
use Rattle.std.specs.List.{concat}
use Rattle.disco_values.specs.declared.fault.Fault.{Fault}
use Rattle.disco_values.specs.declared.fault.Fault.TheVariants.{BadRequest, ReadFailed}
use Rattle.httparse.specs.Grammar.{RequestHead}
use Rattle.disco_message.specs.declared.limits.Limits.{Limits}
use Rattle.disco_message.specs.declared.framing.Framing.TheVariants.{Sized, Chunked}
use Rattle.disco_message.specs.declared.received.Extent.{Extent}
use Rattle.disco_message.specs.declared.received.Extent.TheVariants.{Framed, UntilEnd}
use Rattle.disco_message.specs.Heading.{Heading, heading}
use Rattle.disco_http.specs.contracts.incoming.Incoming.{the_row}
use Rattle.disco_http.specs.declared.body.Left.{Left}
use Rattle.disco_http.specs.declared.body.Left.TheVariants.{Bytes, Line, Chunk, Trailer, ToEnd}
use Rattle.disco_http.specs.declared.body.Turn.{Turn}
use Rattle.disco_http.specs.declared.body.Turn.TheVariants.{Whole, Goes, Waits}
use Rattle.disco_http.specs.declared.body.Body.{Body}
use Rattle.disco_http.specs.declared.incoming.Incoming.{Incoming}
use Rattle.disco_http.specs.declared.incoming.Phase.{Phase}
use Rattle.disco_http.specs.declared.incoming.Phase.TheVariants as phase
use Rattle.disco_http.specs.Bodies.{BodyRefused, ReadsBody}
use Rattle.disco_http.specs.Causes.{is_of_reply, is_of_request}
use Rattle.disco_http.specs.Chunks.{HasSize, ReadsPieces}
use Rattle.disco_http.specs.Found.{HasNoBody}
use Rattle.disco_http.specs.Replies.{ExtentRefused}
use Rattle.disco_http.specs.Requests.{BeginsWithHead, HasNone, Refused}
use Rattle.disco_http.specs.Unread.{bytes_of, with_room}

-- the faults with which bytes are refused: as a reply, but for a failed read
abbrev pub is_of_bytes : Fault → Bool
is_of_bytes ReadFailed = false
is_of_bytes fault = is_of_reply fault

-- and those of a request
abbrev pub is_of_asked : Fault → Bool
is_of_asked ReadFailed = false
is_of_asked fault = is_of_request fault

-- these chunks were read, and their bytes kept
abbrev pub PiecesAt : Limits → List ℕ → List ℕ → List ℕ → Type 0
PiecesAt limits given done next = (pieces : List (List ℕ)) × ReadsPieces limits given pieces next × (done ≡ concat pieces)

-- the line of a chunk was read behind these, and what came of its bytes and its line end was kept
pub record InChunk (limits : Limits) (given bytes : List ℕ) (missing room : ℕ) (unread : List ℕ) : Type 0 where
  pub done : List ℕ
  pub next : List ℕ
  pub part : List ℕ
  pub size : ℕ
  pub pieces : PiecesAt limits given done next
  pub line : HasSize limits size next (part ++ unread)
  pub some : 0 < size
  pub lacks : length part + missing ≡ size + 2
  pub fits : (length done + size) + room ≡ limits.body
  pub kept : bytes ≡ done ++ part

-- what was given behind the head was read so far
abbrev pub BodyAt : Limits → Extent → List ℕ → List ℕ → Left → ℕ → List ℕ → Type 0
BodyAt limits (Framed (Sized n)) given bytes (Bytes missing) room unread = (given ≡ bytes ++ unread) × (length bytes + missing ≡ n) × (n ≤ limits.body)
BodyAt limits (Framed Chunked) given bytes Line room unread = PiecesAt limits given bytes unread × (length bytes + room ≡ limits.body)
BodyAt limits (Framed Chunked) given bytes (Chunk missing) room unread = InChunk limits given bytes missing room unread
BodyAt limits (Framed Chunked) given bytes Trailer room unread = (next : List ℕ) × PiecesAt limits given bytes next × HasSize limits 0 next unread × (length bytes ≤ limits.body)
BodyAt limits UntilEnd given bytes ToEnd room unread = (given ≡ bytes ++ unread) × (length bytes + room ≡ limits.body)
BodyAt limits extent given bytes left room unread = ⊥

-- no whole body was given, and at an end of the input here it is refused; one up to that end has all that came
abbrev pub Awaits : Limits → Extent → List ℕ → List ℕ → Type 0
Awaits limits (Framed framing) given unread = HasNoBody limits framing given × BodyRefused limits framing BadRequest given
Awaits limits UntilEnd given unread = unread ≡ []

-- a body that is whole before the end of the input
abbrev pub ReadsWhole : Limits → Extent → List ℕ → List ℕ → List ℕ → Type 0
ReadsWhole limits (Framed framing) given body rest = ReadsBody limits framing given body rest
ReadsWhole limits UntilEnd given body rest = ⊥

abbrev pub TurnGives : Limits → Extent → List ℕ → Body → List ℕ → Turn → Type 0
TurnGives limits extent given body unread Whole = ReadsWhole limits extent given body.bytes.items unread
TurnGives limits extent given body unread Goes = BodyAt limits extent given body.bytes.items body.left body.room unread
TurnGives limits extent given body unread Waits = BodyAt limits extent given body.bytes.items body.left body.room unread × Awaits limits extent given unread

-- what a turn does, whatever was given
abbrev pub Turns : Limits → Body → List ℕ → Body → List ℕ → Turn → Type 0
Turns limits old unread new rest turn = (extent : Extent) (given : List ℕ) → BodyAt limits extent given old.bytes.items old.left old.room unread
    → TurnGives limits extent given new rest turn

-- the body is refused, whatever was given and whatever follows
abbrev pub Refuses : Limits → Body → List ℕ → Fault → Type 0
Refuses limits old unread fault = (extent : Extent) (given more : List ℕ) → BodyAt limits extent given old.bytes.items old.left old.room unread
    → ExtentRefused limits extent fault (given ++ more)

-- so many bytes more may come at most
abbrev pub fuel : ℕ → Left → ℕ → ℕ → ℕ
fuel head (Bytes missing) room unread = missing + (head - unread)
fuel head Line room unread = (room * (head + 3) + head) + (head - unread)
fuel head (Chunk missing) room unread = ((missing + room * (head + 3)) + head) + (head - unread)
fuel head Trailer room unread = head - unread
fuel head ToEnd room unread = room + (head - unread)

-- what a turn leaves of that, unless the body is whole
abbrev pub Lessens : ℕ → Body → List ℕ → Body → List ℕ → Turn → Type 0
Lessens head old unread new rest Whole = ⊤
Lessens head old unread new rest turn = fuel head new.left new.room (length rest) ≤ fuel head old.left old.room (length unread)

-- what a turn that goes on makes less
abbrev pub effort : Left → List ℕ → ℕ
effort (Chunk missing) unread = 2 * length unread + 1
effort left unread = 2 * length unread

abbrev pub turn_of : Bool → Turn
turn_of true = Whole
turn_of false = Waits

-- what was given begins with a head that says this
abbrev pub HeadAt : Limits → List ℕ → Heading → List ℕ → Type 0
HeadAt limits given says after = (h : RequestHead) × BeginsWithHead limits given h after × (heading h ≡ Ok says)

-- what was given of a request was read so far
abbrev pub PhaseAt : Limits → List ℕ → Phase → List ℕ → Type 0
PhaseAt limits given phase.Head unread = given ≡ unread
PhaseAt limits given (phase.Body says body) unread = (after : List ℕ) × HeadAt limits given says after
    × BodyAt limits (Framed says.framing) after body.bytes.items body.left body.room unread

-- these bytes may have been given of the request that comes
abbrev pub StandsFor : Limits → Incoming → List ℕ → Type 0
StandsFor limits incoming given = PhaseAt limits given incoming.phase (bytes_of incoming.unread)

-- nothing was given of it
abbrev pub IsBetween : Incoming → Type 0
IsBetween incoming = (incoming.phase ≡ phase.Head) × (bytes_of incoming.unread ≡ [])

-- it waits: no whole request was given, and at an end of the input here it is refused, unless nothing was given
abbrev pub WaitsOn : Limits → Incoming → Incoming → Type 0
WaitsOn limits old new = (given : List ℕ) → StandsFor limits old given
    → StandsFor limits new given × HasNone limits given × (IsBetween new ⊎ Refused limits BadRequest given)

-- so many bytes more of a request may come at most
abbrev pub most : Limits → Phase → List ℕ → ℕ
most limits phase.Head unread = ((limits.body * (limits.head + 3) + limits.head) + limits.head) + (limits.head - length unread)
most limits (phase.Body says body) unread = fuel limits.head body.left body.room (length unread)

-- the same with these bytes in the room behind what is unread
abbrev pub with_lent : Incoming → List ℕ → Incoming
with_lent incoming came = record incoming { unread = with_room incoming.unread came }

-- once the borrow ends, the room has what was written
abbrev pub LendsRoom : MutBor Incoming → MutBor (List ℕ) → Fml
LendsRoom incoming room = Lends the_row (Array u8 0) incoming room (with_lent incoming.now)
