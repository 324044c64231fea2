-- The reply at the front of a stream.
use Rattle.std.specs.Prelude.{◌≡◌, ℕ, ◌<◌, ◌≤◌, ◌⊎◌, List, [], length, Ok, Err, ⊤}
use Rattle.httparse.specs.Grammar.{ResponseHead, print_response, ReadsResponse}
use Rattle.disco_values.specs.declared.fault.Fault.{Fault}
use Rattle.disco_values.specs.declared.fault.Fault.TheVariants.{OutOfMemory, BodyTooLarge, ReadFailed}
use Rattle.disco_message.specs.declared.limits.Limits.{Limits}
use Rattle.disco_message.specs.declared.received.Extent.{Extent}
use Rattle.disco_message.specs.declared.received.Extent.TheVariants.{Framed, UntilEnd}
use Rattle.disco_message.specs.Received.{Received, received}
use Rattle.disco_http.specs.declared.parts.Part.TheVariants as part
use Rattle.disco_http.specs.Parts.{PartRefused}
use Rattle.disco_http.specs.Bodies.{ReadsBody, BodyRefused}

-- the stream begins with this head, which is within the limits, and the rest follows it (RFC 9112, sections 2 to 5)
pub record BeginsReply (limits : Limits) (stream : List ℕ) (head : ResponseHead) (rest : List ℕ) : Type 0 where
  pub reads : ReadsResponse stream head rest
  pub fits : length (print_response head) ≤ limits.head
  pub few : length head.fields ≤ limits.fields

-- after the head comes this body, and then the rest
abbrev pub ReadsExtent : Limits → Extent → List ℕ → List ℕ → List ℕ → Type 0
ReadsExtent limits (Framed framing) after body rest = ReadsBody limits framing after body rest
ReadsExtent limits UntilEnd after body rest = (length body ≤ limits.body) × (after ≡ body) × (rest ≡ [])

-- why the body is refused; of memory and of the host nothing is said here
abbrev pub ExtentRefused : Limits → Extent → Fault → List ℕ → Type 0
ExtentRefused limits (Framed framing) fault after = BodyRefused limits framing fault after
ExtentRefused limits UntilEnd OutOfMemory after = ⊤
ExtentRefused limits UntilEnd ReadFailed after = ⊤
ExtentRefused limits UntilEnd BodyTooLarge after = limits.body < length after
ExtentRefused limits UntilEnd fault after = ⊥

-- the stream begins with a reply that says this and has this body, and the rest follows it
pub record TakesReply (limits : Limits) (stream : List ℕ) (says : Received) (body : List ℕ) (rest : List ℕ) : Type 0 where
  pub head : ResponseHead
  pub after : List ℕ
  pub begins : BeginsReply limits stream head after
  pub received : received head ≡ Ok says
  pub reads : ReadsExtent limits says.extent after body rest

-- no reply stands at the front of these bytes, but for one that goes on to the end of the input
abbrev pub HasNoReply : Limits → List ℕ → Type 0
HasNoReply limits bytes = (says : Received) (body : List ℕ) (rest : List ℕ) → TakesReply limits bytes says body rest → says.extent ≡ UntilEnd

-- why what follows a head is refused: for what the head says, or for its body
abbrev pub BehindReplyHead : Limits → Fault → ResponseHead → List ℕ → Type 0
BehindReplyHead limits fault h after = (received h ≡ Err fault) ⊎ ((says : Received) × (received h ≡ Ok says) × ExtentRefused limits says.extent fault after)

-- why the stream begins with no reply
abbrev pub ReplyRefused : Limits → Fault → List ℕ → Type 0
ReplyRefused limits fault stream = PartRefused limits part.ReplyHead fault stream
    ⊎ ((h : ResponseHead) × (after : List ℕ) × BeginsReply limits stream h after × BehindReplyHead limits fault h after)
