-- The requests of a stream.
use Rattle.std.specs.Prelude.{◌≡◌, ℕ, ◌≤◌, ◌⊎◌, List, length, Ok, Err}
use Rattle.httparse.specs.Grammar.{RequestHead, print_request, ReadsRequest}
use Rattle.disco_values.specs.declared.fault.Fault.{Fault}
use Rattle.disco_message.specs.declared.limits.Limits.{Limits}
use Rattle.disco_message.specs.Heading.{Heading, heading}
use Rattle.disco_message.specs.RequestView.{RequestView, request_view}
use Rattle.disco_http.specs.declared.parts.Part.TheVariants as part
use Rattle.disco_http.specs.Parts.{PartRefused}
use Rattle.disco_http.specs.Bodies.{ReadsBody, BodyRefused}

-- the stream begins with this head, which is within the limits, and the rest follows it (RFC 9112, sections 2 to 5)
pub record BeginsWithHead (limits : Limits) (stream : List ℕ) (head : RequestHead) (rest : List ℕ) : Type 0 where
  pub reads : ReadsRequest stream head rest
  pub fits : length (print_request head) ≤ limits.head
  pub few : length head.fields ≤ limits.fields

-- the stream begins with this request, and the rest follows it (RFC 9112)
pub record TakesRequest (limits : Limits) (stream : List ℕ) (a : RequestView) (rest : List ℕ) : Type 0 where
  pub head : RequestHead
  pub after : List ℕ
  pub begins : BeginsWithHead limits stream head after
  pub says : Heading
  pub heading : heading head ≡ Ok says
  pub body : ReadsBody limits says.framing after a.body rest
  pub asks : a ≡ request_view says a.body

-- no request stands at the front of these bytes
abbrev pub HasNone : Limits → List ℕ → Type 0
HasNone limits bytes = (a : RequestView) (rest : List ℕ) → TakesRequest limits bytes a rest → ⊥

-- why what follows a head is refused: for what the head says, or for its body
abbrev pub BehindHead : Limits → Fault → RequestHead → List ℕ → Type 0
BehindHead limits fault h after = (heading h ≡ Err fault) ⊎ ((says : Heading) × (heading h ≡ Ok says) × BodyRefused limits says.framing fault after)

-- why the stream begins with no request
abbrev pub Refused : Limits → Fault → List ℕ → Type 0
Refused limits fault stream = PartRefused limits part.RequestHead fault stream
    ⊎ ((h : RequestHead) × (after : List ℕ) × BeginsWithHead limits stream h after × BehindHead limits fault h after)
