-- What the head of a received reply says.
use Rattle.std.specs.Prelude.{ℕ, Bool, ◌==◌, ◌&&◌, List, length, map, Option, Some, None, option_map, Result, Ok, Err, if◌then◌else◌, codes}
use Rattle.httparse.specs.Grammar.{ResponseHead, status_code}
use Rattle.httparse.specs.Spans.{name_and_value}
use Rattle.disco_values.specs.declared.fault.Fault.{Fault}
use Rattle.disco_values.specs.declared.fault.Fault.TheVariants.{BadRequest}
use Rattle.disco_message.specs.Fields.{field_values}
use Rattle.disco_message.specs.Framing.{framing_of}
use Rattle.disco_message.specs.Heading.{closes}
use Rattle.disco_message.specs.declared.framing.Framing.TheVariants.{Sized}
use Rattle.disco_message.specs.declared.received.Extent.{Extent}
use Rattle.disco_message.specs.declared.received.Extent.TheVariants.{Framed, UntilEnd}

-- the status code, the names and values of the fields, how the body ends, and whether the connection ends after the reply
pub record Received : Type 0 where
  pub status : ℕ
  pub fields : List (List ℕ × List ℕ)
  pub extent : Extent
  pub closes : Bool

-- how a body ends, by the values of Content-Length and of Transfer-Encoding: with neither, at the end of the input (RFC 9112, section 6.3)
abbrev pub extent_of : ℕ → List (List ℕ) → List (List ℕ) → Option Extent
extent_of minor lengths codings = if length lengths == 0 && length codings == 0 then Some UntilEnd else
    option_map (λ f. Framed f) (framing_of minor lengths codings)

-- a reply of status 204 has no body
abbrev pub body_extent : ℕ → ℕ → List (List ℕ × List ℕ) → Option Extent
body_extent status minor fields = if status == 204 then Some (Framed (Sized 0)) else
    extent_of minor (field_values (codes "content-length") fields) (field_values (codes "transfer-encoding") fields)

-- what a head says whose body has this extent
abbrev pub received_with : ℕ → ℕ → List (List ℕ × List ℕ) → Option Extent → Result Received Fault
received_with status minor fields None = Err BadRequest
received_with status minor fields (Some e) = Ok (record { status = status; fields = fields; extent = e; closes = closes minor fields })

-- the same by the parts of the head
abbrev pub received_by : ℕ → ℕ → List (List ℕ × List ℕ) → Result Received Fault
received_by status minor fields = received_with status minor fields (body_extent status minor fields)

-- what a head says, or what it is refused for
abbrev pub received : ResponseHead → Result Received Fault
received h = received_by (status_code h) h.minor (map name_and_value h.fields)
