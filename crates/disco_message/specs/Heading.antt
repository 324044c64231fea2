-- What the head of a request says.
use Rattle.std.specs.Prelude.{ℕ, Bool, ◌||◌, ◌==◌, List, map, Option, Some, None, Result, Ok, Err, codes}
use Rattle.std.specs.List.{list_any}
use Rattle.httparse.specs.Grammar.{RequestHead}
use Rattle.httparse.specs.Spans.{name_and_value}
use Rattle.disco_values.specs.declared.fault.Fault.{Fault}
use Rattle.disco_values.specs.declared.fault.Fault.TheVariants.{BadRequest}
use Rattle.disco_message.specs.Fields.{lists, field_values}
use Rattle.disco_message.specs.Framing.{framed}
use Rattle.disco_message.specs.Target.{path_of}
use Rattle.disco_message.specs.declared.framing.Framing.{Framing}

-- the method, the path with its query, the names and values of the fields, how the body is framed, and whether the connection ends after the reply
pub record Heading : Type 0 where
  pub method : List ℕ
  pub target : List ℕ
  pub fields : List (List ℕ × List ℕ)
  pub framing : Framing
  pub closes : Bool

-- the connection ends after HTTP/1.0, and where a Connection field lists `close` (RFC 9112, section 9.6)
abbrev pub closes : ℕ → List (List ℕ × List ℕ) → Bool
closes minor fields = minor == 0 || list_any (λ v. lists (codes "close") v) (field_values (codes "connection") fields)

-- what a head says with this path and this framing
abbrev pub headed : List ℕ → ℕ → List (List ℕ × List ℕ) → Option (List ℕ) → Result Framing Fault → Result Heading Fault
headed method minor fields None framing = Err BadRequest
headed method minor fields (Some path) (Err fault) = Err fault
headed method minor fields (Some path) (Ok framing) = Ok (record {
  method = method;
  target = path;
  fields = fields;
  framing = framing;
  closes = closes minor fields;
})

-- the same by the parts of the head
abbrev pub heading_by : List ℕ → List ℕ → ℕ → List (List ℕ × List ℕ) → Result Heading Fault
heading_by method target minor fields = headed method minor fields (path_of target) (framed minor fields)

-- what a head says, or what it is refused for
abbrev pub heading : RequestHead → Result Heading Fault
heading h = heading_by h.method h.target h.minor (map name_and_value h.fields)
