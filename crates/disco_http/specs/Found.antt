-- Only what code keeps: nothing here is to be believed.
use Rattle.std.specs.Prelude.{◌≡◌, ℕ, ◌≤◌, ⊤, List, length, drop, Option, Some, None}
use Rattle.std.specs.Prelude.{Result, Ok, Err}
use Rattle.httparse.specs.Grammar.{ChunkLine, Field, LineEnd, print_section, ReadsSection}
use Rattle.httparse.specs.Spans.{IsRequestWithin, IsRequestOf, IsResponseWithin, IsResponseOf, IsChunkLineAt}
use Rattle.httparse.specs.declared.spans.HeaderSpan.{HeaderSpan}
use Rattle.disco_values.specs.declared.fault.Fault.{Fault}
use Rattle.disco_http.specs.declared.parts.Found.{Found}
use Rattle.disco_http.specs.declared.parts.Found.TheVariants as found
use Rattle.disco_http.specs.declared.parts.Part.{Part}
use Rattle.disco_http.specs.declared.parts.Part.TheVariants as part
use Rattle.disco_message.specs.declared.limits.Limits.{Limits}
use Rattle.disco_message.specs.declared.framing.Framing.{Framing}
use Rattle.disco_message.specs.declared.received.Extent.{Extent}
use Rattle.disco_message.specs.declared.received.Extent.TheVariants.{Framed, UntilEnd}
use Rattle.disco_http.specs.Bodies.{ReadsBody}
use Rattle.disco_http.specs.Chunks.{ReadsLast, ReadsPieces}
use Rattle.disco_http.specs.Parts.{HasNo, BytesRefused}
use Rattle.disco_http.specs.Replies.{BeginsReply}
use Rattle.disco_message.specs.Received.{Received, received}

-- a line of this length and size stands at the front
abbrev pub IsLine : List ℕ → ℕ → ℕ → Type 0
IsLine bytes len size = (len ≤ length bytes) × ((line : ChunkLine) × IsChunkLineAt bytes len size line)

-- so many fields at most, with the empty line, stand at the front
abbrev pub IsTrailer : ℕ → List ℕ → ℕ → Type 0
IsTrailer few bytes len = (len ≤ length bytes) × ((fields : List Field) × (last : LineEnd) × ReadsSection bytes fields last (drop len bytes)
    × (len ≡ length (print_section fields last)) × (length fields ≤ few))

-- the part that was found stands at the front
abbrev pub IsFound : ℕ → Part → List ℕ → List HeaderSpan → Found → Type 0
IsFound few part.RequestHead bytes spans (found.RequestHead line) = IsRequestWithin bytes spans line × IsRequestOf bytes spans line
IsFound few part.ReplyHead bytes spans (found.ReplyHead line) = IsResponseWithin bytes spans line × IsResponseOf bytes spans line
IsFound few part.SizeLine bytes spans (found.SizeLine len size) = IsLine bytes len size
IsFound few part.Trailer bytes spans (found.Trailer len) = IsTrailer few bytes len
IsFound few part bytes spans other = ⊥

-- what a look at bytes answers
abbrev pub Looked : ℕ → Part → List ℕ → List HeaderSpan → Result (Option Found) Fault → Type 0
Looked few part bytes spans (Ok (Some found)) = IsFound few part bytes spans found
Looked few part bytes spans (Ok None) = HasNo part bytes
Looked few part bytes spans (Err fault) = BytesRefused few part fault bytes

-- no chunks up to the last, with the fields behind it, stand at the front of these bytes
abbrev pub HasNoChunks : Limits → List ℕ → Type 0
HasNoChunks limits bytes = (pieces : List (List ℕ)) (next rest : List ℕ) → ReadsPieces limits bytes pieces next → ReadsLast limits next rest → ⊥

-- nor does a body
abbrev pub HasNoBody : Limits → Framing → List ℕ → Type 0
HasNoBody limits framing bytes = (body rest : List ℕ) → ReadsBody limits framing bytes body rest → ⊥

-- the same of the body of a reply, unless it goes on to the end of the input
abbrev pub HasNoExtent : Limits → Extent → List ℕ → Type 0
HasNoExtent limits (Framed framing) bytes = HasNoBody limits framing bytes
HasNoExtent limits UntilEnd bytes = ⊤

-- the stream begins with a head that says this, and so much is left
abbrev pub IsRead : {H S : Type 0} → (H → Result S Fault) → (List ℕ → H → List ℕ → Type 0) → List ℕ → S → Option (List ℕ) → Type 0
IsRead {H} say begins stream says left = (h : H) × (after : List ℕ) × begins stream h after × (say h ≡ Ok says) × (left ≡ Some after)

-- the head of a reply
abbrev pub ReplyRead : Limits → List ℕ → Received → Option (List ℕ) → Type 0
ReplyRead limits stream says left = IsRead received (BeginsReply limits) stream says left
