-- A body in chunks (RFC 9112, section 7.1), within the limits, and why it is refused.
use Rattle.std.specs.Prelude.{◌≡◌, ℕ, ◌+◌, ◌<◌, ◌≤◌, ◌⊎◌, List, [], ◌∷◌, ◌++◌, length, ⊤}
use Rattle.std.specs.List.{concat}
use Rattle.httparse.specs.Ascii.{crlf_bytes}
use Rattle.httparse.specs.Grammar.{ChunkLine, chunk_size, print_chunk_line, ReadsChunkLine, Field as HeaderField, LineEnd, print_section, ReadsSection}
use Rattle.disco_values.specs.declared.fault.Fault.{Fault}
use Rattle.disco_values.specs.declared.fault.Fault.TheVariants.{OutOfMemory, HeadTooLarge, BodyTooLarge, BadRequest, ReadFailed}
use Rattle.disco_message.specs.declared.limits.Limits.{Limits}
use Rattle.disco_http.specs.declared.parts.Part.TheVariants as part
use Rattle.disco_http.specs.Parts.{PartRefused}

-- a chunk's line of this size stands there, and the rest follows it; extensions are ignored
abbrev pub HasSize : Limits → ℕ → List ℕ → List ℕ → Type 0
HasSize limits size input rest = (line : ChunkLine) × ReadsChunkLine input line rest × (length (print_chunk_line line) ≤ limits.head) × (chunk_size line ≡ size)

-- one chunk: its line, its bytes and a line end
abbrev pub ReadsChunk : Limits → List ℕ → List ℕ → List ℕ → Type 0
ReadsChunk limits input piece rest = (0 < length piece) × HasSize limits (length piece) input (piece ++ (crlf_bytes ++ rest))

-- chunks, one after another
abbrev pub ReadsPieces : Limits → List ℕ → List (List ℕ) → List ℕ → Type 0
ReadsPieces limits input [] rest = input ≡ rest
ReadsPieces limits input (piece ∷ pieces) rest = (next : List ℕ) × ReadsChunk limits input piece next × ReadsPieces limits next pieces rest

-- the fields behind the last chunk, which are dropped
abbrev pub ReadsTrailer : Limits → List ℕ → List ℕ → Type 0
ReadsTrailer limits input rest = (fields : List HeaderField) × (last : LineEnd) × ReadsSection input fields last rest
    × (length (print_section fields last) ≤ limits.head) × (length fields ≤ limits.fields)

-- the line of size 0, and the fields behind it
abbrev pub ReadsLast : Limits → List ℕ → List ℕ → Type 0
ReadsLast limits input rest = (after : List ℕ) × HasSize limits 0 input after × ReadsTrailer limits after rest

-- so many bytes and a line end don't stand there
abbrev pub LacksChunk : ℕ → List ℕ → Type 0
LacksChunk size input = (piece : List ℕ) (rest : List ℕ) → length piece ≡ size → input ≡ piece ++ (crlf_bytes ++ rest) → ⊥

-- no chunk's line is read; one that is too long is a bad one
abbrev pub LineRefused : Limits → List ℕ → Type 0
LineRefused limits input = PartRefused limits part.SizeLine HeadTooLarge input ⊎ PartRefused limits part.SizeLine BadRequest input

-- why what follows chunks of so many bytes is refused; of memory and of the host nothing is said here
abbrev pub NextRefused : Limits → ℕ → Fault → List ℕ → Type 0
NextRefused limits have OutOfMemory input = ⊤
NextRefused limits have ReadFailed input = ⊤
NextRefused limits have BodyTooLarge input = (size : ℕ) × (after : List ℕ) × HasSize limits size input after × (limits.body < have + size)
NextRefused limits have HeadTooLarge input = (after : List ℕ) × HasSize limits 0 input after × PartRefused limits part.Trailer HeadTooLarge after
NextRefused limits have BadRequest input =
    LineRefused limits input
    ⊎ (((size : ℕ) × (after : List ℕ) × HasSize limits size input after × (have + size ≤ limits.body) × LacksChunk size after)
    ⊎ ((after : List ℕ) × HasSize limits 0 input after × PartRefused limits part.Trailer BadRequest after))
NextRefused limits have fault input = ⊥

-- why a body in chunks is refused
abbrev pub ChunksRefused : Limits → Fault → List ℕ → Type 0
ChunksRefused limits fault input = (pieces : List (List ℕ)) × (next : List ℕ) × ReadsPieces limits input pieces next
    × (length (concat pieces) ≤ limits.body) × NextRefused limits (length (concat pieces)) fault next
