-- The parts of a message that are looked for, and why one isn't there.
use Rattle.std.specs.Prelude.{◌≡◌, ◌≢◌, ℕ, ◌<◌, ◌≤◌, ◌⊎◌, List, [], ◌++◌, length, ⊤}
use Rattle.httparse.specs.Grammar.{HasNoRequest, NeverHasRequest, HasNoResponse, NeverHasResponse, HasNoSection, NeverHasSection, HasNoChunkLine}
use Rattle.httparse.specs.Grammar.{NeverHasChunkLine}
use Rattle.httparse.specs.Spans.{RequestExceeds, ResponseExceeds, SectionExceeds}
use Rattle.disco_values.specs.declared.fault.Fault.{Fault}
use Rattle.disco_values.specs.declared.fault.Fault.TheVariants.{HeadTooLarge, BadRequest, ReadFailed}
use Rattle.disco_message.specs.declared.limits.Limits.{Limits}
use Rattle.disco_http.specs.declared.parts.Part.{Part}
use Rattle.disco_http.specs.declared.parts.Part.TheVariants as parts

-- no first bytes are such a part
abbrev pub HasNo : Part → List ℕ → Type 0
HasNo parts.RequestHead bytes = HasNoRequest bytes
HasNo parts.ReplyHead bytes = HasNoResponse bytes
HasNo parts.SizeLine bytes = HasNoChunkLine bytes
HasNo parts.Trailer bytes = HasNoSection bytes

-- nor can bytes follow that make one
abbrev pub Never : Part → List ℕ → Type 0
Never parts.RequestHead bytes = NeverHasRequest bytes
Never parts.ReplyHead bytes = NeverHasResponse bytes
Never parts.SizeLine bytes = NeverHasChunkLine bytes
Never parts.Trailer bytes = NeverHasSection bytes

-- more fields than so many stand there
abbrev pub Exceeds : ℕ → Part → List ℕ → Type 0
Exceeds fields parts.RequestHead bytes = RequestExceeds fields bytes
Exceeds fields parts.ReplyHead bytes = ResponseExceeds fields bytes
Exceeds fields parts.SizeLine bytes = ⊥
Exceeds fields parts.Trailer bytes = SectionExceeds fields bytes

-- why bytes are no such part, whatever follows: they can't become one, or have too many fields
abbrev pub BytesRefused : ℕ → Part → Fault → List ℕ → Type 0
BytesRefused fields part HeadTooLarge bytes = Exceeds fields part bytes
BytesRefused fields part BadRequest bytes = Never part bytes
BytesRefused fields part fault bytes = ⊥

-- as many bytes as a part may have, and no whole one
abbrev pub IsAtLimit : Limits → Part → List ℕ → Type 0
IsAtLimit limits part bytes = (length bytes ≡ limits.head) × HasNo part bytes

-- why first bytes are refused
abbrev pub FrontRefused : Limits → Part → Fault → List ℕ → Type 0
FrontRefused limits part HeadTooLarge front = IsAtLimit limits part front ⊎ Exceeds limits.fields part front
FrontRefused limits part BadRequest front = Never part front
FrontRefused limits part fault front = ⊥

-- some first bytes of the stream, no more than a part may have, are refused
abbrev pub SomeFront : Limits → Part → Fault → List ℕ → Type 0
SomeFront limits part fault stream = (front : List ℕ) × (more : List ℕ) × (stream ≡ front ++ more) × (length front ≤ limits.head)
    × FrontRefused limits part fault front

-- the input ends before the part is whole; an end before a request's first byte is none
abbrev pub EndsInside : Limits → Part → List ℕ → Type 0
EndsInside limits parts.RequestHead stream = (stream ≢ []) × (length stream < limits.head) × HasNoRequest stream
EndsInside limits part stream = (length stream < limits.head) × HasNo part stream

-- why no such part is read from the stream; of the host nothing is said here
abbrev pub PartRefused : Limits → Part → Fault → List ℕ → Type 0
PartRefused limits part ReadFailed stream = ⊤
PartRefused limits part BadRequest stream = SomeFront limits part BadRequest stream ⊎ EndsInside limits part stream
PartRefused limits part fault stream = SomeFront limits part fault stream
