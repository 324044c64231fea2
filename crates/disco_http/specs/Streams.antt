-- What a reader has ahead.
use Rattle.std.specs.Prelude.{ℕ, List, Option, Some, Bool}
use Rattle.std.specs.Io.KnownBytes.{Consumes, prepend_known}
use Rattle.disco_http.specs.declared.reader.Reader.{Reader}
use Rattle.disco_http.specs.Unread.{bytes_of}
use Rattle.disco_message.specs.declared.limits.Limits.{Limits}

-- the bytes that were read and not yet taken
abbrev pub unread : {R : Type 0} → Reader R → List ℕ
unread reader = bytes_of reader.incoming.unread

-- the bytes ahead: those, and then what the source gives, where that is known
abbrev pub ahead : {R : Type 0} → (R → Option (List ℕ)) → Reader R → Option (List ℕ)
ahead remaining reader = prepend_known (unread reader) (remaining reader.source)

-- what came of a stream before its source failed is so, and the source still gives the rest
abbrev pub Came : (List ℕ → Type 0) → List ℕ → Option (List ℕ) → Type 0
Came IsSo stream left = (given : List ℕ) × Consumes (Some stream) left given × IsSo given

-- the limits that a reader keeps to
abbrev pub reader_limits : {R : Type 0} → Reader R → Limits
reader_limits reader = reader.limits

-- what it reads from
abbrev pub source_of : {R : Type 0} → Reader R → R
source_of reader = reader.source

-- a call of it was refused
abbrev pub is_spent : {R : Type 0} → Reader R → Bool
is_spent reader = reader.spent
