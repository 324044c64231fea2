-- The body behind a head, and why it is refused.
use Rattle.std.specs.Prelude.{◌≡◌, ℕ, ◌<◌, ◌≤◌, List, ◌++◌, length, ⊤}
use Rattle.std.specs.List.{concat}
use Rattle.disco_values.specs.declared.fault.Fault.{Fault}
use Rattle.disco_values.specs.declared.fault.Fault.TheVariants.{OutOfMemory, BadRequest, BodyTooLarge, ReadFailed}
use Rattle.disco_message.specs.declared.framing.Framing.{Framing}
use Rattle.disco_message.specs.declared.framing.Framing.TheVariants.{Sized, Chunked}
use Rattle.disco_message.specs.declared.limits.Limits.{Limits}
use Rattle.disco_http.specs.Chunks.{ReadsPieces, ReadsLast, ChunksRefused}

-- after the head comes this body, and then the rest (RFC 9112, section 6)
abbrev pub ReadsBody : Limits → Framing → List ℕ → List ℕ → List ℕ → Type 0
ReadsBody limits (Sized n) after body rest = (n ≤ limits.body) × (length body ≡ n) × (after ≡ body ++ rest)
ReadsBody limits Chunked after body rest =
    (pieces : List (List ℕ)) × (next : List ℕ) × ReadsPieces limits after pieces next × ReadsLast limits next rest × (body ≡ concat pieces)
    × (length body ≤ limits.body)

-- the input ends before so many bytes; of memory and of the host nothing is said here
abbrev pub EndsBefore : ℕ → Fault → List ℕ → Type 0
EndsBefore n OutOfMemory after = ⊤
EndsBefore n ReadFailed after = ⊤
EndsBefore n BadRequest after = length after < n
EndsBefore n other after = ⊥

-- why the body is refused
abbrev pub BodyRefused : Limits → Framing → Fault → List ℕ → Type 0
BodyRefused limits (Sized n) OutOfMemory after = ⊤
BodyRefused limits (Sized n) BodyTooLarge after = limits.body < n
BodyRefused limits (Sized n) fault after = (n ≤ limits.body) × EndsBefore n fault after
BodyRefused limits Chunked fault after = ChunksRefused limits fault after
