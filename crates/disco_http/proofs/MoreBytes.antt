-- What stands in bytes stands there whatever follows.
use Rattle.std.proofs.Common.{ℕ, ◌++◌, List, [], ◌∷◌, length, ap, ◌∙◌, append_assoc, subst}
use Rattle.httparse.specs.Ascii.{crlf_bytes}
use Rattle.httparse.proofs.GrammarLemmas.{ReadsRequest-append, ReadsSection-append}
use Rattle.httparse.proofs.ChunkLemmas.{ReadsChunkLine-append}
use Rattle.httparse.specs.Grammar.{RequestHead}
use Rattle.disco_message.specs.declared.framing.Framing.{Framing}
use Rattle.disco_message.specs.declared.framing.Framing.TheVariants.{Sized, Chunked}
use Rattle.disco_message.specs.declared.limits.Limits.{Limits}
use Rattle.disco_message.specs.declared.received.Extent.{Extent}
use Rattle.disco_message.specs.declared.received.Extent.TheVariants.{Framed, UntilEnd}
use Rattle.disco_http.specs.declared.body.Left.{Left}
use Rattle.disco_http.specs.declared.body.Left.TheVariants.{Bytes, Line, Chunk, Trailer, ToEnd}
use Rattle.disco_http.specs.declared.incoming.Phase.{Phase}
use Rattle.disco_http.specs.declared.incoming.Phase.TheVariants as phase
use Rattle.disco_http.specs.Bodies.{ReadsBody}
use Rattle.disco_http.specs.Chunks.{HasSize, ReadsChunk, ReadsPieces, ReadsTrailer, ReadsLast}
use Rattle.disco_http.specs.Coming.{BodyAt, PhaseAt, PiecesAt, ReadsWhole}
use Rattle.disco_http.specs.Replies.{ReadsExtent}
use Rattle.disco_http.specs.Requests.{BeginsWithHead}

pub size_more : (limits : Limits) (size : ℕ) (input after more : List ℕ) → HasSize limits size input after → HasSize limits size (input ++ more) (after ++ more)
size_more limits size input after more h = (h.0, ReadsChunkLine-append input h.0 after more h.1, h.2, h.3)

chunk_more : (limits : Limits) (input piece next more : List ℕ) → ReadsChunk limits input piece next → ReadsChunk limits (input ++ more) piece (next ++ more)
chunk_more limits input piece next more h =
    (h.0, subst (λ (xs : List ℕ). HasSize limits (length piece) (input ++ more) xs) (append_assoc piece (crlf_bytes ++ next) more) (size_more limits (length piece) input (piece ++ (crlf_bytes ++ next)) more h.1))

pieces_more : (limits : Limits) (pieces : List (List ℕ)) (input next more : List ℕ) → ReadsPieces limits input pieces next → ReadsPieces limits (input ++ more) pieces (next ++ more)
pieces_more limits [] input next more h = ap (λ (xs : List ℕ). xs ++ more) h
pieces_more limits (piece ∷ pieces) input next more h =
    (h.0 ++ more, chunk_more limits input piece h.0 more h.1, pieces_more limits pieces h.0 next more h.2)

pub kept_more : (limits : Limits) (given done next more : List ℕ) → PiecesAt limits given done next → PiecesAt limits (given ++ more) done (next ++ more)
kept_more limits given done next more h = (h.0, pieces_more limits h.0 given next more h.1, h.2)

trailer_more : (limits : Limits) (input rest more : List ℕ) → ReadsTrailer limits input rest → ReadsTrailer limits (input ++ more) (rest ++ more)
trailer_more limits input rest more h = (h.0, h.1, ReadsSection-append input h.0 h.1 rest more h.2, h.3, h.4)

last_more : (limits : Limits) (input rest more : List ℕ) → ReadsLast limits input rest → ReadsLast limits (input ++ more) (rest ++ more)
last_more limits input rest more h = (h.0 ++ more, size_more limits 0 input h.0 more h.1, trailer_more limits h.0 rest more h.2)

pub body_more : (limits : Limits) (framing : Framing) (given body rest more : List ℕ) → ReadsBody limits framing given body rest → ReadsBody limits framing (given ++ more) body (rest ++ more)
body_more limits (Sized n) given body rest more h = (h.0, h.1, ap (λ (xs : List ℕ). xs ++ more) h.2 ∙ append_assoc body rest more)
body_more limits Chunked given body rest more h =
    (h.0, h.1 ++ more, pieces_more limits h.0 given h.1 more h.2, last_more limits h.1 rest more h.3, h.4, h.5)

pub whole_more : (limits : Limits) (extent : Extent) (given body rest more : List ℕ) → ReadsWhole limits extent given body rest → ReadsExtent limits extent (given ++ more) body (rest ++ more)
whole_more limits (Framed framing) given body rest more h = body_more limits framing given body rest more h
whole_more limits UntilEnd given body rest more h = elim h [ ]

-- a body of which more came
pub at_more : (limits : Limits) (extent : Extent) (left : Left) (given bytes unread more : List ℕ) (room : ℕ) → BodyAt limits extent given bytes left room unread → BodyAt limits extent (given ++ more) bytes left room (unread ++ more)
at_more limits (Framed (Sized n)) (Bytes missing) given bytes unread more room h = (ap (λ (xs : List ℕ). xs ++ more) h.0 ∙ append_assoc bytes unread more, h.1, h.2)
at_more limits (Framed Chunked) Line given bytes unread more room h = (kept_more limits given bytes unread more h.0, h.1)
at_more limits (Framed Chunked) (Chunk missing) given bytes unread more room h = record {
  done = h.done;
  next = h.next ++ more;
  part = h.part;
  size = h.size;
  pieces = kept_more limits given h.done h.next more h.pieces;
  line = subst (λ (xs : List ℕ). HasSize limits h.size (h.next ++ more) xs) (append_assoc h.part unread more) (size_more limits h.size h.next (h.part ++ unread) more h.line);
  some = h.some;
  lacks = h.lacks;
  fits = h.fits;
  kept = h.kept;
}
at_more limits (Framed Chunked) Trailer given bytes unread more room h = (h.0 ++ more, kept_more limits given bytes h.0 more h.1, size_more limits 0 h.0 unread more h.2, h.3)
at_more limits UntilEnd ToEnd given bytes unread more room h = (ap (λ (xs : List ℕ). xs ++ more) h.0 ∙ append_assoc bytes unread more, h.1)
at_more limits extent left given bytes unread more room h = elim h [ ]

pub head_more : (limits : Limits) (given : List ℕ) (h : RequestHead) (after more : List ℕ) → BeginsWithHead limits given h after → BeginsWithHead limits (given ++ more) h (after ++ more)
head_more limits given h after more b = record { reads = ReadsRequest-append given h after more b.reads; fits = b.fits; few = b.few }

-- a request of which more came
pub phase_more : (limits : Limits) (at : Phase) (given unread more : List ℕ) → PhaseAt limits given at unread → PhaseAt limits (given ++ more) at (unread ++ more)
phase_more limits phase.Head given unread more h = ap (λ (xs : List ℕ). xs ++ more) h
phase_more limits (phase.Body says body) given unread more h = (
  h.0 ++ more,
  (h.1.0, head_more limits given h.1.0 h.0 more h.1.1, h.1.2),
  at_more limits (Framed says.framing) body.left h.0 body.bytes.items unread more body.room h.2,
)
