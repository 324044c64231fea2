-- What the turns of a body come to.
use Rattle.std.proofs.Common.{◌≡◌, ℕ, ◌+◌, ◌-◌, ◌<◌, ◌≤◌, ◌++◌, List, [], ◌∷◌, Some, length, take, drop, ap, ◌∙◌, sym, refl, subst, arith, inl, inr, append_assoc, append-nil, length-append}
use Rattle.std.specs.List.{concat}
use Rattle.httparse.specs.Ascii.{crlf_bytes}
use Rattle.httparse.specs.Grammar.{ChunkLine, IsChunkLine, print_chunk_line, print_extension, print_end, crlf}
use Rattle.disco_values.specs.declared.fault.Fault.{Fault}
use Rattle.disco_values.specs.declared.fault.Fault.TheVariants.{BadRequest, BodyTooLarge, HeadTooLarge}
use Rattle.disco_message.specs.declared.framing.Framing.TheVariants.{Sized, Chunked}
use Rattle.disco_message.specs.declared.limits.Limits.{Limits}
use Rattle.disco_message.specs.declared.received.Extent.{Extent}
use Rattle.disco_message.specs.declared.received.Extent.TheVariants.{Framed, UntilEnd}
use Rattle.disco_http.specs.declared.body.Left.{Left}
use Rattle.disco_http.specs.declared.body.Left.TheVariants.{Line, Chunk, Trailer}
use Rattle.disco_http.specs.declared.parts.Part.TheVariants as part
use Rattle.disco_http.specs.Chunks.{HasSize, LacksChunk, LineRefused, NextRefused, ReadsPieces}
use Rattle.disco_http.specs.Coming.{Awaits, BodyAt, PiecesAt}
use Rattle.disco_http.specs.Found.{HasNoChunks, IsLine}
use Rattle.disco_http.specs.Parts.{HasNo, SomeFront}
use Rattle.disco_http.specs.Replies.{ExtentRefused}
use Rattle.disco_http.proofs.CameBefore.{no_chunked, no_data, no_fields, no_line_came, no_more}
use Rattle.disco_http.proofs.ChunkSteps.{chunk_bytes, joined-more, lacks, not_behind, pieces-more}
use Rattle.disco_http.proofs.MoreBytes.{kept_more, size_more}

-- behind chunks that were read
behind : (limits : Limits) (pieces : List (List ℕ)) (given next : List ℕ) → ReadsPieces limits given pieces next → HasNoChunks limits next → HasNoChunks limits given
behind limits [] given next reads none = subst (HasNoChunks limits) (sym reads) none
behind limits (piece ∷ pieces) given next reads none =
    no_more limits piece given reads.0 reads.1.0 reads.1.1 (behind limits pieces reads.0 next reads.2 none)

within : (limits : Limits) (done : List ℕ) (pieces : List (List ℕ)) (room : ℕ) → length done + room ≡ limits.body → done ≡ concat pieces → length (concat pieces) ≤ limits.body
within limits done pieces room fits is = omega (arith, fits, ap length is)

-- no chunks are there yet, and what follows is refused at the end
awaits : (limits : Limits) (given done next unread : List ℕ) → (at : PiecesAt limits given done next) → HasNoChunks limits next → length (concat at.0) ≤ limits.body → NextRefused limits (length (concat at.0)) BadRequest next → Awaits limits (Framed Chunked) given unread
awaits limits given done next unread at none fits refused = (no_chunked limits given (behind limits at.0 given next at.1 none), (at.0, next, at.1, fits, refused))

module _ (limits : Limits) (given bytes : List ℕ) (room : ℕ) where
  -- the line in front of a chunk
  by_line : (fault : Fault) (next : List ℕ) → SomeFront limits part.SizeLine fault next → LineRefused limits next
  by_line HeadTooLarge next h = inl h
  by_line BadRequest next h = inr (inl h)
  by_line fault next h = elim h.4 [ ]

  pub line_refused : (extent : Extent) (left : Left) (fault : Fault) (u more : List ℕ) → left ≡ Line → SomeFront limits part.SizeLine fault (u ++ more) → BodyAt limits extent given bytes left room u → ExtentRefused limits extent BadRequest (given ++ more)
  line_refused extent left fault u more is front h = go extent (subst (λ (l : Left). BodyAt limits extent given bytes l room u) is h)
    where
      go : (e : Extent) → BodyAt limits e given bytes Line room u → ExtentRefused limits e BadRequest (given ++ more)
      go (Framed (Sized n)) k = elim k [ ]
      go (Framed Chunked) k =
          let at = kept_more limits given bytes u more k.0 in
          (at.0, u ++ more, at.1, within limits bytes at.0 room k.1 at.2, inl (by_line fault (u ++ more) front))
      go UntilEnd k = elim k [ ]

  pub line_waits : (extent : Extent) (left : Left) (u : List ℕ) → left ≡ Line → HasNo part.SizeLine u → length u < limits.head → BodyAt limits extent given bytes left room u → BodyAt limits extent given bytes left room u × Awaits limits extent given u
  line_waits extent left u is none few h = (h, go extent (subst (λ (l : Left). BodyAt limits extent given bytes l room u) is h))
    where
      go : (e : Extent) → BodyAt limits e given bytes Line room u → Awaits limits e given u
      go (Framed (Sized n)) k = elim k [ ]
      go (Framed Chunked) k =
          awaits limits given bytes u u k.0 (no_line_came limits u none) (within limits bytes k.0.0 room k.1 k.0.2) (inl (inr (inr (few, none))))
      go UntilEnd k = elim k [ ]

  -- the line of a chunk that is too large
  pub too_large : (extent : Extent) (left : Left) (size : ℕ) (u after more : List ℕ) → left ≡ Line → HasSize limits size u after → room < size → BodyAt limits extent given bytes left room u → ExtentRefused limits extent BodyTooLarge (given ++ more)
  too_large extent left size u after more is line large h = go extent (subst (λ (l : Left). BodyAt limits extent given bytes l room u) is h)
    where
      go : (e : Extent) → BodyAt limits e given bytes Line room u → ExtentRefused limits e BodyTooLarge (given ++ more)
      go (Framed (Sized n)) k = elim k [ ]
      go (Framed Chunked) k =
          let at = kept_more limits given bytes u more k.0 in
          (at.0, u ++ more, at.1, within limits bytes at.0 room k.1 at.2, (size, after ++ more, size_more limits size u after more line, omega (arith, k.1, ap length at.2, large)))
      go UntilEnd k = elim k [ ]

  -- a chunk begins
  pub chunk_begun : (extent : Extent) (left : Left) (size less : ℕ) (u after : List ℕ) → left ≡ Line → HasSize limits size u after → 0 < size → size + less ≡ room → BodyAt limits extent given bytes left room u → BodyAt limits extent given bytes (Chunk (size + 2)) less after
  chunk_begun extent left size less u after is line some fits h = go extent (subst (λ (l : Left). BodyAt limits extent given bytes l room u) is h)
    where
      go : (e : Extent) → BodyAt limits e given bytes Line room u → BodyAt limits e given bytes (Chunk (size + 2)) less after
      go (Framed (Sized n)) k = elim k [ ]
      go (Framed Chunked) k = record {
        done = bytes;
        next = u;
        part = [];
        size = size;
        pieces = k.0;
        line = line;
        some = some;
        lacks = omega arith;
        fits = omega (arith, k.1, fits);
        kept = sym (append-nil bytes);
      }
      go UntilEnd k = elim k [ ]

  -- behind the line of size 0
  pub last_begun : (extent : Extent) (left : Left) (u after : List ℕ) → left ≡ Line → HasSize limits 0 u after → BodyAt limits extent given bytes left room u → BodyAt limits extent given bytes Trailer room after
  last_begun extent left u after is line h = go extent (subst (λ (l : Left). BodyAt limits extent given bytes l room u) is h)
    where
      go : (e : Extent) → BodyAt limits e given bytes Line room u → BodyAt limits e given bytes Trailer room after
      go (Framed (Sized n)) k = elim k [ ]
      go (Framed Chunked) k = (u, k.0, line, omega (arith, k.1))
      go UntilEnd k = elim k [ ]

  -- the bytes of a chunk
  some_kept : (done part piece : List ℕ) → bytes ≡ done ++ part → bytes ++ piece ≡ done ++ (part ++ piece)
  some_kept done part piece is = ap (λ (xs : List ℕ). xs ++ piece) is ∙ append_assoc done part piece

  short : (size : ℕ) (after : List ℕ) → length after < size + 2 → LacksChunk size after
  short size after few piece rest is all =
      let two : length crlf_bytes ≡ 2 = refl in
      omega (arith, few, ap length all, length-append piece (crlf_bytes ++ rest), length-append crlf_bytes rest, two, is)

  pub chunk_waits : (extent : Extent) (left : Left) (missing still : ℕ) (u piece v : List ℕ) → left ≡ Chunk missing → u ≡ piece ++ v → length piece + still ≡ missing → 0 < still → v ≡ [] → BodyAt limits extent given bytes left room u → BodyAt limits extent given (bytes ++ piece) (Chunk still) room v × Awaits limits extent given v
  chunk_waits extent left missing still u piece v is parts all some none h = go extent (subst (λ (l : Left). BodyAt limits extent given bytes l room u) is h)
    where
      go : (e : Extent) → BodyAt limits e given bytes (Chunk missing) room u → BodyAt limits e given (bytes ++ piece) (Chunk still) room v × Awaits limits e given v
      go (Framed (Sized n)) k = elim k [ ]
      go (Framed Chunked) k =
          let regroup : k.part ++ u ≡ (k.part ++ piece) ++ v = ap (λ (xs : List ℕ). k.part ++ xs) parts ∙ sym (append_assoc k.part piece v) in
          let whole : length (k.part ++ u) ≡ length k.part + length piece = ap length (regroup ∙ ap (λ (xs : List ℕ). (k.part ++ piece) ++ xs) none ∙ append-nil (k.part ++ piece)) ∙ length-append k.part piece in
          let few : length (k.part ++ u) < k.size + 2 = omega (arith, whole, all, k.lacks, some) in
          let fits : length (concat k.pieces.0) ≤ limits.body = omega (arith, k.fits, ap length k.pieces.2) in
          let room_left : length (concat k.pieces.0) + k.size ≤ limits.body = omega (arith, k.fits, ap length k.pieces.2) in (
            record {
              done = k.done;
              next = k.next;
              part = k.part ++ piece;
              size = k.size;
              pieces = k.pieces;
              line = subst (HasSize limits k.size k.next) regroup k.line;
              some = k.some;
              lacks = omega (arith, length-append k.part piece, all, k.lacks);
              fits = k.fits;
              kept = some_kept k.done k.part piece k.kept;
            },
            awaits limits given k.done k.next v k.pieces (no_data limits k.size k.next (k.part ++ u) k.some k.line few) fits (inr (inl (k.size, k.part ++ u, k.line, room_left, short k.size (k.part ++ u) few))),
          )
      go UntilEnd k = elim k [ ]

  pub chunk_done : (extent : Extent) (left : Left) (missing end : ℕ) (u piece v : List ℕ) → left ≡ Chunk missing → u ≡ piece ++ v → length piece + 0 ≡ missing → end ≡ length (bytes ++ piece) - 2 → drop end (bytes ++ piece) ≡ crlf_bytes → BodyAt limits extent given bytes left room u → BodyAt limits extent given (take end (bytes ++ piece)) Line room v
  chunk_done extent left missing end u piece v is parts all at ends h = go extent (subst (λ (l : Left). BodyAt limits extent given bytes l room u) is h)
    where
      go : (e : Extent) → BodyAt limits e given bytes (Chunk missing) room u → BodyAt limits e given (take end (bytes ++ piece)) Line room v
      go (Framed (Sized n)) k = elim k [ ]
      go (Framed Chunked) k =
          let both = k.part ++ piece in
          let kept = some_kept k.done k.part piece k.kept in
          let size : length both ≡ k.size + 2 = omega (arith, length-append k.part piece, all, k.lacks) in
          let here : end ≡ length k.done + k.size = omega (arith, at, ap length kept, length-append k.done both, size) in
          let b = chunk_bytes k.done both (bytes ++ piece) k.size end kept size here ends in
          let chunk = take k.size both in
          let regroup : k.part ++ u ≡ chunk ++ (crlf_bytes ++ v) = ap (λ (xs : List ℕ). k.part ++ xs) parts ∙ sym (append_assoc k.part piece v) ∙ ap (λ (xs : List ℕ). xs ++ v) (sym b.2) ∙ append_assoc chunk crlf_bytes v in
          let line : HasSize limits (length chunk) k.next (chunk ++ (crlf_bytes ++ v)) = subst (λ (n : ℕ). HasSize limits n k.next (chunk ++ (crlf_bytes ++ v))) (sym b.1) (subst (HasSize limits k.size k.next) regroup k.line) in
          let some : 0 < length chunk = omega (arith, b.1, k.some) in (
            (k.pieces.0 ++ chunk ∷ [], pieces-more limits given k.next v chunk k.pieces.0 k.pieces.1 (some, line), b.0 ∙ ap (λ (xs : List ℕ). xs ++ chunk) k.pieces.2 ∙ sym (joined-more k.pieces.0 chunk)),
            omega (arith, ap length b.0, length-append k.done chunk, b.1, k.fits),
          )
      go UntilEnd k = elim k [ ]

  pub chunk_refused : (extent : Extent) (left : Left) (missing end : ℕ) (u piece v more : List ℕ) → left ≡ Chunk missing → u ≡ piece ++ v → length piece + 0 ≡ missing → end ≡ length (bytes ++ piece) - 2 → (drop end (bytes ++ piece) ≡ crlf_bytes → ⊥) → BodyAt limits extent given bytes left room u → ExtentRefused limits extent BadRequest (given ++ more)
  chunk_refused extent left missing end u piece v more is parts all at differs h = go extent (subst (λ (l : Left). BodyAt limits extent given bytes l room u) is h)
    where
      go : (e : Extent) → BodyAt limits e given bytes (Chunk missing) room u → ExtentRefused limits e BadRequest (given ++ more)
      go (Framed (Sized n)) k = elim k [ ]
      go (Framed Chunked) k =
          let both = k.part ++ piece in
          let kept = some_kept k.done k.part piece k.kept in
          let size : length both ≡ k.size + 2 = omega (arith, length-append k.part piece, all, k.lacks) in
          let here : end ≡ length k.done + k.size = omega (arith, at, ap length kept, length-append k.done both, size) in
          let regroup : (k.part ++ u) ++ more ≡ both ++ (v ++ more) = ap (λ (xs : List ℕ). (k.part ++ xs) ++ more) parts ∙ ap (λ (xs : List ℕ). xs ++ more) (sym (append_assoc k.part piece v)) ∙ append_assoc both v more in
          let pieces = kept_more limits given k.done k.next more k.pieces in
          let fits : length (concat pieces.0) ≤ limits.body = omega (arith, k.fits, ap length pieces.2) in
          let room_left : length (concat pieces.0) + k.size ≤ limits.body = omega (arith, k.fits, ap length pieces.2) in (
            pieces.0,
            k.next ++ more,
            pieces.1,
            fits,
            inr (inl (
              k.size,
              (k.part ++ u) ++ more,
              size_more limits k.size k.next (k.part ++ u) more k.line,
              room_left,
              lacks both k.size (Some ((k.part ++ u) ++ more)) (Some (v ++ more)) size regroup (not_behind k.done both (bytes ++ piece) k.size end kept here differs),
            )),
          )
      go UntilEnd k = elim k [ ]

  -- the fields behind the last chunk
  by_fields : (fault : Fault) (have : ℕ) (next after : List ℕ) → HasSize limits 0 next after → SomeFront limits part.Trailer fault after → NextRefused limits have fault next
  by_fields HeadTooLarge have next after last h = (after, last, h)
  by_fields BadRequest have next after last h = inr (inr (after, last, inl h))
  by_fields fault have next after last h = elim h.4 [ ]

  pub trailer_refused : (extent : Extent) (left : Left) (fault : Fault) (u more : List ℕ) → left ≡ Trailer → SomeFront limits part.Trailer fault (u ++ more) → BodyAt limits extent given bytes left room u → ExtentRefused limits extent fault (given ++ more)
  trailer_refused extent left fault u more is front h = go extent (subst (λ (l : Left). BodyAt limits extent given bytes l room u) is h)
    where
      go : (e : Extent) → BodyAt limits e given bytes Trailer room u → ExtentRefused limits e fault (given ++ more)
      go (Framed (Sized n)) k = elim k [ ]
      go (Framed Chunked) k =
          let at = kept_more limits given bytes k.0 more k.1 in
          (at.0, k.0 ++ more, at.1, omega (arith, k.3, ap length at.2), by_fields fault (length (concat at.0)) (k.0 ++ more) (u ++ more) (size_more limits 0 k.0 u more k.2) front)
      go UntilEnd k = elim k [ ]

  pub trailer_waits : (extent : Extent) (left : Left) (u : List ℕ) → left ≡ Trailer → HasNo part.Trailer u → length u < limits.head → BodyAt limits extent given bytes left room u → BodyAt limits extent given bytes left room u × Awaits limits extent given u
  trailer_waits extent left u is none few h = (h, go extent (subst (λ (l : Left). BodyAt limits extent given bytes l room u) is h))
    where
      go : (e : Extent) → BodyAt limits e given bytes Trailer room u → Awaits limits e given u
      go (Framed (Sized n)) k = elim k [ ]
      go (Framed Chunked) k =
          awaits limits given bytes k.0 u k.1 (no_fields limits k.0 u k.2 none) (omega (arith, k.3, ap length k.1.2)) (inr (inr (u, k.2, inr (few, none))))
      go UntilEnd k = elim k [ ]

-- a line that was found has its size
pub line_here : (limits : Limits) (u : List ℕ) (len size : ℕ) → IsLine u len size → length u ≤ limits.head → HasSize limits size u (drop len u)
line_here limits u len size is small = (is.1.0, is.1.1.reads, omega (arith, is.0, is.1.1.len_is, small), sym is.1.1.size_is)

print_is : (l : ChunkLine) → print_chunk_line l ≡ ((l.digits ++ l.pad) ++ print_extension l.extension) ++ print_end crlf
unfolding print_chunk_line
print_is l = refl

line_some : (l : ChunkLine) → IsChunkLine l → 0 < length (print_chunk_line l)
line_some l is =
    omega (
      arith,
      ap length (print_is l),
      length-append ((l.digits ++ l.pad) ++ print_extension l.extension) (print_end crlf),
      length-append (l.digits ++ l.pad) (print_extension l.extension),
      length-append l.digits l.pad,
      is.digits.0,
    )

pub line_size : (u : List ℕ) (len size : ℕ) → IsLine u len size → (0 < len) × (len ≤ length u)
line_size u len size is = (omega (arith, is.1.1.len_is, line_some is.1.0 is.1.1.reads.0), is.0)
