-- What came of a stream before a read failed.
use Rattle.std.proofs.Common.{◌≡◌, ℕ, ◌+◌, ◌<◌, List, [], ◌∷◌, ◌++◌, Option, Some, None, IfSome, Ok, length, drop, sym, ◌∙◌, ap, subst, refl, arith, append_assoc, length-append}
use Rattle.std.specs.Io.KnownBytes.{Keeps, Consumes, prepend_known}
use Rattle.httparse.specs.Ascii.{crlf_bytes}
use Rattle.std.proofs.Math.Seq.{drop-append-add}
use Rattle.httparse.specs.Grammar.{chunk_size, ResponseHead, IsResponseHead, print_response, HasNoChunkLine, HasNoSection}
use Rattle.httparse.proofs.GrammarLemmas.{request_unique, response_unique}
use Rattle.httparse.proofs.ChunkLemmas.{chunk_line_unique}
use Rattle.disco_message.specs.declared.framing.Framing.TheVariants.{Chunked}
use Rattle.disco_message.specs.declared.limits.Limits.{Limits}
use Rattle.disco_message.specs.declared.received.Extent.{Extent}
use Rattle.disco_message.specs.declared.received.Extent.TheVariants.{Framed, UntilEnd}
use Rattle.disco_message.specs.Heading.{Heading, heading}
use Rattle.disco_message.specs.Received.{Received, received}
use Rattle.disco_http.specs.Bodies.{ReadsBody}
use Rattle.disco_http.specs.Chunks.{HasSize, ReadsPieces}
use Rattle.disco_http.specs.Coming.{HeadAt}
use Rattle.disco_http.specs.Found.{HasNoChunks, HasNoBody, HasNoExtent, ReplyRead}
use Rattle.disco_http.specs.Replies.{HasNoReply, ReadsExtent}
use Rattle.disco_http.specs.Requests.{HasNone}
use Rattle.disco_http.specs.Streams.{Came}
use Rattle.disco_http.proofs.ChunkSteps.{known_is}

module _ (IsSo : List ℕ → Type 0) where
  -- what is unread came
  pub came : (a : Option (List ℕ)) (front : List ℕ) (b : Option (List ℕ)) → Keeps a (prepend_known front b) → IsSo front → IfSome a (λ stream. Came IsSo stream b)
  came None front b k so = tt
  came (Some stream) front None k so = elim k [ ]
  came (Some stream) front (Some left) k so = (front, sym k, so)

  pub came_read : (a b : Option (List ℕ)) (front : List ℕ) → Consumes a b front → IsSo front → IfSome a (λ stream. Came IsSo stream b)
  came_read None b front k so = tt
  came_read (Some stream) b front k so = (front, k, so)

  -- what came behind other bytes came, with these in front
  came_behind : (stream front after : List ℕ) (b : Option (List ℕ)) (IsMore : List ℕ → Type 0) → stream ≡ front ++ after → ((xs : List ℕ) → IsMore xs → IsSo (front ++ xs)) → Came IsMore after b → Came IsSo stream b
  came_behind stream front after None IsMore is so h = elim h.1 [ ]
  came_behind stream front after (Some left) IsMore is so h =
      (front ++ h.0, is ∙ ap (λ (xs : List ℕ). front ++ xs) h.1 ∙ sym (append_assoc front h.0 left), so h.0 h.2)

-- the line of a chunk that stands at the front is the one
line_is : (limits : Limits) (given after rest : List ℕ) (m n : ℕ) → HasSize limits m given after → HasSize limits n given rest → (m ≡ n) × (after ≡ rest)
line_is limits given after rest m n x y =
    let same = chunk_line_unique given x.0 y.0 after rest x.1 y.1 in
    (sym x.3 ∙ ap chunk_size same.0 ∙ y.3, same.1)

-- no line of a chunk came
pub no_line_came : (limits : Limits) (given : List ℕ) → HasNoChunkLine given → HasNoChunks limits given
no_line_came limits given none [] next rest reads last = none last.1.0 last.0 (last.1.1.0, reads ∙ last.1.1.1)
no_line_came limits given none (piece ∷ pieces) next rest reads last = none reads.1.1.0 (piece ++ (crlf_bytes ++ reads.0)) reads.1.1.1

-- a line came, and not all bytes of its chunk with a line end
pub no_data : (limits : Limits) (n : ℕ) (text given : List ℕ) → 0 < n → HasSize limits n text given → length given < n + 2 → HasNoChunks limits text
no_data limits n text given some here few [] next rest reads last =
    let same = line_is limits text given last.0 n 0 here (subst (λ (xs : List ℕ). HasSize limits 0 xs last.0) (sym reads) last.1) in
    omega (arith, some, same.0)
no_data limits n text given some here few (piece ∷ pieces) next rest reads last =
    let same = line_is limits text given (piece ++ (crlf_bytes ++ reads.0)) n (length piece) here reads.1.1 in
    let two : length crlf_bytes ≡ 2 = refl in
    omega (arith, few, same.0, ap length same.1, length-append piece (crlf_bytes ++ reads.0), length-append crlf_bytes reads.0, two)

-- the line of size 0 came, and not all fields behind it
pub no_fields : (limits : Limits) (text given : List ℕ) → HasSize limits 0 text given → HasNoSection given → HasNoChunks limits text
no_fields limits text given here none [] next rest reads last =
    let same = line_is limits text given last.0 0 0 here (subst (λ (xs : List ℕ). HasSize limits 0 xs last.0) (sym reads) last.1) in
    let trailer = last.2 in
    none trailer.0 trailer.1 rest (trailer.2.0, same.1 ∙ trailer.2.1)
no_fields limits text given here none (piece ∷ pieces) next rest reads last =
    let same = line_is limits text given (piece ++ (crlf_bytes ++ reads.0)) 0 (length piece) here reads.1.1 in
    omega (arith, same.0, reads.1.0)

-- behind a chunk that came
pub no_more : (limits : Limits) (piece text given : List ℕ) → 0 < length piece → HasSize limits (length piece) text (piece ++ (crlf_bytes ++ given)) → HasNoChunks limits given → HasNoChunks limits text
no_more limits piece text given some here none [] next rest reads last =
    let same = line_is limits text (piece ++ (crlf_bytes ++ given)) last.0 (length piece) 0 here (subst (λ (xs : List ℕ). HasSize limits 0 xs last.0) (sym reads) last.1) in
    omega (arith, some, same.0)
no_more limits piece text given some here none (q ∷ pieces) next rest reads last =
    let same = line_is limits text (piece ++ (crlf_bytes ++ given)) (q ++ (crlf_bytes ++ reads.0)) (length piece) (length q) here reads.1.1 in
    let behind : given ≡ reads.0 =
    sym (drop-append-add piece (crlf_bytes ++ given) 2) ∙ ap (drop (length piece + 2)) same.1 ∙ ap (λ n. drop (n + 2) (q ++ (crlf_bytes ++ reads.0))) same.0 ∙ drop-append-add q (crlf_bytes ++ reads.0) 2 in
    none pieces next rest (subst (λ (xs : List ℕ). ReadsPieces limits xs pieces next) (sym behind) reads.2) last

pub no_chunked : (limits : Limits) (given : List ℕ) → HasNoChunks limits given → HasNoBody limits Chunked given
no_chunked limits given none body rest reads = none reads.0 reads.1 rest reads.2 reads.3

-- requests

-- a head stands there, and not its whole body
pub head_and : (limits : Limits) (given after : List ℕ) (says : Heading) → HeadAt limits given says after → HasNoBody limits says.framing after → HasNone limits given
head_and limits given after says at none a rest takes =
    let same = request_unique given at.0 takes.head after takes.after at.1.reads takes.begins.reads in
    let as_said : Ok says ≡ Ok takes.says = sym at.2 ∙ ap heading same.0 ∙ takes.heading in
    let says_same : says ≡ takes.says = cc as_said in
    none a.body rest (subst (λ (s : Heading). ReadsBody limits s.framing after a.body rest) (sym says_same) (subst (λ (xs : List ℕ). ReadsBody limits takes.says.framing xs a.body rest) (sym same.1) takes.body))

-- replies

ends_late : (limits : Limits) (extent : Extent) (given body rest : List ℕ) → HasNoExtent limits extent given → ReadsExtent limits extent given body rest → extent ≡ UntilEnd
ends_late limits (Framed framing) given body rest none reads = absurd (none body rest reads)
ends_late limits UntilEnd given body rest none reads = refl

reply_head_and : (limits : Limits) (h : ResponseHead) (said : Received) (given : List ℕ) → IsResponseHead h → received h ≡ Ok said → HasNoExtent limits said.extent given → HasNoReply limits (print_response h ++ given)
reply_head_and limits h said given is saying none says body rest takes =
    let same = response_unique (print_response h ++ given) h takes.head given takes.after (is, refl) takes.begins.reads in
    let as_said : Ok said ≡ Ok says = sym saying ∙ ap received same.0 ∙ takes.received in
    let says_same : said ≡ says = cc as_said in
    let here = subst (λ (xs : List ℕ). ReadsExtent limits says.extent xs body rest) (sym same.1) takes.reads in
    ends_late limits says.extent given body rest (subst (λ (s : Received). HasNoExtent limits s.extent given) says_same none) here

pub no_extent_came : (limits : Limits) (first mid b : Option (List ℕ)) (says : Received) → IfSome first (λ stream. ReplyRead limits stream says mid) → IfSome mid (λ after. Came (HasNoExtent limits says.extent) after b) → IfSome first (λ stream. Came (HasNoReply limits) stream b)
no_extent_came limits None mid b says found cut = tt
no_extent_came limits (Some stream) mid b says found cut =
    let h = found.0 in
    let after = found.1 in
    let reads = found.2.reads in
    came_behind (HasNoReply limits) stream (print_response h) after b (HasNoExtent limits says.extent) reads.1
    (λ given none. reply_head_and limits h says given reads.0 found.3 none)
    (known_is mid after (λ after. Came (HasNoExtent limits says.extent) after b) found.4 cut)
