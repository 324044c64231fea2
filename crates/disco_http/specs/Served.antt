-- The answers to the requests of a stream, and how a connection ends.
use Rattle.std.specs.Prelude.{◌≡◌, ◌≢◌, ◌⊎◌, ℕ, ◌-◌, Bool, true, false, List, [], ◌∷◌, ◌++◌, length, Option, Some, None, if◌then◌else◌, ◌==◌, IsTrue}
use Rattle.std.specs.List.{concat}
use Rattle.std.specs.Io.KnownBytes.{Appends}
use Rattle.disco_values.specs.declared.fault.Fault.TheVariants.{ReadFailed, WriteFailed}
use Rattle.disco_values.specs.declared.fault.Fault as fault
use Rattle.disco_message.specs.declared.limits.Limits.{Limits}
use Rattle.disco_message.specs.RequestView as message
use Rattle.disco_message.specs.ReplyText.{ReplyView, reply_text}
use Rattle.disco_message.specs.StatusLine.{refusal}
use Rattle.disco_http.specs.Requests.{HasNone, TakesRequest, Refused}
use Rattle.disco_http.specs.Streams.{Came, ahead, source_of}
use Rattle.disco_http.specs.declared.reader.Reader.{Reader}
use Rattle.disco_http.specs.Writes.{AppendsProperFront}
use Rattle.disco_http.specs.declared.session.End.{End}
use Rattle.disco_http.specs.declared.session.End.TheVariants.{Closed, Asked, Limit}
use Rattle.disco_http.specs.declared.session.End.TheVariants as ends
use Rattle.disco_http.specs.declared.session.Served.{Served}

-- how a connection ends behind a request, if it does
abbrev pub end_behind : Bool → Bool → Option End
end_behind closes last = if last then Some Limit else if closes then Some Asked else None

-- what a connection leaves: what stays ahead of its reader, and what the reader's source still gives
pub record Left : Type 0 where
  pub ahead : Option (List ℕ)
  pub source : Option (List ℕ)

abbrev pub left_by : {R : Type 0} → (R → Option (List ℕ)) → Reader R → Left
left_by remaining reader = record { ahead = ahead remaining reader; source = remaining (source_of reader) }

-- how a stream ends that has no more requests: where a read failed no whole one had come, and behind a failed write nothing is read
abbrev pub EndsStream : Limits → List ℕ → Left → End → Type 0
EndsStream limits stream left Closed = stream ≡ []
EndsStream limits stream left Asked = ⊥
EndsStream limits stream left Limit = ⊥
EndsStream limits stream left (ends.Fault ReadFailed) = Came (HasNone limits) stream left.source
EndsStream limits stream left (ends.Fault WriteFailed) = left.ahead ≡ Some stream
EndsStream limits stream left (ends.Fault f) = Refused limits f stream

-- what comes behind a request: where it was the last, nothing, and the rest stays ahead
abbrev pub Behind : Option End → Type 0 → List ℕ → Left → List message.RequestView → End → Type 0
Behind (Some at) later rest left asks end = (asks ≡ []) × (end ≡ at) × (left.ahead ≡ Some rest)
Behind None later rest left asks end = later

-- the requests that stand in a stream, one after another, of at most so many, and how they end
abbrev pub Requests : Limits → ℕ → List ℕ → Left → List message.RequestView → End → Type 0
Requests limits most stream left [] end = EndsStream limits stream left end
Requests limits most stream left (a ∷ asks) end =
    (rest : List ℕ) × TakesRequest limits stream a rest × Behind (end_behind a.closes (most == 1))
    (Requests limits (most - 1) rest left asks end) rest left asks end

-- the answers answer the requests, each from the state that the one before left
abbrev pub Chain : {S : Type 0} → (S → message.RequestView → ReplyView → S → Type 0) → S → List message.RequestView → List ReplyView → S → Type 0
Chain answers old [] [] new = new ≡ old
Chain {S} answers old (a ∷ asks) (r ∷ replies) new = (mid : S) × answers old a r mid × Chain answers mid asks replies new
Chain answers old [] (r ∷ replies) new = ⊥
Chain answers old (a ∷ asks) [] new = ⊥

-- the answer to a request that was refused
abbrev pub refused : fault.Fault → ReplyView
refused f = record { status = refusal f; allow = None; document = None; cert = None }

-- what is written at the end, behind all replies: the refusal of a request, and nothing where a read or a write failed
abbrev pub end_texts : End → List (List ℕ)
end_texts (ends.Fault ReadFailed) = []
end_texts (ends.Fault WriteFailed) = []
end_texts (ends.Fault f) = reply_text (refused f) true ∷ []
end_texts _ = []

-- the connection ends behind a reply with no other behind it
abbrev pub is_last : List ReplyView → End → Bool
is_last [] Asked = true
is_last [] Limit = true
is_last _ _ = false

-- the text of each reply, in order; the last one says where the connection ends behind it
abbrev pub texts : List ReplyView → End → List (List ℕ)
texts [] end = end_texts end
texts (r ∷ replies) end = reply_text r (is_last replies end) ∷ texts replies end

-- all texts but the last were written, and a front of that one
abbrev pub Breaks : Option (List ℕ) → Option (List ℕ) → List (List ℕ) → Type 0
Breaks before after texts =
    (whole : List (List ℕ)) × (last : List ℕ) × (mid : Option (List ℕ)) × (texts ≡ whole ++ last ∷ []) × Appends before mid (concat whole)
    × AppendsProperFront mid after last

-- the connection ends by a reply, and not at the end of its input, nor by a failed read
abbrev pub ends_by_reply : End → Bool
ends_by_reply Closed = false
ends_by_reply (ends.Fault ReadFailed) = false
ends_by_reply end = true

-- all texts were written, or the write of the last one failed, which ended the connection
abbrev pub Written : End → End → Option (List ℕ) → Option (List ℕ) → List (List ℕ) → Type 0
Written at end before after texts = ((at ≡ end) × (at ≢ ends.Fault WriteFailed) × Appends before after (concat texts))
    ⊎ ((at ≡ ends.Fault WriteFailed) × IsTrue (ends_by_reply end) × Breaks before after texts)

-- the connection's replies are exactly the answers to the stream's requests
abbrev pub AnswersAll : {S : Type 0} → (S → message.RequestView → ReplyView → S → Type 0) → Limits → List ℕ → Left → S → S → Option (List ℕ) → Option (List ℕ)
    → Served → Type 0
AnswersAll answers limits stream left old new before after served =
    (asks : List message.RequestView) × (replies : List ReplyView) × (end : End)
    × Requests limits limits.requests stream left asks end
    × Chain answers old asks replies new
    × (length asks ≡ served.requests)
    × Written served.end end before after (texts replies end)
