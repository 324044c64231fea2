-- A head that is found in the buffer stands in the stream, whatever follows.
use Rattle.std.proofs.Common.{◌≡◌, ℕ, ◌≤◌, List, ◌++◌, length, take, drop, sym, ◌∙◌, ap, arith, append_assoc}
use Rattle.std.proofs.lemmas.List.{length-map, length-take}
use Rattle.httparse.specs.Grammar.{RequestHead, ResponseHead, Field, print_response}
use Rattle.httparse.specs.Spans.{IsRequestAt, IsResponseAt, AreFieldsAt, header_bytes, name_and_value}
use Rattle.httparse.specs.declared.spans.HeaderSpan.{HeaderSpan}
use Rattle.httparse.specs.declared.spans.RequestSpans.{RequestSpans}
use Rattle.httparse.specs.declared.spans.ResponseSpans.{ResponseSpans}
use Rattle.disco_message.specs.declared.limits.Limits.{Limits}
use Rattle.disco_http.specs.Replies.{BeginsReply}
use Rattle.disco_http.specs.Requests.{BeginsWithHead}

few_fields : (u : List ℕ) (spans : List HeaderSpan) (count : ℕ) (fields : List Field) (most : ℕ) → AreFieldsAt u spans count fields → length spans ≤ most → length fields ≤ most
few_fields u spans count fields most are few =
    omega (arith, few, length-take count spans, sym (length-map (take count spans) (header_bytes u)) ∙ ap length are ∙ length-map fields name_and_value)

-- this text with these fields, at the front of the buffer, is within the limits and stands in the stream
text_here : (limits : Limits) (u more text : List ℕ) (spans : List HeaderSpan) (len count : ℕ) (fields : List Field) → length u ≤ limits.head → length spans ≤ limits.fields → len ≤ length u
    → u ≡ text ++ drop len u → len ≡ length text → AreFieldsAt u spans count fields → (u ++ more ≡ text ++ (drop len u ++ more)) × (length text ≤ limits.head) × (length fields ≤ limits.fields)
text_here limits u more text spans len count fields small few within front size are = (
  ap (λ (v : List ℕ). v ++ more) front ∙ append_assoc text (drop len u) more,
  omega (arith, size, within, small),
  few_fields u spans count fields limits.fields are few,
)

pub request_here : (limits : Limits) (u : List ℕ) (spans : List HeaderSpan) (line : RequestSpans) (h : RequestHead) → length u ≤ limits.head → length spans ≤ limits.fields → line.len ≤ length u → IsRequestAt u spans line h → BeginsWithHead limits u h (drop line.len u)
request_here limits u spans line h small few within is =
    record { reads = is.reads; fits = omega (arith, is.len, within, small); few = few_fields u spans line.headers h.fields limits.fields is.fields few }

pub reply_here : (limits : Limits) (u : List ℕ) (spans : List HeaderSpan) (line : ResponseSpans) (h : ResponseHead) → length u ≤ limits.head → length spans ≤ limits.fields → line.len ≤ length u → IsResponseAt u spans line h
    → (more : List ℕ) → BeginsReply limits (u ++ more) h (drop line.len u ++ more)
reply_here limits u spans line h small few within is more =
    let t = text_here limits u more (print_response h) spans line.len line.headers h.fields small few within is.reads.1 is.len is.fields in
    record { reads = (is.reads.0, t.0); fits = t.1; few = t.2 }
