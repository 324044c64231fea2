-- What a kept head says is what the head of the grammar says.
use Rattle.std.proofs.Common.{◌≡◌, ℕ, List, Option, Some, Result, Ok, IsOk, map, take, refl, sym, subst}
use Rattle.http_header.specs.Token as token
use Rattle.httparse.specs.Grammar.{RequestHead}
use Rattle.httparse.specs.Grammar as grammar
use Rattle.httparse.specs.Spans.{IsRequestAt, span_bytes, header_bytes}
use Rattle.httparse.specs.declared.spans.HeaderSpan.{HeaderSpan}
use Rattle.httparse.specs.declared.spans.RequestSpans.{RequestSpans}
use Rattle.disco_values.specs.declared.fault.Fault.{Fault}
use Rattle.disco_message.specs.declared.framing.Framing.{Framing}
use Rattle.disco_message.specs.Heading.{Heading, headed, heading, heading_by, closes}

-- the parts that were found are those of the head
pub heading_at : (buf : List ℕ) (spans : List HeaderSpan) (line : RequestSpans) (h : RequestHead) → IsRequestAt buf spans line h
    → heading_by (span_bytes buf line.method) (span_bytes buf line.path) line.version (map (header_bytes buf) (take line.headers spans)) ≡ heading h
heading_at buf spans line h is = rw (is.method, is.path, is.version, is.fields) refl

pub made : (head : Heading) (method : List ℕ) (minor : ℕ) (fields : List (List ℕ × List ℕ)) (p : Option (List ℕ)) (f : Result Framing Fault) (path : List ℕ) (framing : Framing)
    → p ≡ Some path → f ≡ Ok framing → head.method ≡ method → head.target ≡ path → head.fields ≡ fields → head.framing ≡ framing → head.closes ≡ closes minor fields
    → Ok head ≡ headed method minor fields p f
made head method minor fields p f path framing pp ff m t fs fr cl =
    rw (pp, ff) (λ i. Ok (record { method = m i; target = t i; fields = fs i; framing = fr i; closes = cl i }))

-- with a path and a framing the head may be read on
pub may_be_read : (method : List ℕ) (minor : ℕ) (fields : List (List ℕ × List ℕ)) (p : Option (List ℕ)) (f : Result Framing Fault) (path : List ℕ) (framing : Framing) (result : Result Heading Fault)
    → p ≡ Some path → f ≡ Ok framing → headed method minor fields p f ≡ result → IsOk result
may_be_read method minor fields p f path framing result pp ff is =
    subst (λ (r : Result Heading Fault). IsOk r) is (subst (λ (x : Option (List ℕ)). IsOk (headed method minor fields x f)) (sym pp) (subst (λ (x : Result Framing Fault). IsOk (headed method minor fields (Some path) x)) (sym ff) refl))

is_token : (name : List ℕ) → grammar.IsToken name → token.IsToken name
unfolding grammar.is_token_byte token.is_token_byte
is_token name h = h

-- the method that was found is a token
pub method_token : (buf : List ℕ) (spans : List HeaderSpan) (line : RequestSpans) (h : RequestHead) → IsRequestAt buf spans line h → token.IsToken (span_bytes buf line.method)
method_token buf spans line h is = subst token.IsToken (sym is.method) (is_token h.method is.reads.0.method)
