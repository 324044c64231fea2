-- What a kept head of a reply says is what the head of the grammar says.
use Rattle.std.proofs.Common.{◌≡◌, ℕ, List, Option, Some, Result, Ok, IsOk, map, take, refl, sym, subst}
use Rattle.httparse.specs.Grammar.{ResponseHead}
use Rattle.httparse.specs.Spans.{IsResponseAt, header_bytes}
use Rattle.httparse.specs.declared.spans.HeaderSpan.{HeaderSpan}
use Rattle.httparse.specs.declared.spans.ResponseSpans.{ResponseSpans}
use Rattle.disco_values.specs.declared.fault.Fault.{Fault}
use Rattle.disco_message.specs.Heading.{closes}
use Rattle.disco_message.specs.declared.received.Extent.{Extent}
use Rattle.disco_message.specs.Received.{Received, received, received_by, received_with}

-- the parts that were found are those of the head
pub received_at : (buf : List ℕ) (spans : List HeaderSpan) (line : ResponseSpans) (h : ResponseHead) → IsResponseAt buf spans line h
    → received_by line.code line.version (map (header_bytes buf) (take line.headers spans)) ≡ received h
received_at buf spans line h is = rw (is.code, is.version, is.fields) refl

pub made : (head : Received) (status minor : ℕ) (fields : List (List ℕ × List ℕ)) (e : Option Extent) (extent : Extent)
    → e ≡ Some extent → head.status ≡ status → head.fields ≡ fields → head.extent ≡ extent → head.closes ≡ closes minor fields → Ok head ≡ received_with status minor fields e
made head status minor fields e extent ee s fs ex cl = rw ee (λ i. Ok (record { status = s i; fields = fs i; extent = ex i; closes = cl i }))

-- where its body's end is known the head may be read on
pub may_be_read : (status minor : ℕ) (fields : List (List ℕ × List ℕ)) (e : Option Extent) (extent : Extent) (result : Result Received Fault) → e ≡ Some extent → received_with status minor fields e ≡ result → IsOk result
may_be_read status minor fields e extent result ee is =
    subst (λ (r : Result Received Fault). IsOk r) is (subst (λ (x : Option Extent). IsOk (received_with status minor fields x)) (sym ee) refl)
