-- Laws of replies.
use Rattle.std.specs.Prelude.{◌≡◌, ℕ, Bool, ◌<◌, ◌^◌, ◌++◌, List, map, Option, IfSome}
use Rattle.http.specs.StatusCode.{IsStatusCode}
use Rattle.httparse.specs.Grammar.{ReadsResponse, ResponseHead}
use Rattle.httparse.specs.Spans.{name_and_value}
use Rattle.disco_values.specs.declared.cert.Cert.{Cert}
use Rattle.disco_message.specs.Certificate.{certificate_of}
use Rattle.disco_message.specs.ReplyText.{reply_head}
use Rattle.disco_message.specs.declared.status_line.Allow.{Allow}

-- its numbers are below 2^64
abbrev pub IsInRange : Cert → Type 0
IsInRange c = (c.run < 2 ^ 64) × (c.base < 2 ^ 64) × (c.version < 2 ^ 64)

-- whoever reads the head of a reply, whatever stands behind it, reads the certificate that was written
abbrev pub CertificateLaw : Type 0
CertificateLaw = (status : ℕ) (allow : Option Allow) (size : Option ℕ) (cert : Option Cert) (last : Bool) (behind rest : List ℕ) (h : ResponseHead)
    → IsStatusCode status → IfSome cert IsInRange → ReadsResponse (reply_head status allow size cert last ++ behind) h rest
    → certificate_of (map name_and_value h.fields) ≡ cert
