-- The bytes of a reply (RFC 9112, sections 2 to 6).
use Rattle.std.specs.Prelude.{ℕ, Bool, true, false, List, [], ◌++◌, Option, Some, None, option_map, unwrap_or, if◌then◌else◌, ◌==◌, length, codes, decimal}
use Rattle.std.specs.Option.{option_map_or}
use Rattle.disco_values.specs.declared.cert.Cert.{Cert}
use Rattle.disco_message.specs.declared.reply.Reply.{Reply}
use Rattle.disco_message.specs.declared.status_line.Allow.{Allow}
use Rattle.disco_message.specs.StatusLine.{status_line, allowed}

-- a reply as plain data: its status, what `Allow` lists, the bytes of its document, and the certificate of that
pub record ReplyView : Type 0 where
  pub status : ℕ
  pub allow : Option Allow
  pub document : Option (List ℕ)
  pub cert : Option Cert

-- the same of a reply whose document has these bytes
abbrev pub reply_view : {D : Type 0} → (D → List ℕ) → Reply D → ReplyView
reply_view bytes r = record { status = r.status; allow = r.allow; document = option_map bytes r.document; cert = r.cert }

-- the field Content-Type: a document is JSON
unfoldable pub type_line : List ℕ
type_line = codes "Content-Type: application/json\r\n"

-- the field Content-Length
unfoldable pub length_line : ℕ → List ℕ
length_line n = codes "Content-Length: " ++ decimal n ++ codes "\r\n"

-- the field X-Discovery-Certificate: run, base and version of the document, with a space between them (this project's
-- own rule)
unfoldable pub certificate_line : Option Cert → List ℕ
certificate_line None = []
certificate_line (Some c) = codes "X-Discovery-Certificate: " ++ decimal c.run ++ codes " " ++ decimal c.base
    ++ codes " " ++ decimal c.version ++ codes "\r\n"

-- the field Allow: the methods of the path
unfoldable pub allow_line : Option Allow → List ℕ
allow_line allow = option_map_or (λ methods. codes "Allow: " ++ allowed methods ++ codes "\r\n") allow []

-- the field Connection, where the connection ends behind the reply (RFC 9112, section 9.6)
unfoldable pub close_line : Bool → List ℕ
close_line true = codes "Connection: close\r\n"
close_line false = []

-- the lines on a body, which is that of a document of so many bytes, or empty
abbrev pub content_lines : Option ℕ → List ℕ
content_lines None = length_line 0
content_lines (Some n) = type_line ++ length_line n

-- those of a reply: a 204 has no body
abbrev pub body_lines : ℕ → Option ℕ → List ℕ
body_lines status size = if status == 204 then [] else content_lines size

-- the head of a reply with a document of so many bytes and this certificate, or with none; `last` says that the connection ends behind it
abbrev pub reply_head : ℕ → Option Allow → Option ℕ → Option Cert → Bool → List ℕ
reply_head status allow size cert last = status_line status ++ body_lines status size ++ certificate_line cert ++ allow_line allow
    ++ close_line last ++ codes "\r\n"

-- the body: the document, but for a 204
abbrev pub reply_body : ℕ → Option (List ℕ) → List ℕ
reply_body status document = if status == 204 then [] else unwrap_or document []

-- all bytes of a reply
abbrev pub reply_text : ReplyView → Bool → List ℕ
reply_text a last = reply_head a.status a.allow (option_map length a.document) a.cert last ++ reply_body a.status a.document
