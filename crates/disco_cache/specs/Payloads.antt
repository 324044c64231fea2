-- True documents, and their certificates (this project's own rule).
use Rattle.std.specs.Prelude.{◌≡◌, ℕ, List}
use Rattle.disco_values.specs.declared.cert.Cert.{Cert}
use Rattle.disco_history.specs.Change.{Entry}
use Rattle.disco_wire.specs.Documents.{IsTrueFor}
use Rattle.disco_cache.specs.declared.payload.Payload.{Payload}

-- the document is true after a history of a run: it is of that run, and true of what it was asked for, in its form
abbrev pub IsTruePayload : ℕ → Payload → List Entry → Type 0
IsTruePayload run p h = (p.run ≡ run) × IsTrueFor p.key.query p.text p.base p.version p.key.form h

-- the certificate of a document
abbrev pub cert_of : Payload → Cert
cert_of p = record { run = p.run; base = p.base; version = p.version }
