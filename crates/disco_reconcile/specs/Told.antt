-- What a client reads in the answer to a fetch.
use Rattle.std.specs.Prelude.{◌==◌, ◌&&◌, ◌||◌, ℕ, Bool, if◌then◌else◌, Option, Some, None, Result, Ok, Err}
use Rattle.disco_values.specs.declared.cert.Cert.{Cert}
use Rattle.disco_values.specs.declared.fault.Fault.{Fault}
use Rattle.disco_values.specs.declared.fault.Fault.TheVariants.{OutOfMemory, BadDocument, NotFetched}
use Rattle.disco_wire.specs.Documents.{document_of}
use Rattle.disco_wire.specs.Meaning.{Meaning}
use Rattle.disco_wire.specs.declared.wire.Shape.{Shape}
use Rattle.disco_wire.specs.declared.wire.Shape.TheVariants as shapes
use Rattle.disco_reconcile.specs.declared.fetch.Fetched.{Fetched}

-- a document of many apps, and its certificate, if it has one
pub record ToldDocument : Type 0 where
  pub meaning : Meaning
  pub cert : Option Cert

-- a document, that there is none, or why neither is known
abbrev pub FetchAnswer : Type 0
FetchAnswer = Result (Option ToldDocument) Fault

-- a certificate of another version than the document's own is none (this project's own rule)
abbrev pub agreed : Option ℕ → Option Cert → Option Cert
agreed version None = None
agreed None (Some c) = Some c
agreed (Some v) (Some c) = if c.version == v then Some c else None

abbrev pub of_shape : Shape → Meaning → Option Cert → FetchAnswer
of_shape shapes.Many m cert = Ok (Some (record { meaning = m; cert = agreed m.version cert }))
of_shape shapes.App m cert = Err BadDocument
of_shape shapes.One m cert = Err BadDocument

-- a document of many apps with its certificate, or that the bytes are none
abbrev pub told_of : Option Cert → Result Meaning Fault → FetchAnswer
told_of cert (Err e) = Err BadDocument
told_of cert (Ok m) = of_shape m.shape m cert

-- the statuses that say that there is no delta
abbrev pub is_none : Bool → ℕ → Bool
is_none delta status = delta && (status == 403 || status == 404)

-- why nothing was fetched
abbrev pub failed_as : Fault → Fault
failed_as OutOfMemory = OutOfMemory
failed_as _ = NotFetched

-- what a client reads in an answer to a fetch of the delta, or of all apps
abbrev pub told_in_answer : Bool → Result Fetched Fault → FetchAnswer
told_in_answer delta (Err e) = Err (failed_as e)
told_in_answer delta (Ok x) = if x.status == 200 then told_of x.cert (document_of x.body) else if is_none delta x.status then Ok None else Err NotFetched
