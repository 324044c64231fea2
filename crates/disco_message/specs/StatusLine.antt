-- Status lines, and what `Allow` lists.
use Rattle.std.specs.Prelude.{ℕ, List, [], ◌++◌, unwrap_or, codes}
use Rattle.http.specs.StatusCode.{code_digits, reason_phrase}
use Rattle.disco_values.specs.declared.fault.Fault.{Fault}
use Rattle.disco_values.specs.declared.fault.Fault.TheVariants as fault
use Rattle.disco_message.specs.declared.status_line.Allow.{Allow}
use Rattle.disco_message.specs.declared.status_line.Allow.TheVariants.{Get, GetPost, GetPutDelete, PutDelete, Put}

-- the reason phrase of a status, which is empty where RFC 9110, section 15, and the registry behind it have none
abbrev pub phrase : ℕ → List ℕ
phrase status = unwrap_or (reason_phrase status) []

-- the status line with its end (RFC 9112, section 4)
unfoldable pub status_line : ℕ → List ℕ
status_line status = codes "HTTP/1.1 " ++ code_digits status ++ codes " " ++ phrase status ++ codes "\r\n"

-- the methods of a path (RFC 9110, section 10.2.1)
unfoldable pub allowed : Allow → List ℕ
allowed Get = codes "GET"
allowed GetPost = codes "GET, POST"
allowed GetPutDelete = codes "GET, PUT, DELETE"
allowed PutDelete = codes "PUT, DELETE"
allowed Put = codes "PUT"

-- the status of the reply to a request that was refused (this project's own rule)
abbrev pub refusal : Fault → ℕ
refusal fault.OutOfMemory = 503
refusal fault.VersionsSpent = 503
refusal fault.TooManyInstances = 503
refusal fault.BadJson = 400
refusal (fault.MissingField field) = 400
refusal fault.MismatchedApp = 400
refusal fault.BadRequest = 400
refusal fault.DeltaDisabled = 403
refusal fault.NotFound = 404
refusal fault.BadMethod = 405
refusal fault.NotAcceptable = 406
refusal fault.BodyTooLarge = 413
refusal fault.UnsupportedCoding = 415
refusal fault.HeadTooLarge = 431
refusal _ = 500
