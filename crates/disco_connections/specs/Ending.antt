-- How a connection ends. Nothing here is to be believed: no public contract rests on it.
use Rattle.std.specs.Prelude.{Bool, true, false}
use Rattle.disco_http.specs.declared.session.End.{End}
use Rattle.disco_http.specs.declared.session.End.TheVariants.{Closed}
use Rattle.disco_http.specs.declared.session.End.TheVariants as ends
use Rattle.disco_values.specs.declared.fault.Fault.TheVariants.{ReadFailed, WriteFailed}

-- the server ended it by a reply, and not the client or the host
abbrev pub has_last_reply : End → Bool
has_last_reply Closed = false
has_last_reply (ends.Fault ReadFailed) = false
has_last_reply (ends.Fault WriteFailed) = false
has_last_reply end = true
