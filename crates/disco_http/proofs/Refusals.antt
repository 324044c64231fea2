-- From what is unread to the stream.
use Rattle.std.proofs.Common.{ℕ, List, inl}
use Rattle.disco_values.specs.declared.fault.Fault.{Fault}
use Rattle.disco_values.specs.declared.fault.Fault.TheVariants.{BadRequest, ReadFailed}
use Rattle.disco_message.specs.declared.limits.Limits.{Limits}
use Rattle.disco_http.specs.declared.parts.Part.{Part}
use Rattle.disco_http.specs.Parts.{SomeFront, PartRefused}

pub by_front : (limits : Limits) (part : Part) (fault : Fault) (stream : List ℕ) → SomeFront limits part fault stream → PartRefused limits part fault stream
by_front limits part ReadFailed stream h = tt
by_front limits part BadRequest stream h = inl h
by_front limits part fault stream h = h
