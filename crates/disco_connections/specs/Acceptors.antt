-- Whether workers may take connections.
use Rattle.std.specs.Prelude.{◌≡◌, ◌<◌, ◌⊎◌, None}
use Rattle.disco_values.specs.declared.fault.Fault.{Fault}
use Rattle.disco_values.specs.declared.fault.Fault.TheVariants.{OutOfMemory, ReadFailed}
use Rattle.disco_connections.specs.declared.acceptor.Acceptor.{Acceptor}
use Rattle.disco_connections.specs.declared.acceptor.Refusal.{Refusal}
use Rattle.disco_connections.specs.declared.acceptor.Refusal.TheVariants.{NoMemory, ByHost}

-- as what a refusal is told
abbrev pub fault_of : Refusal → Fault
fault_of NoMemory = OutOfMemory
fault_of ByHost = ReadFailed

-- none was refused, and as many as may be taken were not taken yet; where that number is 0 there is no end
abbrev pub IsOpen : Acceptor → Type 0
IsOpen acceptor = (acceptor.refused ≡ None) × (acceptor.most ≡ 0 ⊎ acceptor.taken < acceptor.most)
