-- What the words of `serve` name, and what it writes.
use Rattle.std.specs.Prelude.{◌≡◌, ◌⊎◌, ℕ, List, Option, ◌++◌, codes, decimal, unwrap_or}
use Rattle.std.specs.Io.KnownBytes.{Appends}
use Rattle.std.specs.Borrow.{MutBor}
use Rattle.clap.specs.Words.{Row as Given, Text}
use Rattle.disco_options.specs.Faults.{SaysBehind}
use Rattle.disco_options.specs.Options.{AreGiven, AreMatches, number_given, port_in, within}
use Rattle.disco_options.specs.declared.subcommand.Subcommand.TheVariants.{Serve}
use Rattle.disco_values.specs.declared.fault.Fault.{Fault}
use Rattle.disco_values.specs.declared.fault.Fault.TheVariants.{OutOfMemory, ReadFailed, WriteFailed}
use Rattle.disco_prog.specs.declared.service.Service.{Service}

-- the settings, of which the run is this one where none is given, the port, the workers (4 where none are given), the connections (0, which is no
-- end) and how many of them are open at once (16,384) are those given
pub record IsServicePlan (run : ℕ) (rows : List Given) (s : Service) : Type 0 where
  pub settings : AreGiven run rows s.settings
  pub port : s.port ≡ port_in rows
  pub workers : s.workers ≡ within 64 4 (number_given (codes "workers") rows)
  pub connections : s.connections ≡ unwrap_or (number_given (codes "connections") rows) 0
  pub slots : s.slots ≡ within 65536 16384 (number_given (codes "open") rows)

-- `listening 127.0.0.1:PORT`
abbrev pub listening_line : ℕ → List ℕ
listening_line port = codes "listening 127.0.0.1:" ++ decimal port ++ codes "\n"

-- an output that is given back is the one that was lent, with this text behind what it held
abbrev pub Tells : {W : Type 0} → (W → Option (List ℕ)) → MutBor W → MutBor W → List ℕ → Type 0
Tells contents lent back text = (back.ghost_name ≡ lent.ghost_name) × Appends (contents lent.now) (contents back.now) text

-- the words are `serve` and options, and it is said that connections are taken on the port that these give
unfoldable pub SaysListening : List Text → Option (List ℕ) → Option (List ℕ) → Type 0
SaysListening words old new = (rows : List Given) × AreMatches Serve words rows × Appends old new (listening_line (port_in rows))

-- why it can't serve, or no longer: memory, what the host refuses, and an output that can't be written
abbrev pub IsServingFault : Fault → Type 0
IsServingFault fault = (fault ≡ OutOfMemory) ⊎ ((fault ≡ ReadFailed) ⊎ (fault ≡ WriteFailed))

-- the errors end with the line of such a fault
abbrev pub SaysWhy : Option (List ℕ) → Option (List ℕ) → ℕ → ℕ → Type 0
SaysWhy old new before now = (fault : Fault) × IsServingFault fault × SaysBehind fault old new before now
