-- What `replay` reads and writes.
use Rattle.std.specs.Prelude.{◌≡◌, ◌⊎◌, ℕ, List, Option}
use Rattle.clap.specs.Words.{Text}
use Rattle.disco_values.specs.declared.fault.Fault.{Fault}
use Rattle.disco_values.specs.declared.fault.Fault.TheVariants.{OutOfMemory}
use Rattle.disco_values.specs.declared.settings.Settings.{Settings}
use Rattle.disco_lines.specs.Answered.{IsInputAnswered, IsLeft, IsRunFault}
use Rattle.disco_options.specs.Options.{NamedBy}
use Rattle.disco_options.specs.declared.subcommand.Subcommand.TheVariants.{Replay}

-- the words are `replay` and options, and the input is answered with the settings that these name
abbrev pub IsReplayed : List Text → Option (List ℕ) → Option (List ℕ) → Option (List ℕ) → Type 0
IsReplayed words known old new = (settings : Settings) × NamedBy Replay words 0 settings × IsInputAnswered settings known old new

-- it failed for a fault that was written: memory was refused before anything was read, or the run with the settings
-- that the words name was refused; nothing was written then, but for a front of the answer lines where a write failed
-- or found no memory
abbrev pub IsFailed : {W : Type 0} → List Text → Option (List ℕ) → Type 0 → Type 0 → (Fault → Type 0) → (W → Option (List ℕ)) → W → W → Type 0
IsFailed words given reads writes told contents old new = (fault : Fault) × told fault × (((fault ≡ OutOfMemory) × (new ≡ old))
    ⊎ ((settings : Settings) × NamedBy Replay words 0 settings × IsRunFault settings given reads writes fault × IsLeft contents settings given fault old new))
