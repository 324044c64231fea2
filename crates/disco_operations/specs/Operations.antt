-- What an app and an id name, and what a registration asks (Eureka's REST operations).
use Rattle.std.specs.Prelude.{ℕ, List, Result, Ok, Err, if◌then◌else◌}
use Rattle.std.specs.Str.{bytes_eq}
use Rattle.disco_instance.specs.Row.{Row}
use Rattle.disco_values.specs.Text.{in_upper_case}
use Rattle.disco_values.specs.declared.fault.Fault.{Fault}
use Rattle.disco_values.specs.declared.fault.Fault.TheVariants.{MismatchedApp}
use Rattle.disco_values.specs.declared.key.Key.{Key}
use Rattle.disco_registry.specs.Op.{OpView, register}

-- the key of an app and an id: the app's name counts in upper case
abbrev pub key_named : List ℕ → List ℕ → Key
key_named app id = record { app = in_upper_case app; id = id }

-- what a registration under an app's name asks: a record of another app is refused
abbrev pub registers : List ℕ → Result Row Fault → Result OpView Fault
registers app (Err e) = Err e
registers app (Ok r) = if bytes_eq (in_upper_case app) r.key.app then Ok (register r) else Err MismatchedApp
