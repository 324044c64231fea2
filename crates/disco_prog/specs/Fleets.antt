-- What the words of `fleet` name, and when a copy is the registry.
use Rattle.std.specs.Prelude.{◌≡◌, ◌==◌, ◌&&◌, ℕ, Bool, false, List, [], ◌∷◌, if◌then◌else◌, Option, IfSome, IsSome, codes, unwrap_or}
use Rattle.std.specs.FinMap.{FinMap, values}
use Rattle.std.specs.Option.{option_map_or}
use Rattle.clap.specs.Kinds.{or_else}
use Rattle.clap.specs.Words.{Kinds, Row as Given, Text}
use Rattle.clap.specs.declared.error.kind.ErrorKind.TheVariants.{ArgumentConflict}
use Rattle.disco_values.specs.Key.{key_cmp}
use Rattle.disco_instance.specs.Row.{Row}
use Rattle.disco_values.specs.Limits.{most_instances}
use Rattle.disco_options.specs.Options.{AreGiven, faults_of, flag_given, matches_for, number_given, options_of, within}
use Rattle.disco_options.specs.declared.subcommand.Subcommand.{Subcommand}
use Rattle.disco_options.specs.declared.subcommand.Subcommand.TheVariants.{Replay, Serve, Fleet, Follow}
use Rattle.disco_prog.specs.declared.fleets.plan.Plan.{Plan}

-- the settings, the writers, the clients, the instances and the two flags are those given; words without one of the three numbers are refused
pub record IsFleetPlan (rows : List Given) (p : Plan) : Type 0 where
  pub settings : AreGiven 0 rows p.settings
  pub writers : p.writers ≡ within 64 1 (number_given (codes "writers") rows)
  pub clients : p.clients ≡ within 64 1 (number_given (codes "clients") rows)
  pub instances : p.instances ≡ within most_instances 1 (number_given (codes "instances") rows)
  pub certified : p.certified ≡ flag_given (codes "certified") rows
  pub restart : p.restart ≡ flag_given (codes "restart") rows

-- a restart is asked for in the last run that there is
abbrev pub is_last_run : Bool → ℕ → Bool
is_last_run restart run = restart && run == 18446744073709551615

-- the words of `fleet` ask for a restart in the last run
unfoldable pub ask_for_no_run : List Text → Bool
ask_for_no_run words = option_map_or (λ options. let rows = matches_for Fleet options in
    is_last_run (flag_given (codes "restart") rows) (unwrap_or (number_given (codes "run") rows) 0)) (options_of Fleet words) false

-- the fault of a restart in the last run
abbrev pub faults_of_restart : Bool → Kinds
faults_of_restart b = if b then ArgumentConflict ∷ [] else []

-- what is wrong with the words of `fleet`, and where nothing else is, that `--restart` doesn't go with the last run
abbrev pub faults_of_fleet : List Text → Kinds
faults_of_fleet words = or_else (faults_of Fleet words) (faults_of_restart (ask_for_no_run words))

-- what is wrong with the words behind the program's name, where a command runs on them
abbrev pub faults_of_running : Subcommand → List Text → Kinds
faults_of_running Fleet words = faults_of_fleet words
faults_of_running Replay words = faults_of Replay words
faults_of_running Serve words = faults_of Serve words
faults_of_running Follow words = faults_of Follow words

-- there is a copy, and it has exactly the records of the registry, in the order of their keys
abbrev pub IsRegistryCopy : Option (FinMap key_cmp Row) → FinMap key_cmp Row → Type 0
IsRegistryCopy copy registry = IsSome copy × IfSome copy (λ c. values c ≡ values registry)
