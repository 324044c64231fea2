-- The command line, as commands of clap, and what it says.
use Rattle.std.specs.Prelude.{◌≡◌, ◌&&◌, ℕ, Bool, List, [], ◌∷◌, Option, Some, None, true, false, not, codes, if◌then◌else◌, nat_le, nat_lt}
use Rattle.std.specs.Prelude.{is_some, option_and_then, unwrap_or}
use Rattle.std.specs.Option.{option_map_or}
use Rattle.std.specs.Str.{bytes_eq}
use Rattle.std.specs.Str.Parse.{without_leading_plus}
use Rattle.clap.specs.Words.{App as Command, Kinds, Row as Given, Rule, Text, fault_of, first_of, matches_of, new_app, new_rule, one_of, with_rule, with_subcommand}
use Rattle.clap.specs.Kinds.{or_else}
use Rattle.clap.specs.Simple.{on_top}
use Rattle.clap.specs.declared.builder.ArgAction.TheVariants.{Set, SetTrue}
use Rattle.clap.specs.declared.builder.value_parser.ValueParser.TheVariants.{Unsigned}
use Rattle.clap.specs.declared.error.kind.ErrorKind.TheVariants.{ArgumentConflict, MissingRequiredArgument, MissingSubcommand}
use Rattle.disco_values.specs.Digits.{digits_number}
use Rattle.disco_values.specs.Limits.{most_versions, most_instances, most_queue, most_entries, retention}
use Rattle.disco_values.specs.declared.settings.Settings.{Settings}
use Rattle.disco_options.specs.declared.subcommand.Subcommand.{Subcommand}
use Rattle.disco_options.specs.declared.subcommand.Subcommand.TheVariants.{Replay, Serve, Fleet, Follow}

-- `--NAME N`, of a whole number in these bounds
abbrev pub number_rule : Text → ℕ → ℕ → Rule
number_rule name least most = record (new_rule name) {
  long = Some name;
  action = Some Set;
  value_names = 1;
  parser = Some (Unsigned least most);
}

-- `--NAME TEXT`
abbrev pub text_rule : Text → Rule
text_rule name = record (new_rule name) { long = Some name; action = Some Set; value_names = 1 }

-- `--NAME`
abbrev pub flag_rule : Text → Rule
flag_rule name = record (new_rule name) { long = Some name; action = Some SetTrue }

-- an option that has to be given
abbrev pub needed : Rule → Rule
needed rule = record rule { required = true }

-- any number, as that of a run
abbrev pub any_number : Text → Rule
any_number name = number_rule name 0 18446744073709551615

-- the options that settings have
abbrev pub with_settings : Command → Command
with_settings app =
    with_rule (with_rule (with_rule (with_rule (with_rule (with_rule (with_rule app
    (number_rule (codes "versions") 1 most_versions))
    (number_rule (codes "instances") 1 most_instances))
    (number_rule (codes "queue") 1 most_queue))
    (number_rule (codes "entries") 1 most_entries))
    (any_number (codes "retention")))
    (flag_rule (codes "no-delta")))
    (any_number (codes "run"))

abbrev pub replay_app : Command
replay_app = with_settings (new_app (codes "replay"))

abbrev pub serve_app : Command
serve_app =
    with_settings (with_rule (with_rule (with_rule (with_rule (new_app (codes "serve"))
    (needed (number_rule (codes "port") 1 65535)))
    (number_rule (codes "workers") 1 64))
    (any_number (codes "connections")))
    (number_rule (codes "open") 1 65536))

abbrev pub follow_app : Command
follow_app =
    with_rule (with_rule (with_rule (with_rule (with_rule (with_rule (with_rule (new_app (codes "follow"))
    (number_rule (codes "port") 1 65535))
    (text_rule (codes "server")))
    (text_rule (codes "vip")))
    (flag_rule (codes "compact")))
    (flag_rule (codes "json")))
    (number_rule (codes "every") 1 18446744073709551615))
    (any_number (codes "times"))

abbrev pub fleet_app : Command
fleet_app =
    with_rule (with_rule (with_rule (with_rule (with_rule (with_rule (new_app (codes "fleet"))
    (needed (number_rule (codes "writers") 1 64)))
    (needed (number_rule (codes "clients") 1 64)))
    (needed (number_rule (codes "instances") 1 most_instances)))
    (any_number (codes "run")))
    (flag_rule (codes "certified")))
    (flag_rule (codes "restart"))

abbrev pub app_for : Subcommand → Command
app_for Replay = replay_app
app_for Serve = serve_app
app_for Fleet = fleet_app
app_for Follow = follow_app

abbrev pub name_of : Subcommand → Text
name_of Replay = codes "replay"
name_of Serve = codes "serve"
name_of Fleet = codes "fleet"
name_of Follow = codes "follow"

-- the same, where no word stands for the program
abbrev pub options_app : Subcommand → Command
options_app subcommand = on_top (λ s. record s { no_binary_name = true }) (app_for subcommand)

-- what the words behind a command's word give
abbrev pub matches_for : Subcommand → List Text → List Given
matches_for subcommand words = matches_of (options_app subcommand) words

-- the text that is given for a name
abbrev pub text_given : Text → List Given → Option Text
text_given name rows = first_of name rows

-- a server is named by `--port` or by `--server`, and by one of them alone
abbrev pub server_faults : List Given → Kinds
server_faults rows =
    if is_some (text_given (codes "port") rows)
    then (if is_some (text_given (codes "server") rows) then ArgumentConflict ∷ [] else [])
    else (if is_some (text_given (codes "server") rows) then [] else MissingRequiredArgument ∷ [])

-- what is wrong with a command's options though each of them is right
abbrev pub faults_between : Subcommand → List Given → Kinds
faults_between Follow rows = server_faults rows
faults_between _ rows = []

-- what is wrong with the words behind a command's word; a request for help counts too
abbrev pub faults_of_options : Subcommand → List Text → Kinds
faults_of_options subcommand words = or_else (fault_of (options_app subcommand) words) (faults_between subcommand (matches_for subcommand words))

-- the program's own words: a command has to stand among them
abbrev pub program_app : Command
program_app =
    with_subcommand (with_subcommand (with_subcommand (with_subcommand
    (on_top (λ s. record s { no_binary_name = true; subcommand_required = true }) (new_app (codes "discovery")))
    serve_app.top) follow_app.top) replay_app.top) fleet_app.top

-- the words behind a command's word, where that stands first
abbrev pub options_of : Subcommand → List Text → Option (List Text)
options_of subcommand [] = None
options_of subcommand (word ∷ words) = if bytes_eq word (name_of subcommand) then Some words else None

-- the command that the words name first, and `replay` where they name none
abbrev pub verb_of : List Text → Subcommand
verb_of [] = Replay
verb_of (word ∷ words) =
    if bytes_eq word (codes "serve") then Serve
    else (if bytes_eq word (codes "fleet") then Fleet else (if bytes_eq word (codes "follow") then Follow else Replay))

-- what is wrong with words that do not begin with a command's word: no such command is among them at least
abbrev pub faults_of_others : List Text → Kinds
faults_of_others words = or_else (fault_of program_app words) (MissingSubcommand ∷ [])

-- what is wrong with the words behind the program's name, for a command
abbrev pub faults_of : Subcommand → List Text → Kinds
faults_of subcommand words = option_map_or (faults_of_options subcommand) (options_of subcommand words) (faults_of_others words)

-- the number that is given for a name; a plus may stand first
abbrev pub number_given : Text → List Given → Option ℕ
number_given name rows = option_and_then (λ text. digits_number (without_leading_plus text)) (one_of name rows)

-- the number given from 1 to `most`, and else the other one
abbrev pub within : ℕ → ℕ → Option ℕ → ℕ
within most otherwise None = otherwise
within most otherwise (Some given) = if nat_lt 0 given && nat_le given most then given else otherwise

abbrev pub flag_given : Text → List Given → Bool
flag_given name rows = option_map_or (λ text. bytes_eq text (codes "true")) (one_of name rows) false

-- the port that is given; words of `serve` without one are refused
abbrev pub port_in : List Given → ℕ
port_in rows = within 65535 1 (number_given (codes "port") rows)

-- the settings are those given, with defaults for the others, of which that of the run is an argument
pub record AreGiven (otherwise : ℕ) (rows : List Given) (s : Settings) : Type 0 where
  pub run : s.run ≡ unwrap_or (number_given (codes "run") rows) otherwise
  pub versions : s.versions ≡ within most_versions most_versions (number_given (codes "versions") rows)
  pub instances : s.instances ≡ within most_instances most_instances (number_given (codes "instances") rows)
  pub queue : s.queue ≡ within most_queue most_queue (number_given (codes "queue") rows)
  pub entries : s.entries ≡ within most_entries most_entries (number_given (codes "entries") rows)
  pub retention : s.retention ≡ unwrap_or (number_given (codes "retention") rows) retention
  pub delta : s.delta ≡ not (flag_given (codes "no-delta") rows)

-- the words are a command's word and options, which give these rows
abbrev pub AreMatches : Subcommand → List Text → List Given → Type 0
AreMatches subcommand words rows = (options : List Text) × (options_of subcommand words ≡ Some options) × (rows ≡ matches_for subcommand options)

-- the words are a command's word and options that name the settings, with this run where they name none
abbrev pub NamedBy : Subcommand → List Text → ℕ → Settings → Type 0
NamedBy subcommand words run s = (rows : List Given) × AreMatches subcommand words rows × AreGiven run rows s
