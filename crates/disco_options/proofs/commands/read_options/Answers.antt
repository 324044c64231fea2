use Rattle.std.proofs.Common.{Global, map, string_bytes, ap, refl, subst, sym, true, ◌≡◌, ◌∙◌}
use Rattle.std.proofs.lemmas.Result.{IfOk-weaker}
use Rattle.clap.specs.Kinds.{or_else}
use Rattle.clap.specs.Words.{App, FailsBy, HasKind, Kinds, app_of, fault_of, found_of, is_simple, is_simple_and_free, matches_of, rows_of}
use Rattle.clap.specs.declared.parser.matches.ArgMatches.{ArgMatches}
use Rattle.clap.specs.Simple.{app_of_fields, on_top}
use Rattle.clap.proofs.OnLiterals.{clap_on_literals}
use Rattle.disco_options.specs.Options.{faults_between, matches_for, options_app}
use Rattle.disco_options.proofs.FirstKinds.{none_of, widened}
use Rattle.disco_options.specs.declared.subcommand.Subcommand.{Subcommand}
use Rattle.disco_options.specs.declared.subcommand.Subcommand.TheVariants.{Replay, Serve, Fleet, Follow}
use Rattle.disco_options.proofs.commands.read_options.Goals as goal

is_plain : (subcommand : Subcommand) → is_simple_and_free (options_app subcommand) ≡ true
unfolding clap_on_literals
is_plain Replay = refl
is_plain Serve = refl
is_plain Fleet = refl
is_plain Follow = refl

has_matches : (subcommand : Subcommand) → is_simple (options_app subcommand) ≡ true
unfolding clap_on_literals
has_matches Replay = refl
has_matches Serve = refl
has_matches Fleet = refl
has_matches Follow = refl

pub returns-in-Ok : goal.returns-in-Ok
returns-in-Ok c =
    let named = ap app_of_fields c.in_ok-bin_name.ensures.0 ∙ c.in_ok-command_of.ensures in
    let app : app_of c.no_binary_name-command.result ≡ options_app c.args.subcommand = ap app_of_fields c.no_binary_name-command.ensures ∙ ap (on_top (λ s. record s { no_binary_name = true })) named in
    let words = map (string_bytes {Z = Global}) c.args.words.now in
    let none = none_of _ _ words app (c.in-Ok.ensures.kinds (ap is_simple_and_free app ∙ is_plain c.args.subcommand)) in
    let has = c.in-Ok.ensures.ok.2 (ap is_simple app ∙ has_matches c.args.subcommand) in
    let rows : rows_of (found_of c.in-Ok.matches) ≡ matches_for c.args.subcommand words = has.0 ∙ ap (λ (a : App). matches_of a words) app in
    let between = subst (λ rows. FailsBy (faults_between c.args.subcommand rows) c.checked.result) rows c.checked.ensures.faults in
    record {
      matches = IfOk-weaker c.checked.result _ _ (λ m same. ap (λ (m : ArgMatches). rows_of (found_of m)) same ∙ rows) c.checked.ensures.matches;
      faults = subst (λ (k : Kinds). FailsBy (or_else k (faults_between c.args.subcommand (matches_for c.args.subcommand words))) c.checked.result) (sym none) between;
    }

pub returns-clause-faults : goal.returns-clause-faults
returns-clause-faults c =
    let named = ap app_of_fields c.in_ok-bin_name.ensures.0 ∙ c.in_ok-command_of.ensures in
    let app : app_of c.no_binary_name-command.result ≡ options_app c.args.subcommand = ap app_of_fields c.no_binary_name-command.ensures ∙ ap (on_top (λ s. record s { no_binary_name = true })) named in
    let words = map (string_bytes {Z = Global}) c.args.words.now in
    let given = c.in-Err.ensures.kinds (ap is_simple_and_free app ∙ is_plain c.args.subcommand) in
    widened _ (fault_of (options_app c.args.subcommand) words) _ (subst (λ (a : App). HasKind (fault_of a words) c.in-Err.error) app given)
