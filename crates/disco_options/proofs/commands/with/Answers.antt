use Rattle.std.proofs.Common.{Bool, true, false, ◌&&◌, not, refl, ap, ◌≡◌, ◌∙◌}
use Rattle.std.proofs.lemmas.Result.{IfOk-weaker}
use Rattle.clap.specs.Words.{App, app_of, with_subcommand}
use Rattle.clap.proofs.OnLiterals.{clap_on_literals}
use Rattle.disco_options.specs.Options.{app_for}
use Rattle.disco_options.specs.declared.subcommand.Subcommand.{Subcommand}
use Rattle.disco_options.specs.declared.subcommand.Subcommand.TheVariants.{Replay, Serve, Fleet, Follow}
use Rattle.disco_options.proofs.commands.with.Goals as goal

third : (a b x d : Bool) → (a && (b && (not x && d))) ≡ true → x ≡ false
third a b false d e = refl
third true true true d e = absurd (let bad : false ≡ true = e in cc)
third true false true d e = absurd (let bad : false ≡ true = e in cc)
third false b true d e = absurd (let bad : false ≡ true = e in cc)

is_plain : (subcommand : Subcommand) → (app_for subcommand).top.is_plain ≡ true
unfolding clap_on_literals
is_plain Replay = refl
is_plain Serve = refl
is_plain Fleet = refl
is_plain Follow = refl

pub returns : goal.returns
returns c =
    let top = ap (λ (a : App). a.top) c.in_ok-command.ensures in
    let plain = ap (λ (a : App). a.top.is_plain) c.in_ok-command.ensures ∙ is_plain c.args.subcommand in
    IfOk-weaker c.subcommand.result _ _ (λ r added. added.shape (third _ _ _ _ plain) ∙ ap (with_subcommand (app_of c.args.program)) top) c.subcommand.ensures
