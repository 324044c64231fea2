use Rattle.std.proofs.Common.{ap, ap₂, refl, true, ◌∙◌}
use Rattle.std.proofs.lemmas.Result.{IfOk-weaker}
use Rattle.clap.specs.Words.{with_subcommand}
use Rattle.clap.specs.Simple.{app_of_fields, on_top}
use Rattle.disco_options.proofs.commands.program_command.Goals as goal

pub returns : goal.returns
returns c =
    let bare = ap app_of_fields c.about.ensures ∙ (ap app_of_fields c.in_ok-bin_name.ensures.0 ∙ c.new.ensures.app) in
    let nameless = ap app_of_fields c.no_binary_name.ensures ∙ ap (on_top (λ s. record s { no_binary_name = true })) bare in
    let whole = ap app_of_fields c.subcommand_required-program.ensures ∙ ap (on_top (λ s. record s { subcommand_required = true })) nameless in
    let first = c.in_ok-program.ensures ∙ ap₂ with_subcommand whole refl in
    let second = c.in_ok-program-2.ensures ∙ ap₂ with_subcommand first refl in
    let more = c.in_ok-program-3.ensures ∙ ap₂ with_subcommand second refl in
    IfOk-weaker c.with-4.result _ _ (λ r last. last ∙ ap₂ with_subcommand more refl) c.with-4.ensures
