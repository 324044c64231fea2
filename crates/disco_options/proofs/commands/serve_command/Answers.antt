use Rattle.std.proofs.Common.{rules, ap, ap₂, codes, ◌≡◌, ◌∙◌}
use Rattle.std.proofs.lemmas.Result.{IfOk-weaker}
use Rattle.clap.specs.Words.{app_of, new_app, rule_of, with_rule}
use Rattle.clap.specs.Simple.{app_of_fields}
use Rattle.disco_options.specs.Options.{any_number, needed, number_rule, with_settings}
use Rattle.disco_options.proofs.commands.serve_command.Goals as goal

pub returns : goal.returns
returns c =
    let app0 : app_of c.about.result ≡ new_app (codes "serve") = ap app_of_fields c.about.ensures ∙ c.new.ensures.app in
    let rule1 : rule_of c.number.result ≡ number_rule (codes "port") 1 65535 = search rules in
    let app1 = c.in_ok-arg.ensures.shape (c.needed.ensures.local ∙ c.number.ensures.local) ∙ ap₂ with_rule app0 (c.needed.ensures.rule ∙ ap needed rule1) in
    let rule2 : rule_of c.number-2.result ≡ number_rule (codes "workers") 1 64 = search rules in
    let app2 = c.in_ok-arg-2.ensures.shape c.number-2.ensures.local ∙ ap₂ with_rule app1 rule2 in
    let rule3 : rule_of c.number-3.result ≡ any_number (codes "connections") = search rules in
    let app3 = c.in_ok-arg-3.ensures.shape c.number-3.ensures.local ∙ ap₂ with_rule app2 rule3 in
    let rule4 : rule_of c.number-4.result ≡ number_rule (codes "open") 1 65536 = search rules in
    let app4 = c.in_ok-command.ensures.shape c.number-4.ensures.local ∙ ap₂ with_rule app3 rule4 in
    IfOk-weaker c.with_settings.result _ _ (λ r is. is ∙ ap with_settings app4) c.with_settings.ensures
