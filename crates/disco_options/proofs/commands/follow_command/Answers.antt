use Rattle.std.proofs.Common.{rules, ap, ap₂, codes, ◌≡◌, ◌∙◌}
use Rattle.std.proofs.lemmas.Result.{IfOk-weaker}
use Rattle.clap.specs.Words.{app_of, new_app, rule_of, with_rule}
use Rattle.clap.specs.Simple.{app_of_fields}
use Rattle.disco_options.specs.Options.{flag_rule, number_rule, text_rule}
use Rattle.disco_options.proofs.commands.follow_command.Goals as goal

pub returns : goal.returns
returns c =
    let app0 : app_of c.about.result ≡ new_app (codes "follow") = ap app_of_fields c.about.ensures ∙ c.new.ensures.app in
    let rule1 : rule_of c.number.result ≡ number_rule (codes "port") 1 65535 = search rules in
    let app1 = c.in_ok-arg.ensures.shape c.number.ensures.local ∙ ap₂ with_rule app0 rule1 in
    let rule2 : rule_of c.text.result ≡ text_rule (codes "server") = search rules in
    let app2 = c.in_ok-arg-2.ensures.shape c.text.ensures.local ∙ ap₂ with_rule app1 rule2 in
    let rule3 : rule_of c.text-2.result ≡ text_rule (codes "vip") = search rules in
    let app3 = c.in_ok-arg-3.ensures.shape c.text-2.ensures.local ∙ ap₂ with_rule app2 rule3 in
    let rule4 : rule_of c.flag.result ≡ flag_rule (codes "compact") = search rules in
    let app4 = c.in_ok-arg-4.ensures.shape c.flag.ensures.local ∙ ap₂ with_rule app3 rule4 in
    let rule5 : rule_of c.flag-2.result ≡ flag_rule (codes "json") = search rules in
    let app5 = c.in_ok-arg-5.ensures.shape c.flag-2.ensures.local ∙ ap₂ with_rule app4 rule5 in
    let rule6 : rule_of c.number-2.result ≡ number_rule (codes "every") 1 18446744073709551615 = search rules in
    let app6 = c.in_ok-arg-6.ensures.shape c.number-2.ensures.local ∙ ap₂ with_rule app5 rule6 in
    let rule7 : rule_of c.number-3.result ≡ number_rule (codes "times") 0 18446744073709551615 = search rules in
    IfOk-weaker c.arg-7.result _ _ (λ r added. added.shape c.number-3.ensures.local ∙ ap₂ with_rule app6 rule7) c.arg-7.ensures
