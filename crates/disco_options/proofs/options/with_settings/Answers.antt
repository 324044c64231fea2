use Rattle.std.proofs.Common.{rules, ap₂, codes, refl, ◌≡◌, ◌∙◌}
use Rattle.std.proofs.lemmas.Result.{IfOk-weaker}
use Rattle.clap.specs.Words.{rule_of, with_rule}
use Rattle.disco_options.specs.Options.{flag_rule, number_rule}
use Rattle.disco_options.proofs.options.with_settings.Goals as goal

pub returns : goal.returns
returns c =
    let rule1 : rule_of c.number.result ≡ number_rule (codes "versions") 1 18446744073709551615 = search rules in
    let app1 = c.in_ok-arg.ensures.shape c.number.ensures.local ∙ ap₂ with_rule refl rule1 in
    let rule2 : rule_of c.number-2.result ≡ number_rule (codes "instances") 1 65536 = search rules in
    let app2 = c.in_ok-arg-2.ensures.shape c.number-2.ensures.local ∙ ap₂ with_rule app1 rule2 in
    let rule3 : rule_of c.number-3.result ≡ number_rule (codes "queue") 1 65536 = search rules in
    let app3 = c.in_ok-arg-3.ensures.shape c.number-3.ensures.local ∙ ap₂ with_rule app2 rule3 in
    let rule4 : rule_of c.number-4.result ≡ number_rule (codes "entries") 1 4096 = search rules in
    let app4 = c.in_ok-arg-4.ensures.shape c.number-4.ensures.local ∙ ap₂ with_rule app3 rule4 in
    let rule5 : rule_of c.number-5.result ≡ number_rule (codes "retention") 0 18446744073709551615 = search rules in
    let app5 = c.in_ok-arg-5.ensures.shape c.number-5.ensures.local ∙ ap₂ with_rule app4 rule5 in
    let rule6 : rule_of c.flag.result ≡ flag_rule (codes "no-delta") = search rules in
    let app6 = c.in_ok-arg-6.ensures.shape c.flag.ensures.local ∙ ap₂ with_rule app5 rule6 in
    let rule7 : rule_of c.number-6.result ≡ number_rule (codes "run") 0 18446744073709551615 = search rules in
    IfOk-weaker c.arg-7.result _ _ (λ r added. added.shape c.number-6.ensures.local ∙ ap₂ with_rule app6 rule7) c.arg-7.ensures
