use Rattle.std.proofs.Common.{◌∙◌, rules, tests, lit<}
use Rattle.std.proofs.lemmas.Iterator.Search.{any_from_yields_List}
use Rattle.std.proofs.lemmas.Iterator.Splits.{YieldsList-from_str_split}
use Rattle.disco_client.proofs.Letters.{any_vip, is_vip}
use Rattle.disco_client.proofs.vip.has_vip.Goals as goal

pub returns : goal.returns
returns c =
    any_from_yields_List (is_vip c.args.vip.now) _ _ c.any.result c.any.ensures.ran
    (YieldsList-from_str_split 44 c.args.address.now (lit< tt) c.split.ensures.text c.split.ensures.has_more c.split.ensures.pattern) (λ x b q k. search (rules, tests))
    ∙ any_vip c.args.vip.now c.args.address.now
