use Rattle.std.proofs.Common.{rules, tests, ◌==◌}
use Rattle.std.proofs.lemmas.Iterator.Search.{any_from_yields_List}
use Rattle.std.proofs.lemmas.Iterator.Splits.{YieldsList-from_slice_split}
use Rattle.httparse.specs.Grammar.{trim_ows}
use Rattle.disco_message.specs.Fields.{eq_ignore_case}
use Rattle.disco_message.proofs.lists.lists.Goals as goal

pub returns : goal.returns
returns c =
    any_from_yields_List (λ element. eq_ignore_case (trim_ows element) c.args.word.now) c.any.new.self _ _ c.any.ensures.ran
    (YieldsList-from_slice_split _ (λ b. b == 44) c.args.list.now c.split.ensures.rest c.split.ensures.done c.split.ensures.closure (λ x r q k. search (rules, tests))) (λ x b q k. search (rules, tests))
