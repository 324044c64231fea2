use Rattle.std.proofs.Common.{rules, tests, codes}
use Rattle.std.proofs.lemmas.Iterator.Consumers.{YieldsList-from_first}
use Rattle.std.proofs.lemmas.Iterator.Search.{any_from_yields_List}
use Rattle.disco_message.specs.Fields.{field_values}
use Rattle.disco_message.specs.ValuesLeft.{values_left}
use Rattle.disco_calls.specs.Accept.{has_word}
use Rattle.disco_calls.proofs.accept.accepts.Goals as goal

pub returns : goal.returns
returns c =
    any_from_yields_List (λ v. has_word c.args.word.now v) c.any.new.self _ _ c.any.ensures.ran
    (YieldsList-from_first (λ x. x.now) values_left {s = c.values.result} (field_values (codes "accept") c.args.request.now.fields) c.values.ensures) (λ x b q k. search (rules, tests))
