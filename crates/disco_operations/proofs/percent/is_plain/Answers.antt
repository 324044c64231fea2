use Rattle.std.proofs.Common.{ℕ, ◌&&◌, nat_eq, not, rules, tests}
use Rattle.std.specs.Char.{is_ascii}
use Rattle.std.proofs.lemmas.Iterator.{YieldsList-from_slice}
use Rattle.std.proofs.lemmas.Iterator.Search.{all_from_yields_List}
use Rattle.disco_operations.proofs.percent.is_plain.Goals as goal

pub returns : goal.returns
returns c =
    all_from_yields_List (λ (b : ℕ). is_ascii b && not (nat_eq b 37)) c.all.new.self _ _ c.all.ensures.ran
    (YieldsList-from_slice c.args.name.now cc) (λ x b q k. search (rules, tests))
