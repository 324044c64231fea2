use Rattle.std.proofs.Common.{ℕ, not, rules, tests}
use Rattle.std.specs.Char.{is_ascii_lowercase}
use Rattle.std.proofs.lemmas.Iterator.{YieldsList-from_slice}
use Rattle.std.proofs.lemmas.Iterator.Search.{all_from_yields_List}
use Rattle.disco_values.proofs.text.is_upper.Goals as goal

pub returns : goal.returns
returns c =
    all_from_yields_List (λ (b : ℕ). not (is_ascii_lowercase b)) c.all.new.self _ _ c.all.ensures.ran
    (YieldsList-from_slice c.args.text.now cc) (λ x b q k. search (rules, tests))
