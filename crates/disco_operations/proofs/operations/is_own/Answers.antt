use Rattle.std.proofs.Common.{ℕ, nat_eq, rules, tests, arith, ◌∙◌}
use Rattle.std.specs.Char.{to_ascii_uppercase}
use Rattle.std.proofs.lemmas.Iterator.{YieldsList-from_slice, YieldsList-from_zip}
use Rattle.std.proofs.lemmas.Iterator.Search.{all_from_yields_List}
use Rattle.disco_operations.proofs.Names.{are_same}
use Rattle.disco_operations.proofs.operations.is_own.Goals as goal

pub returns-then-name-own : goal.returns-then-name-own
returns-then-name-own c =
    let name = c.args.name.now in
    let own = c.args.own.now in
    all_from_yields_List (λ (p : ℕ × ℕ). nat_eq (to_ascii_uppercase p.0) p.1) c.all.new.self _ _ c.all.ensures.ran
    (YieldsList-from_zip (YieldsList-from_slice name cc) (YieldsList-from_slice own cc)) (λ x b q k. search (rules, tests))
    ∙ are_same name own (omega arith)
