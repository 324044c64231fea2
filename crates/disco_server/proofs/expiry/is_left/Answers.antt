use Rattle.std.proofs.Common.{◌≡◌, List, true, subst, sym, arith}
use Rattle.std.proofs.lemmas.Bool.Decides.{nat_tests}
use Rattle.disco_values.specs.declared.key.Key.{Key}
use Rattle.disco_server.specs.Tasks.{is_left}
use Rattle.disco_server.proofs.FirstKeys.{left_next}
use Rattle.disco_server.proofs.expiry.is_left.Goals as goal

pub returns-else-is_empty : goal.returns-else-is_empty
returns-else-is_empty c =
    subst (λ (l : List Key). true ≡ is_left l) c.run.view_is (sym (left_next c.run.inside.next.items c.run.inside.behind.items (grind (arith, nat_tests, c.is_empty.ensures, c.if-is_empty.false))))
