use Rattle.std.proofs.Common.{arith}
use Rattle.disco_calls.proofs.FilledNames.{found_place, no_place}
use Rattle.disco_calls.proofs.routes.Routes.find.Goals as goal

pub returns-in-Ok : goal.returns-in-Ok
returns-in-Ok c =
    let based = c.in_ok-behind.ensures.cases in
    rw (c.filled.ensures, c.as_bytes.ensures.value) (found_place c.args.self.now.router c.args.path.now c.in_ok-behind.behind.now based.0 _ c.args.self.now.routes (λ i. omega (arith, c.type_inv.path i)) based.1.0 based.1.1 based.2 c.in-Ok.ensures.found)

pub returns-in-Err : goal.returns-in-Err
returns-in-Err c =
    let based = c.in_ok-behind.ensures.cases in
    no_place c.args.self.now.router c.args.path.now c.in_ok-behind.behind.now based.0 c.args.self.now.routes (λ i. omega (arith, c.type_inv.path i)) based.1.0 based.1.1 based.2 c.in-Err.ensures.missing
