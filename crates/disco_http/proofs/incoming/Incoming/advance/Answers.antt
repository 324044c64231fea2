use Rattle.std.proofs.Common.{IfNone, IfOk, None, Ok, Option, Result, Some, Err, inr}
use Rattle.disco_http.proofs.incoming.Incoming.advance.Goals as goal

then_waits : {A E : Type 0} (P Q : Type 0) (r : Result (Option A) E) → IfOk r (λ found. IfNone found P) → (P → Q) → IfOk r (λ found. IfNone found Q)
then_waits P Q (Ok None) h k = k h
then_waits P Q (Ok (Some x)) h k = tt
then_waits P Q (Err e) h k = tt

pub returns-in-Some-clause-waits : goal.returns-in-Some-clause-waits
returns-in-Some-clause-waits c =
    let begun = rw c.in-Some.is at c.in_ok-head.ensures.begun in
    then_waits _ _ c.go_on.result c.go_on.ensures.waits (λ w given h. let s = w given (begun given h) in (s.0, s.1, inr s.2))
