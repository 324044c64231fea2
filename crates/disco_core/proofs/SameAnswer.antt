-- What holds of an answer, from what holds of another one.
use Rattle.std.proofs.Common.{Result, Ok, Err, IfOk, IfErr}

pub ok_then : {A E : Type 0} (r : Result A E) (P Q : A → Type 0) → ((a : A) → P a → Q a) → IfOk r P → IfOk r Q
ok_then (Ok a) P Q f p = f a p
ok_then (Err e) P Q f p = p

pub err_then : {A E : Type 0} (r : Result A E) (P Q : E → Type 0) → ((e : E) → P e → Q e) → IfErr r P → IfErr r Q
err_then (Ok a) P Q f p = p
err_then (Err e) P Q f p = f e p
