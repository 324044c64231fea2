use Rattle.std.proofs.Common.{◌++◌, inl, inr, refl, ◌∙◌}
use Rattle.disco_http.proofs.session.next_reply.Goals as goal

pub returns-in-Ok-clause-came : goal.returns-in-Ok-clause-came
returns-in-Ok-clause-came g c =
    let e = c.in-Ok.ensures in
    (e.came.0, e.came.1, λ given asks texts out h. inl (rw (← e.requests) (c.reply.ensures.replied (given ++ e.came.0) asks texts out (e.came.2 given asks texts out h))))

pub returns-in-Err-clause-came : goal.returns-in-Err-clause-came
returns-in-Err-clause-came g c =
    let e = c.in-Err.ensures in
    (e.came.0, e.came.1, λ given asks texts out h. inr (refl {a = c.args.service.now}, c.fail.ensures.requests ∙ e.requests, (c.fail.ensures.state, rw c.fail.ensures.limits (e.came.2 given asks texts out h))))
