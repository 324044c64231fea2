use Rattle.std.proofs.Common.{◌≡◌, ◌++◌, [], append-nil, rules, subst}
use Rattle.std.proofs.lemmas.Result.{err_from_is_err_and}
use Rattle.std.specs.Io.KnownBytes.{Consumes}
use Rattle.std.proofs.KnownBytes.{Consumes-trans}
use Rattle.disco_http.specs.declared.steps.State.TheVariants.{Waits}
use Rattle.disco_http.proofs.ReadingSessions.{breaks_off, reads_on}
use Rattle.disco_http.proofs.session.next_request.Goals as goal

pub returns-in_default-clause-came : goal.returns-in_default-clause-came
returns-in_default-clause-came g c =
    let on = c.reads.invariant.came in
    (on.0, on.1, λ given asks texts out h. let finds = c.take_request.ensures.found (given ++ on.0) asks texts out (on.2 given asks texts out h) in search rules)

pub returns-in_err-read-clause-came : goal.returns-in_err-read-clause-came
returns-in_err-read-clause-came g c =
    let p = err_from_is_err_and c.from_residual.result c.from_residual.ensures.1 in
    let it = c.reads in
    let on = it.invariant.came in
    let first = g.R.Source.remaining c.args.source.now in
    let left = g.R.Source.remaining c.read.new.source in
    let mid = c.take_request.new.self in
    let waits : mid.state ≡ Waits = search rules in
    let none = rw (c.in-Ok-None.is, c.in-Ok-None.field-0-is) at c.take_request.ensures.found in (
      on.0,
      subst (λ xs. Consumes first left xs) (append-nil on.0) (Consumes-trans first (g.R.Source.remaining it.source) left on.0 [] on.1 c.in_err-read.ensures.none),
      λ given asks texts out h. rw p.1 (breaks_off g.D.Document.content c.args.session.now it.session mid on.0 on.2 none c.read.new.session c.read.ensures.limits waits given asks texts out h),
    )

pub reads-preserved : goal.reads-preserved
reads-preserved g c =
    let it = c.reads in
    let on = it.invariant.came in
    let read = c.in_ok-read.ensures.came in
    let none = rw (c.in-Ok-None.is, c.in-Ok-None.field-0-is) at c.take_request.ensures.found in
    record {
      came = (
        on.0 ++ read.0,
        Consumes-trans (g.R.Source.remaining c.args.source.now) (g.R.Source.remaining it.source) (g.R.Source.remaining c.read.new.source) on.0 read.0 on.1 read.1,
        reads_on g.D.Document.content c.args.session.now it.session c.take_request.new.self on.0 on.2 none c.read.new.session read.0 read.2,
      );
      looks = search rules;
      ended = search rules;
      limits = search rules;
      requests = search rules;
      size = search rules;
      places = search rules;
      failed = search rules;
    }
