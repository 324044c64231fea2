use Rattle.std.proofs.Common.{◌≡◌, ◌++◌, subst}
use Rattle.std.specs.List.{concat}
use Rattle.disco_http.specs.Sessions.{Holds, unsent}
use Rattle.disco_http.specs.Unread.{bytes_of}
use Rattle.disco_http.proofs.MoreBytes.{phase_more}
use Rattle.disco_http.proofs.SessionSteps.{fronts_more}
use Rattle.disco_http.proofs.session.read.Goals as goal

pub returns-clause-came : goal.returns-clause-came
returns-clause-came g c =
    let content = g.D.Document.content in
    let self = c.args.session.now in
    let read = c.in_ok-count.ensures.came in (
      read.0,
      read.3,
      λ given asks texts out h.
          let held = subst (λ s. Holds content self.limits self.incoming s h.rest) c.requires.waits h.holds in
          let came = phase_more self.limits self.incoming.phase h.rest (bytes_of self.incoming.unread) read.0 held.0 in
          record {
            rest = h.rest ++ read.0;
            fronts = fronts_more self.limits given h.rest read.0 asks h.fronts;
            holds = rw (c.replace.ensures.after, read.1) came;
            put = rw c.replace.ensures.after (subst (λ s. out ++ unsent content s ≡ concat texts) c.requires.waits h.put);
          },
    )
