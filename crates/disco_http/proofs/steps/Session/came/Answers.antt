use Rattle.std.proofs.Common.{◌≡◌, ◌++◌, ◌<◌, [], ap, append-nil, min, refl, rules, subst, take, ◌∙◌}
use Rattle.std.specs.List.{concat}
use Rattle.disco_http.specs.Sessions.{Holds, lent, lent_by, unsent}
use Rattle.disco_http.specs.Unread.{bytes_of, room_of}
use Rattle.disco_http.proofs.Lent.{holds_same, none_taken}
use Rattle.disco_http.proofs.MoreBytes.{phase_more}
use Rattle.disco_http.proofs.SessionSteps.{fronts_more}
use Rattle.disco_http.proofs.steps.Session.came.Goals as goal

pub returns-clause-came : goal.returns-clause-came
returns-clause-came g c given asks texts out h =
    let content = g.D.Document.content in
    let self = c.args.self.now in
    let more = take c.args.count (room_of self.incoming.unread) in
    let some : 0 < c.room_size.result = search rules in
    let waits = c.room_size.ensures.waits some in
    let held = subst (λ s. Holds content self.limits self.incoming s h.rest) waits h.holds in
    let came = phase_more self.limits self.incoming.phase h.rest (bytes_of self.incoming.unread) more held.0 in
    let is : take c.args.count (lent self) ≡ more = ap (λ s. take c.args.count (lent_by s self.incoming.unread)) waits in
    rw is (record {
      rest = h.rest ++ more;
      fronts = fronts_more self.limits given h.rest more asks h.fronts;
      holds = rw (c.add.ensures.bytes) came;
      put = subst (λ s. out ++ unsent content s ≡ concat texts) waits h.put;
    })

pub returns-then-min-eq0-clause-came : goal.returns-then-min-eq0-clause-came
returns-then-min-eq0-clause-came g c given asks texts out h =
    let self = c.args.self.now in
    let none : take c.args.count (lent self) ≡ [] = none_taken (lent self) c.args.count c.min.result (c.min.ensures ∙ ap (min c.args.count) c.room_size.ensures.size) c.if-min-eq0.true in
    let is : given ++ take c.args.count (lent self) ≡ given = ap (λ xs. given ++ xs) none ∙ append-nil given in
    record {
      rest = h.rest;
      fronts = rw is h.fronts;
      holds = holds_same g.D.Document.content self.limits self.incoming (record { unread = c.release.new.self; phase = self.incoming.phase }) self.state h.rest refl c.release.ensures.same h.holds;
      put = h.put;
    }
