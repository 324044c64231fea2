use Rattle.std.proofs.Common.{◌≡◌, ◌≤◌, ◌-◌, ◌++◌, [], ap, arith, drop, length, subst, sym, take}
use Rattle.std.specs.List.{concat}
use Rattle.disco_http.specs.declared.outgoing.Outgoing.{Outgoing}
use Rattle.disco_http.specs.Sessions.{Holds, Leaves, text_of, unsent}
use Rattle.disco_http.proofs.SessionSteps.{all_sent, left_size, part_sent}
use Rattle.disco_http.proofs.steps.Session.sent.Goals as goal
use Rattle.disco_http.proofs.steps.Session.sent.Goals.{in-Some, in-None}

pub returns-then-outgoing-gt0-clause-sent : goal.returns-then-outgoing-gt0-clause-sent
returns-then-outgoing-gt0-clause-sent g c given asks texts out h few =
    let content = g.D.Document.content in
    let self = c.args.self.now in
    let o = c.in-Writes.outgoing in
    let text = text_of content o in
    let holds = subst (λ s. Holds content self.limits self.incoming s h.rest) c.in-Writes.is h.holds in
    let put = subst (λ s. out ++ unsent content s ≡ concat texts) c.in-Writes.is h.put in
    let size : length (unsent content self.state) ≡ o.left = subst (λ s. length (unsent content s) ≡ o.left) (sym c.in-Writes.is) (left_size text o.left holds.1) in
    let count : c.args.count ≤ o.left = omega (arith, few, size) in
    record {
      rest = h.rest;
      fronts = h.fronts;
      holds = (holds.0, omega (arith, holds.1, c.saturating_sub-outgoing.ensures));
      put = subst (λ s. (out ++ take c.args.count (unsent content s)) ++ drop (length text - c.saturating_sub-outgoing.result) text ≡ concat texts) (sym c.in-Writes.is) (part_sent text out (concat texts) o.left c.args.count c.saturating_sub-outgoing.result holds.1 count c.saturating_sub-outgoing.ensures put);
    }

pub returns-after-outgoing-clause-sent : goal.returns-after-outgoing-clause-sent
returns-after-outgoing-clause-sent g c given asks texts out h few =
    let content = g.D.Document.content in
    let self = c.args.self.now in
    let o = c.in-Writes.outgoing in
    let text = text_of content o in
    let holds = subst (λ s. Holds content self.limits self.incoming s h.rest) c.in-Writes.is h.holds in
    let put = subst (λ s. out ++ unsent content s ≡ concat texts) c.in-Writes.is h.put in
    let size : length (unsent content self.state) ≡ o.left = subst (λ s. length (unsent content s) ≡ o.left) (sym c.in-Writes.is) (left_size text o.left holds.1) in
    let count : c.args.count ≤ o.left = omega (arith, few, size) in
    let many : o.left ≤ c.args.count = omega (arith, c.if-outgoing-gt0.false, c.saturating_sub-outgoing.ensures) in
    let all = subst (λ s. (out ++ take c.args.count (unsent content s)) ++ [] ≡ concat texts) (sym c.in-Writes.is) (all_sent text out (concat texts) o.left c.args.count holds.1 count many put) in
    elim c.match-outgoing.branch [
      | in-Some w ↦ rw w.t-10-is (record { rest = h.rest; fronts = h.fronts; holds = subst (Leaves self.limits self.incoming h.rest) w.in-Some.is holds.0; put = all })
      | in-None w ↦ rw w.t-10-is (record { rest = h.rest; fronts = h.fronts; holds = subst (Leaves self.limits self.incoming h.rest) w.in-None.is holds.0; put = all })
    ]

pub returns-then-outgoing-gt0-clause-whole : goal.returns-then-outgoing-gt0-clause-whole
returns-then-outgoing-gt0-clause-whole g c o is few none =
    let same : c.in-Writes.outgoing ≡ o = cc (c.in-Writes.is, is) in
    absurd (omega (arith, c.if-outgoing-gt0.true, c.saturating_sub-outgoing.ensures, ap (λ (x : Outgoing g.row.D.Denot). x.left) same, few))

pub returns-then-outgoing-gt0-clause-last : goal.returns-then-outgoing-gt0-clause-last
returns-then-outgoing-gt0-clause-last g c o end is few ends =
    let same : c.in-Writes.outgoing ≡ o = cc (c.in-Writes.is, is) in
    absurd (omega (arith, c.if-outgoing-gt0.true, c.saturating_sub-outgoing.ensures, ap (λ (x : Outgoing g.row.D.Denot). x.left) same, few))

pub returns-after-outgoing-clause-whole : goal.returns-after-outgoing-clause-whole
returns-after-outgoing-clause-whole g c o is few none =
    let same : c.in-Writes.outgoing ≡ o = cc (c.in-Writes.is, is) in
    elim c.match-outgoing.branch [
      | in-Some w ↦ absurd (cc (ap (λ (x : Outgoing g.row.D.Denot). x.end) same, w.in-Some.is, none))
      | in-None w ↦ w.t-10-is
    ]

pub returns-after-outgoing-clause-last : goal.returns-after-outgoing-clause-last
returns-after-outgoing-clause-last g c o end is few ends =
    let same : c.in-Writes.outgoing ≡ o = cc (c.in-Writes.is, is) in
    elim c.match-outgoing.branch [
      | in-Some w ↦ rw w.t-10-is (cc (ap (λ (x : Outgoing g.row.D.Denot). x.end) same, w.in-Some.is, ends))
      | in-None w ↦ absurd (cc (ap (λ (x : Outgoing g.row.D.Denot). x.end) same, w.in-None.is, ends))
    ]
