use Rattle.disco_http.specs.Streams.{unread}
use Rattle.disco_http.proofs.ReadRequests.{broken_off, none_left, refused_so, taken}
use Rattle.disco_http.proofs.reader.Reader.read_request.Goals as goal

pub returns-in-Ok-clause-request : goal.returns-in-Ok-clause-request
returns-in-Ok-clause-request g c =
    let e = c.in-Ok.ensures in
    let done = rw c.replace-incoming.ensures.value at c.over-session.ensures.done in
    rw c.swap.ensures.y_after (rw (e.limits, c.over-session.ensures.limits) at (taken _ c.over-session.result c.next_request-read.new.session (unread c.args.self.now) e.came.0 _ _ done e.came.1 c.in-Ok.found e.stands e.came.2))

pub returns-in-Ok-clause-none : goal.returns-in-Ok-clause-none
returns-in-Ok-clause-none g c =
    let e = c.in-Ok.ensures in
    let done = rw c.replace-incoming.ensures.value at c.over-session.ensures.done in
    none_left _ c.over-session.result c.next_request-read.new.session (unread c.args.self.now) e.came.0 _ _ done e.came.1 c.in-Ok.found e.stands e.stops e.ended e.came.2

pub returns-in-Ok-clause-refused : goal.returns-in-Ok-clause-refused
returns-in-Ok-clause-refused g c =
    let e = c.in-Ok.ensures in
    let done = rw c.replace-incoming.ensures.value at c.over-session.ensures.done in
    rw (e.limits, c.over-session.ensures.limits) at (refused_so _ c.over-session.result c.next_request-read.new.session (unread c.args.self.now) e.came.0 _ _ done e.came.1 c.in-Ok.found e.ended e.came.2)

pub returns-clause-broken : goal.returns-clause-broken
returns-clause-broken g c failed =
    let e = c.in-Err.ensures in
    let done = rw c.replace-incoming.ensures.value at c.over-session.ensures.done in
    rw (e.limits, c.over-session.ensures.limits) at (broken_off _ c.over-session.result c.next_request-read.new.session (unread c.args.self.now) e.came.0 _ _ done e.came.1 c.in-Err.field-0 e.came.2)
