use Rattle.std.proofs.Common.{ap, refl, take, ◌∙◌}
use Rattle.disco_http.specs.Coming.{with_lent as incoming_with_lent}
use Rattle.disco_http.specs.Sessions.{with_lent}
use Rattle.disco_http.specs.Unread.{room_of}
use Rattle.disco_http.proofs.Lent.{bytes_kept, holds_same, lent_whole, lent_written, same_session}
use Rattle.disco_http.proofs.steps.Session.lend.Goals as goal

pub returns : goal.returns
returns g c = (
  (refl, λ w. same_session (with_lent c.args.self.now w) _),
  record {
    writes_back = tt;
    room = c.room.ensures.value ∙ ap (λ n. take n (room_of c.args.self.now.incoming.unread)) c.room_size-size.ensures.size ∙ lent_whole c.args.self.now.state c.args.self.now.incoming.unread;
    lent = λ came fits. lent_written c.args.self.now.state c.args.self.now.incoming.unread came fits;
    done = λ came given asks texts out h. record {
      rest = h.rest;
      fronts = h.fronts;
      holds = holds_same g.D.Document.content c.args.self.now.limits c.args.self.now.incoming (incoming_with_lent c.args.self.now.incoming came) c.args.self.now.state h.rest refl (bytes_kept c.args.self.now.incoming.unread came) h.holds;
      put = h.put;
    };
  },
)
