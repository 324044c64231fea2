use Rattle.std.proofs.Common.{take}
use Rattle.disco_message.proofs.RequestHeads.{copied}
use Rattle.disco_message.proofs.received.copy.Goals as goal

pub returns-clause-fields : goal.returns-clause-fields
returns-clause-fields c =
    let line = c.args.line.now in
    copied c.args.buf.now _ line.len (take line.headers c.args.spans.now) _ c.in_ok-text.ensures.items c.in_ok-spans.ensures.items c.requires.section.headers_fit
