use Rattle.std.proofs.Common.{take}
use Rattle.disco_message.proofs.RequestHeads.{copied}
use Rattle.disco_message.proofs.head.copy.Goals as goal

pub returns-clause-fields : goal.returns-clause-fields
returns-clause-fields c =
    let line = c.args.line.now in
    copied c.args.buf.now _ line.len (take line.headers c.args.spans.now) _ c.in_ok-refill_bytes.ensures c.in_ok-refill_spans.ensures c.requires.section.headers_fit
