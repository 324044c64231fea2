use Rattle.std.proofs.Common.{◌≡◌, rules}
use Rattle.disco_message.specs.StatusLine.{phrase}
use Rattle.disco_message.proofs.StatusLines.{phrase_short}
use Rattle.disco_message.proofs.status_line.phrase.Goals as goal

pub returns-in-Some-clause-short : goal.returns-in-Some-clause-short
returns-in-Some-clause-short c =
    let same : c.in-Some.phrase.now ≡ phrase c.args.status = search rules in
    rw same (phrase_short c.args.status (search rules))
