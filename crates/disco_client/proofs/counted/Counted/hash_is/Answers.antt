use Rattle.std.proofs.Common.{ap, ◌∙◌}
use Rattle.std.specs.Str.{bytes_eq}
use Rattle.disco_history.specs.Hash.{hash}
use Rattle.disco_index.specs.Tally.{rows_of}
use Rattle.disco_client.proofs.counted.Counted.hash_is.Goals as goal

pub returns : goal.returns
returns c = c.is_text.ensures (rows_of c.self.inside.records.held) c.self.invariant ∙ ap (λ r. bytes_eq c.args.text.now (hash (rows_of r.held))) c.self.view_is
