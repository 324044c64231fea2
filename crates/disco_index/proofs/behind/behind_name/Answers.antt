use Rattle.disco_index.proofs.Stripped.{stripped}
use Rattle.disco_index.proofs.behind.behind_name.Goals as goal

pub returns : goal.returns
returns c =
    stripped c.args.name.now c.args.text.now c.strip_prefix.result (rw c.as_bytes.ensures.value at c.strip_prefix.ensures.cases)
