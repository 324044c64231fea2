use Rattle.std.proofs.Common.{◌++◌, length}
use Rattle.std.proofs.lemmas.List.{drop-replicate}
use Rattle.disco_values.proofs.inline_text.padded.Goals as goal

pub returns : goal.returns
returns c = λ i. c.copy_from_slice.ensures.after i ++ drop-replicate (length c.args.text.now) 30 0 i
