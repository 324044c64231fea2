use Rattle.disco_message.proofs.Digits.{not_digits}
use Rattle.disco_message.proofs.framing.number.Goals as goal

pub returns-in-Err : goal.returns-in-Err
returns-in-Err c = not_digits c.args.value.now c.in-Err.ensures.cases.0
