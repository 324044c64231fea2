use Rattle.disco_client.proofs.Letters.{alike}
use Rattle.disco_client.proofs.vip.is_alike.Goals as goal

pub returns : goal.returns
returns c = alike c.args.text.now c.args.other.now c.eq_ignore_ascii_case.result c.eq_ignore_ascii_case.ensures.test
