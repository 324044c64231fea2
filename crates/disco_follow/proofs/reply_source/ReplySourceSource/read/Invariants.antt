use Rattle.std.proofs.Common.{◌≡◌}
use Rattle.disco_follow.proofs.reply_source.ReplySourceSource.read.Given as goal

abbrev pub invariant-loop : goal.invariant-loop
invariant-loop g l = l.self.failures ≡ l.fn.self.failures
