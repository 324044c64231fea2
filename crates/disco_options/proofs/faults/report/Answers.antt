use Rattle.std.proofs.Common.{inl, inr}
use Rattle.disco_options.proofs.Said.{says_alone}
use Rattle.disco_options.proofs.faults.report.Goals as goal

pub returns-in-Ok-clause-told : goal.returns-in-Ok-clause-told
returns-in-Ok-clause-told g c = (c.args.fault.now, says_alone c.args.fault.now _ _ _ _ (inl c.in-Ok.ensures.0))

pub returns-in-Err-clause-told : goal.returns-in-Err-clause-told
returns-in-Err-clause-told g c = (c.args.fault.now, says_alone c.args.fault.now _ _ _ _ (inr c.in-Err.ensures))
