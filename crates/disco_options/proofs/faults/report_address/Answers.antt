use Rattle.std.proofs.Common.{◌<◌, ◌^◌, rules}
use Rattle.disco_values.specs.declared.fault.Fault.TheVariants.{ReadFailed}
use Rattle.disco_options.proofs.Said.{says_behind}
use Rattle.disco_options.proofs.faults.report_address.Goals as goal

pub returns : goal.returns
returns g c =
    let counted : g.E.Sink.failed c.report-status.new.errors < 2 ^ 64 = search rules in
    let said = c.explain.ensures in
    let says = says_behind said.0 _ _ _ _ _ _ counted said.1 said.2 said.3 c.report-status.ensures.counted c.report-status.ensures.says in
    record {
      status = c.report-status.ensures.status;
      says = says;
      told = (ReadFailed, says);
    }
