use Rattle.std.proofs.Common.{refl}
use Rattle.disco_core.proofs.Asks.{no_leases_of}
use Rattle.disco_core.proofs.Ties.{tied_new}
use Rattle.disco_core.proofs.state.Core.new.Goals as goal

pub invariant_of-result : goal.invariant_of-result
invariant_of-result c =
    tied_new c.new.result c.new-2.result c.new-3.result c.new-4.result c.new-5.result c.new-6.result c.new.ensures.empty c.new-2.ensures c.new-3.ensures c.new-4.ensures c.new-5.ensures.history c.new-6.ensures

pub returns-clause-empty : goal.returns-clause-empty
returns-clause-empty c = record {
  run = refl;
  registry = c.new.ensures.empty;
  queue = record { kept = c.new-5.ensures.history; base = c.new-5.ensures.base };
  leases = no_leases_of c.args.settings.now.run c.new-4.result c.new-4.ensures;
}
