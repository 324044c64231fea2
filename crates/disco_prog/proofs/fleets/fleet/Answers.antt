use Rattle.std.proofs.Common.{map}
use Rattle.std.specs.Prelude.{string_bytes}
use Rattle.clap.specs.Kinds.{or_else}
use Rattle.disco_options.specs.Options.{faults_of}
use Rattle.disco_options.specs.declared.subcommand.Subcommand.TheVariants.{Fleet}
use Rattle.disco_prog.specs.Fleets.{ask_for_no_run, faults_of_restart}
use Rattle.disco_prog.proofs.Restarts.{carried_out, has_either}
use Rattle.disco_prog.proofs.fleets.fleet.Goals as goal

pub returns-in-Ok : goal.returns-in-Ok
returns-in-Ok g c =
    let words = map string_bytes c.args.words.now in
    carried_out g.E.Sink.contents g.E.Sink.failed c.carry_out.result c.args.out.now c.carry_out.new.out c.args.errors.now c.carry_out.new.errors words _ c.plan_from.result c.in-Ok.ensures.faults c.in-Ok.ensures.matches c.plan_from.ensures c.carry_out.ensures

pub returns-in-Err : goal.returns-in-Err
returns-in-Err g c =
    let words = map string_bytes c.args.words.now in
    let kinds = faults_of Fleet words in
    let others = faults_of_restart (ask_for_no_run words) in
    c.refused.ensures.ends (or_else kinds others) (has_either kinds others c.in-Err.error c.in-Err.ensures.faults)
