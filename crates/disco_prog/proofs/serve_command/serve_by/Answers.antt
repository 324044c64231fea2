use Rattle.std.proofs.Common.{inl, inr, refl, subst}
use Rattle.std.specs.Io.KnownBytes.{Appends}
use Rattle.clap.specs.Words.{found_of, rows_of}
use Rattle.disco_options.proofs.Said.{says_alone}
use Rattle.disco_values.specs.declared.fault.Fault.TheVariants.{OutOfMemory, ReadFailed}
use Rattle.disco_prog.specs.Serving.{SaysListening, listening_line}
use Rattle.disco_prog.proofs.WantOfMemory.{no_memory}
use Rattle.disco_prog.proofs.serve_command.serve_by.Goals as goal

pub returns-in-Ok-open_and_serve-clause-listening :
    goal.returns-in-Ok-open_and_serve-clause-listening
unfolding SaysListening
returns-in-Ok-open_and_serve-clause-listening g c = λ none zero. (
  rows_of (found_of c.in-Ok.matches),
  c.in-Ok.ensures.matches,
  subst (λ port. Appends (g.W.Sink.contents c.args.out.now) (g.W.Sink.contents c.open_and_serve.new.out) (listening_line port)) c.service_from-service.ensures.port c.in-Ok-open_and_serve.ensures.said,
)

pub returns-in-Err-clause-failed : goal.returns-in-Err-clause-failed
returns-in-Err-clause-failed g c = λ none one.
    let memory = no_memory _ c.in-Err.error none c.in-Err.ensures.faults in
    (OutOfMemory, inl refl, says_alone OutOfMemory _ _ _ _ (c.refused.ensures.memory memory))

pub returns-in-Err-listen-clause-failed : goal.returns-in-Err-listen-clause-failed
returns-in-Err-listen-clause-failed g c = λ none one. (ReadFailed, inr (inl refl), c.report_address-in-Err-listen.ensures.says)

pub returns-clause-failed : goal.returns-clause-failed
returns-clause-failed g c = λ none one. (c.in-Err-open_and_serve.fault, c.in-Err-open_and_serve.ensures.failed, says_alone _ _ _ _ _ c.report.ensures.says)
