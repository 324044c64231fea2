use Rattle.std.proofs.Common.{rules, arith, inr, refl}
use Rattle.std.proofs.lemmas.Bool.Decides.{nat_tests}
use Rattle.disco_lines.specs.Lines.{event_of}
use Rattle.disco_lines.proofs.Feeds.{missed_line, taken_line}
use Rattle.disco_lines.proofs.lines.events_of.Goals as goal

pub returns-then-not-branch-clause-fault : goal.returns-then-not-branch-clause-fault
returns-then-not-branch-clause-fault c =
    inr (missed_line c.loop-rest.events.items c.put_event_of.new.events.items (event_of c.split_line.result.0.now) c.in_ok-put_event_of.field-0 c.len.result c.args.input.now c.loop-rest.rest.now
    c.split_line.result.0.now c.split_line.result.1.now c.if-not-branch.true c.in_ok-put_event_of.ensures.says c.in_ok-put_event_of.ensures.puts (search rules)
    (search rules) c.split_line.ensures.line c.split_line.ensures.rest refl c.loop-rest.invariant)

pub loop-rest-preserved : goal.loop-rest-preserved
loop-rest-preserved c =
    taken_line c.loop-rest.events.items c.put_event_of.new.events.items (event_of c.split_line.result.0.now) c.in_ok-put_event_of.field-0 c.args.input.now c.loop-rest.rest.now
    c.split_line.result.0.now c.split_line.result.1.now c.if-not-branch.false c.in_ok-put_event_of.ensures.says c.in_ok-put_event_of.ensures.puts
    (grind (arith, nat_tests, c.is_empty.ensures, c.loop-rest-test.true)) c.split_line.ensures.line c.split_line.ensures.rest refl c.loop-rest.invariant
