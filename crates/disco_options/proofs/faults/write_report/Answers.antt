use Rattle.std.proofs.Common.{ℕ, ◌≡◌, ◌≢◌, ◌++◌, ap, codes, refl, ◌∙◌}
use Rattle.std.specs.Fmt.{decimal}
use Rattle.disco_values.specs.Fault.{fault_number}
use Rattle.disco_values.specs.declared.fault.Fault.{Fault}
use Rattle.disco_values.specs.declared.fault.Fault.TheVariants.{BadEvent}
use Rattle.disco_options.specs.Faults.{report_line}
use Rattle.disco_options.proofs.faults.write_report.Goals as goal

at_line : (fault : Fault) (n line : ℕ) → n ≡ fault_number fault → fault ≡ BadEvent line
    → codes "discovery: fault " ++ decimal n ++ codes " at line " ++ decimal line ++ codes "\n" ≡ report_line fault
at_line fault n line e f = rw (e, f) refl

other_line : (fault : Fault) → ((line : ℕ) → fault ≢ BadEvent line) → codes "discovery: fault " ++ decimal (fault_number fault) ++ codes "\n" ≡ report_line fault
other_line (BadEvent line) h = absurd (h line refl)
other_line fault h = refl

other : (fault : Fault) (n : ℕ) → n ≡ fault_number fault → ((line : ℕ) → fault ≢ BadEvent line) → codes "discovery: fault " ++ decimal n ++ codes "\n" ≡ report_line fault
other fault n e h = ap (λ n. codes "discovery: fault " ++ decimal n ++ codes "\n") e ∙ other_line fault h

pub returns-in-BadEvent : goal.returns-in-BadEvent
returns-in-BadEvent g c = rw (← at_line c.args.fault.now c.number-number.result c.in-BadEvent.line c.number-number.ensures c.in-BadEvent.is) c.write_bad_line.ensures

pub returns-in_default : goal.returns-in_default
returns-in_default g c = rw (← other c.args.fault.now c.number-number.result c.number-number.ensures c.in_default.not-BadEvent) c.write_end.ensures
