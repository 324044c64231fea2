-- Answer lines (this project's own format).
use Rattle.std.specs.Prelude.{ℕ, List, [], length, ◌++◌, codes, decimal, if◌then◌else◌, flat_map}
use Rattle.std.specs.Option.{option_map_or}
use Rattle.std.specs.Arc.{arc_value}
use Rattle.disco_values.specs.Fault.{fault_number, field_name}
use Rattle.disco_values.specs.declared.fault.Fault.{Fault}
use Rattle.disco_values.specs.declared.fault.Fault.TheVariants.{MissingField}
use Rattle.disco_cache.specs.declared.payload.Payload.{Payload}
use Rattle.disco_hub.specs.declared.copied.Copied.TheVariants as copied
use Rattle.disco_values.specs.Status.{status_name}
use Rattle.disco_world.specs.declared.instance_summary.InstanceSummary.{InstanceSummary}
use Rattle.disco_world.specs.declared.event.Reply.{Reply}
use Rattle.disco_world.specs.declared.event.Reply.TheVariants.{Changed, Same, Cleaned, Closed, Expired, Begun, Done, Published, Missed}
use Rattle.disco_world.specs.declared.event.Reply.TheVariants as replied
use Rattle.disco_world.specs.declared.event.Reply.TheVariants.{Taken, Certified, Held, Restarted, Refused}

-- `doc BASE VERSION TEXT`
abbrev pub document_line : Payload → List ℕ
document_line p = (codes "doc " ++ decimal p.base ++ codes " " ++ decimal p.version ++ codes " ") ++ p.text ++ codes "\n"

-- `fault N`, and the member's name where one is missing
abbrev pub refusal_line : Fault → List ℕ
refusal_line (MissingField field) = codes "fault " ++ decimal 3 ++ codes " " ++ field_name field ++ codes "\n"
refusal_line fault = codes "fault " ++ decimal (fault_number fault) ++ codes "\n"

-- ` APP/ID=STATUS`, each as it is
abbrev pub summary_text : InstanceSummary → List ℕ
summary_text h = codes " " ++ h.key.app ++ codes "/" ++ h.key.id ++ codes "=" ++ status_name h.status

-- `copy` where a certified client took a document, and `keep` where it didn't; of a plain client `-` where its copy is known at no version
abbrev pub answer_line : Reply → List ℕ
answer_line (Changed version) = codes "ok " ++ decimal version ++ codes "\n"
answer_line Same = codes "same\n"
answer_line (replied.Doc payload) = document_line (arc_value payload)
answer_line (Cleaned base) = codes "base " ++ decimal base ++ codes "\n"
answer_line (Closed minute) = codes "minute " ++ decimal minute.renewals ++ codes " " ++ decimal minute.instances ++ codes "\n"
answer_line (Expired run) = codes "expired " ++ decimal run.gone
    ++ option_map_or (λ fault. codes " fault " ++ decimal (fault_number fault)) run.stopped [] ++ codes "\n"
answer_line (Begun keys) = codes "round " ++ decimal keys ++ codes "\n"
answer_line (replied.Copied (copied.Doc payload)) = codes "copied " ++ decimal (arc_value payload).version ++ codes "\n"
answer_line (replied.Copied (copied.Drop key)) = codes "dropped\n"
answer_line Done = codes "done\n"
answer_line (Published documents) = codes "published " ++ decimal documents ++ codes "\n"
answer_line Missed = codes "miss\n"
answer_line (Taken equal version) = codes "copy " ++ (if equal then codes "yes" else codes "no") ++ codes " "
    ++ option_map_or decimal version (codes "-") ++ codes "\n"
answer_line (Certified taken run version) =
    (if taken then codes "copy" else codes "keep") ++ codes " " ++ decimal run ++ codes " " ++ decimal version ++ codes "\n"
answer_line (Held listed) = codes "held " ++ decimal (length listed) ++ flat_map summary_text listed ++ codes "\n"
answer_line (Restarted run) = codes "run " ++ decimal run ++ codes "\n"
answer_line (Refused fault) = refusal_line fault

-- the answer lines of replies, one behind another
abbrev pub answer_lines : List Reply → List ℕ
answer_lines replies = flat_map answer_line replies
