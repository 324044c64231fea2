-- The output lines on a client's copy, as texts (this project's own format).
use Rattle.std.specs.Prelude.{ℕ, List, ◌++◌, codes, decimal, flat_map}
use Rattle.disco_values.specs.Fault.{fault_number}
use Rattle.disco_values.specs.Status.{status_name}
use Rattle.disco_values.specs.declared.fault.Fault.{Fault}
use Rattle.disco_instance.specs.Row.{Row}
use Rattle.disco_follow.specs.Changes.{InstanceChange}
use Rattle.disco_follow.specs.Names.{shown_name}
use Rattle.disco_follow.specs.declared.change.What.{What}
use Rattle.disco_follow.specs.declared.change.What.TheVariants as what

-- ` +APP/ID=STATUS` of an instance that came, ` ~APP/ID=STATUS` of one that changed, ` -APP/ID` of one that is gone
unfoldable pub change_text : What → Row → List ℕ
change_text what.Came r = codes " +" ++ shown_name r.key.app ++ codes "/" ++ shown_name r.key.id ++ codes "=" ++ status_name r.status
change_text what.Changed r = codes " ~" ++ shown_name r.key.app ++ codes "/" ++ shown_name r.key.id ++ codes "=" ++ status_name r.status
change_text what.Went r = codes " -" ++ shown_name r.key.app ++ codes "/" ++ shown_name r.key.id

-- the same, one behind another
abbrev pub changes_text : List InstanceChange → List ℕ
changes_text changes = flat_map (λ c. change_text c.0 c.1) changes

-- `copy RUN VERSION`, and the changes
unfoldable pub copy_text : ℕ → ℕ → List InstanceChange → List ℕ
copy_text run version changes = codes "copy " ++ decimal run ++ codes " " ++ decimal version ++ changes_text changes ++ codes "\n"

-- ` HOST:PORT`
unfoldable pub reached_at : Row → List ℕ
reached_at r = codes " " ++ shown_name r.host_name ++ codes ":" ++ decimal r.port.number

-- `vip VIP`, and where these instances are reached
unfoldable pub vip_text : List ℕ → List Row → List ℕ
vip_text vip up = codes "vip " ++ shown_name vip ++ flat_map reached_at up ++ codes "\n"

-- `fault N`
unfoldable pub fault_text : Fault → List ℕ
fault_text fault = codes "fault " ++ decimal (fault_number fault) ++ codes "\n"
