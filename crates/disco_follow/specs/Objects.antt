-- The output lines on a client's copy, as JSON objects (this project's own format).
use Rattle.std.specs.Prelude.{ℕ, List, ◌++◌, codes, map}
use Rattle.serde_json.specs.Data.{Data, array, member, no_members, number, object, string, unsigned}
use Rattle.serde_json.specs.View.{items_of}
use Rattle.serde_json.specs.Written.{compact_text}
use Rattle.disco_values.specs.Fault.{fault_number}
use Rattle.disco_values.specs.Status.{status_name}
use Rattle.disco_values.specs.declared.fault.Fault.{Fault}
use Rattle.disco_values.specs.declared.key.Key.{Key}
use Rattle.disco_instance.specs.Row.{Row}
use Rattle.disco_follow.specs.Changes.{InstanceChange}
use Rattle.disco_follow.specs.declared.change.What.{What}
use Rattle.disco_follow.specs.declared.change.What.TheVariants as what

-- of an instance that is held
abbrev pub held_data : List ℕ → Key → List ℕ → Data
held_data change key status =
    object (member (codes "app") (string key.app) (member (codes "change") (string change)
    (member (codes "id") (string key.id) (member (codes "status") (string status) no_members))))

-- of an instance that is gone
abbrev pub gone_data : Key → Data
gone_data key =
    object (member (codes "app") (string key.app) (member (codes "change") (string (codes "went"))
    (member (codes "id") (string key.id) no_members)))

abbrev pub change_data : What → Row → Data
change_data what.Came r = held_data (codes "came") r.key (status_name r.status)
change_data what.Changed r = held_data (codes "changed") r.key (status_name r.status)
change_data what.Went r = gone_data r.key

abbrev pub copy_data : ℕ → ℕ → List InstanceChange → Data
copy_data run version changes =
    object (member (codes "changes") (array (items_of (map (λ c. change_data c.0 c.1) changes)))
    (member (codes "run") (number (unsigned run)) (member (codes "version") (number (unsigned version)) no_members)))

-- where an instance is reached
abbrev pub reached_data : Row → Data
reached_data r = object (member (codes "host") (string r.host_name) (member (codes "port") (number (unsigned r.port.number)) no_members))

abbrev pub vip_data : List ℕ → List Row → Data
vip_data vip up =
    object (member (codes "up") (array (items_of (map reached_data up))) (member (codes "vip") (string vip) no_members))

abbrev pub fault_data : Fault → Data
fault_data fault = object (member (codes "fault") (number (unsigned (fault_number fault))) no_members)

-- the compact text of a value, and the end of the line
unfoldable pub object_line : Data → List ℕ
object_line d = compact_text d ++ codes "\n"
