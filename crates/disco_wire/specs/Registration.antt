-- What a registration says (Eureka's POST /apps/{app}; which members are required is this project's own rule).
use Rattle.std.specs.Prelude.{ℕ, List, codes, is_some, ◌&&◌, not, if◌then◌else◌, Option, Some, None, Result, Err}
use Rattle.std.specs.Option.{ok_or, option_map_or}
use Rattle.serde_json.specs.Data.{Data}
use Rattle.disco_instance.specs.Instance.{if_ok, told_by}
use Rattle.disco_instance.specs.Members.{inner_at, non_empty_at}
use Rattle.disco_instance.specs.Row.{Row}
use Rattle.disco_values.specs.declared.fault.Fault.{Fault}
use Rattle.disco_values.specs.declared.fault.Fault.TheVariants.{BadJson, MissingField}
use Rattle.disco_values.specs.declared.fault.Field.{Field}
use Rattle.disco_values.specs.declared.fault.Field.TheVariants as fields
use Rattle.disco_wire.specs.Tree.{json_of, object_at}

-- the first required member of an instance that is absent or empty; the host's name may stand for the id
abbrev pub missing_in : Data → Option Field
missing_in d =
    let has_host = is_some (non_empty_at (codes "hostName") d) in
    if not has_host && not (is_some (non_empty_at (codes "instanceId") d)) then Some fields.InstanceId else (
    if not has_host then Some fields.HostName else (
    if not (is_some (non_empty_at (codes "ipAddr") d)) then Some fields.IpAddr else (
    if not (is_some (non_empty_at (codes "app") d)) then Some fields.App else (
    if not (is_some (non_empty_at (codes "name") (inner_at (codes "dataCenterInfo") d))) then Some fields.DataCenterInfo else None))))

-- the record of a tree's member `instance`, an object, where nothing is missing
abbrev pub registration_in : Data → Result Row Fault
registration_in d = if_ok (ok_or (object_at (codes "instance") d) BadJson) (λ i.
    option_map_or (λ field. Err (MissingField field)) (missing_in i) (told_by None i))

-- the record of the bytes of a registration, or why there is none
abbrev pub registration_of : List ℕ → Result Row Fault
registration_of bytes = if_ok (json_of bytes) registration_in
