-- The numbers of faults, and the names of members that a registration needs.
use Rattle.std.specs.Prelude.{ℕ, List, codes}
use Rattle.disco_values.specs.declared.fault.Field.{Field}
use Rattle.disco_values.specs.declared.fault.Field.TheVariants as fields
use Rattle.disco_values.specs.declared.fault.Fault.{Fault}
use Rattle.disco_values.specs.declared.fault.Fault.TheVariants.{OutOfMemory, BadJson, MissingField, MismatchedApp, NotFound, BadStatus, VersionsSpent}
use Rattle.disco_values.specs.declared.fault.Fault.TheVariants.{TooManyInstances, DeltaDisabled, NotAcceptable, HeadTooLarge, BodyTooLarge}
use Rattle.disco_values.specs.declared.fault.Fault.TheVariants.{BadRequest, BadMethod, UnsupportedCoding, RoundOpen, NoRound, KeysLeft, BadDocument}
use Rattle.disco_values.specs.declared.fault.Fault.TheVariants.{ReadFailed, WriteFailed, NotFetched, BadEvent, RunNotNew}

-- the name of a member, as Eureka writes it
abbrev pub field_name : Field → List ℕ
field_name fields.InstanceId = codes "instanceId"
field_name fields.HostName = codes "hostName"
field_name fields.IpAddr = codes "ipAddr"
field_name fields.App = codes "app"
field_name fields.DataCenterInfo = codes "dataCenterInfo"

-- the number of a fault (this project's own rule)
abbrev pub fault_number : Fault → ℕ
fault_number OutOfMemory = 1
fault_number BadJson = 2
fault_number (MissingField field) = 3
fault_number MismatchedApp = 4
fault_number NotFound = 5
fault_number BadStatus = 6
fault_number VersionsSpent = 7
fault_number TooManyInstances = 8
fault_number DeltaDisabled = 9
fault_number NotAcceptable = 10
fault_number HeadTooLarge = 11
fault_number BodyTooLarge = 12
fault_number BadRequest = 13
fault_number BadMethod = 14
fault_number UnsupportedCoding = 15
fault_number RoundOpen = 16
fault_number NoRound = 17
fault_number KeysLeft = 18
fault_number BadDocument = 19
fault_number ReadFailed = 20
fault_number WriteFailed = 21
fault_number NotFetched = 22
fault_number (BadEvent line) = 23
fault_number RunNotNew = 24
