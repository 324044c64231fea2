-- Which document is asked for, and why it isn't served.
use Rattle.std.specs.Prelude.{ℕ, Bool, true, List, if◌then◌else◌, Option, Some, None, option_map, Result, Ok, Err}
use Rattle.std.specs.Option.{ok_or, option_map_or}
use Rattle.disco_instance.specs.Instance.{if_ok}
use Rattle.disco_instance.specs.Row.{Row}
use Rattle.disco_values.specs.declared.fault.Fault.{Fault}
use Rattle.disco_values.specs.declared.fault.Fault.TheVariants.{DeltaDisabled, NotFound}
use Rattle.disco_values.specs.declared.form.Form.{Form}
use Rattle.disco_values.specs.declared.key.Key.{Key}
use Rattle.disco_history.specs.Change.{Entry}
use Rattle.disco_history.specs.Query.{by_id, is_absent}
use Rattle.disco_history.specs.Registry.{registry_of}
use Rattle.disco_values.specs.declared.doc_key.DocKey.{DocKey}
use Rattle.disco_wire.specs.Documents.{asked_by}
use Rattle.disco_values.specs.Query.{is_delta}
use Rattle.disco_values.specs.declared.query.Query.{Query}
use Rattle.disco_values.specs.declared.query.Query.TheVariants as queries

-- why a document isn't served after a history, if it isn't, where deltas are on or off
abbrev pub refusal_of : Bool → Query → List Entry → Option Fault
refusal_of on q h = if is_delta q then (if on then None else Some DeltaDisabled) else (if is_absent (registry_of h) (asked_by q) then Some NotFound else None)

abbrev pub doc_of_key : Key → Form → DocKey
doc_of_key k f = record { query = queries.Instance k; form = f }

-- the document of a key after a history, or why it isn't served, where deltas are on or off
abbrev pub loaded : Bool → DocKey → List Entry → Result DocKey Fault
loaded on k h = option_map_or (λ e. Err e) (refusal_of on k.query h) (Ok k)

-- that of the instance of an id
abbrev pub loaded_by_id : List ℕ → Form → List Entry → Result DocKey Fault
loaded_by_id id f h = if_ok (ok_or (by_id (registry_of h) id) NotFound) (λ r. loaded true (doc_of_key r.key f) h)

-- the document of the instance of an id after a history, if there is one
abbrev pub doc_of_id : List ℕ → Form → List Entry → Option DocKey
doc_of_id id f h = option_map (λ r. doc_of_key r.key f) (by_id (registry_of h) id)

abbrev pub refusal_by : Option Row → List Entry → Option Fault
refusal_by held h = option_map_or (λ r. refusal_of true (queries.Instance r.key) h) held (Some NotFound)

-- why it isn't served
abbrev pub refusal_of_id : List ℕ → List Entry → Option Fault
refusal_of_id id h = refusal_by (by_id (registry_of h) id) h
