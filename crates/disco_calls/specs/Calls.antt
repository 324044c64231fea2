-- What a request asks for, or why it is refused (Eureka's REST operations; the order of refusals is this project's own rule).
use Rattle.std.specs.Prelude.{ℕ, List, Result, Ok, Err, if◌then◌else◌, codes}
use Rattle.std.specs.Option.{ok_or}
use Rattle.std.specs.Str.{bytes_eq, is_utf8}
use Rattle.disco_values.specs.declared.doc_key.DocKey.{DocKey}
use Rattle.disco_values.specs.Text.{in_upper_case}
use Rattle.disco_values.specs.declared.fault.Fault.{Fault}
use Rattle.disco_values.specs.declared.fault.Fault.TheVariants.{BadMethod, BadRequest, BadStatus, NotAcceptable, NotFound}
use Rattle.disco_values.specs.declared.form.Form.{Form}
use Rattle.disco_values.specs.declared.key.Key.{Key}
use Rattle.disco_instance.specs.Instance.{if_ok}
use Rattle.disco_message.specs.RequestView.{RequestView}
use Rattle.disco_message.specs.declared.status_line.Allow.{Allow}
use Rattle.disco_registry.specs.Op.{OpView, op_view, cancel, renew, set_status, drop_status, add_metadata}
use Rattle.disco_calls.specs.Paths.{path_place}
use Rattle.disco_calls.specs.declared.place.Place.{Place}
use Rattle.disco_calls.specs.declared.place.Place.TheVariants as place
use Rattle.disco_wire.specs.Registration.{registration_of}
use Rattle.disco_values.specs.declared.query.Query.{Query}
use Rattle.disco_values.specs.declared.query.Query.TheVariants as query
use Rattle.disco_calls.specs.Accept.{form_of, takes_json}
use Rattle.disco_calls.specs.Decoding.{decoded}
use Rattle.disco_calls.specs.Methods.{allow_of, lists_method}
use Rattle.disco_calls.specs.Query.{path_in, query_in}
use Rattle.disco_operations.specs.Operations.{key_named, registers}
use Rattle.disco_operations.specs.Query.{entries_of_query, value_of}
use Rattle.disco_calls.specs.declared.call.Call.{Call}
use Rattle.disco_calls.specs.declared.call.Call.TheVariants as calls

-- what is asked for: a document that readers may share, that of an instance, that of the instance of an id, an operation, or nothing, since the path
-- has these methods alone
pub data CallView : Type 0 where
  loads : DocKey → CallView
  shows : Key → Form → CallView
  shows_id : List ℕ → Form → CallView
  writes : OpView → CallView
  lacks : Allow → CallView

-- a call as plain data
abbrev pub call_view : Call → CallView
call_view (calls.Load key) = loads key
call_view (calls.Instance key form) = shows key form
call_view (calls.ById id form) = shows_id id form
call_view (calls.Write op) = writes (op_view op)
call_view (calls.Lacks allow) = lacks allow

abbrev pub document : Query → Form → Result CallView Fault
document q form = Ok (loads (record { query = q; form = form }))

-- GET: the document of a place, in a form
abbrev pub read_of : Place (List ℕ) → Form → Result CallView Fault
read_of place.Apps form = document query.Apps form
read_of place.Delta form = document query.Delta form
read_of (place.App app) form = document (query.App (in_upper_case app)) form
read_of (place.Vip vip) form = document (query.Vip vip) form
read_of (place.Svip svip) form = document (query.Svip svip) form
read_of (place.Instance app id) form = Ok (shows (key_named app id) form)
read_of (place.Id id) form = Ok (shows_id id form)
read_of _ form = Err BadMethod

-- POST, with a registration as its body
abbrev pub post_of : Place (List ℕ) → List ℕ → Result OpView Fault
post_of (place.App app) body = registers app (registration_of body)
post_of _ body = Err BadMethod

-- PUT, with a query: a status that isn't given is none
abbrev pub put_call : Place (List ℕ) → List ℕ → Result OpView Fault
put_call (place.Instance app id) q = Ok (renew (key_named app id))
put_call (place.Status app id) q = if_ok (ok_or (value_of q) BadStatus) (λ v. Ok (set_status (key_named app id) v))
put_call (place.Metadata app id) q = Ok (add_metadata (key_named app id) (entries_of_query q))
put_call _ q = Err BadMethod

-- DELETE, with a query
abbrev pub delete_of : Place (List ℕ) → List ℕ → Result OpView Fault
delete_of (place.Instance app id) q = Ok (cancel (key_named app id))
delete_of (place.Status app id) q = Ok (drop_status (key_named app id) (value_of q))
delete_of _ q = Err BadMethod

abbrev pub writing : Result OpView Fault → Result CallView Fault
writing asked = if_ok asked (λ ask. Ok (writes ask))

-- GET: refused where the reader of a document takes XML alone
abbrev pub get_of : Place (List ℕ) → RequestView → Result CallView Fault
get_of place a = if takes_json a.fields then read_of place (form_of a.fields) else Err NotAcceptable

-- what a request with this query asks for at a place, by its method
abbrev pub call_by : Place (List ℕ) → RequestView → List ℕ → Result CallView Fault
call_by place a q =
    if bytes_eq a.method (codes "GET") then get_of place a
    else (if bytes_eq a.method (codes "POST") then writing (post_of place a.body)
    else (if bytes_eq a.method (codes "PUT") then writing (put_call place q)
    else (if bytes_eq a.method (codes "DELETE") then writing (delete_of place q) else Err BadMethod)))

-- the same at a place whose names are still encoded: the method is looked at first, then whether the names are text
abbrev pub called : Place (List ℕ) → RequestView → List ℕ → Result CallView Fault
called place a q = if lists_method (allow_of place) a.method then if_ok (ok_or (decoded place) BadRequest) (λ p. call_by p a q)
    else Ok (lacks (allow_of place))

-- what a request asks for, or why it is refused
abbrev pub call : RequestView → Result CallView Fault
call a = if is_utf8 (path_in a.target)
    then if_ok (ok_or (path_place (path_in a.target)) NotFound) (λ place. called place a (query_in a.target)) else Err BadRequest
