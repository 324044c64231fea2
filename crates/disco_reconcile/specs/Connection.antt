-- Fetches over one connection.
use Rattle.std.specs.Prelude.{◌≡◌, ◌⊎◌, ℕ, Bool, IsTrue, true, false, List, [], ◌++◌, Option, Some, Result, Ok, Err, IfSome, codes}
use Rattle.std.specs.Io.KnownBytes.{Appends}
use Rattle.disco_values.specs.declared.fault.Fault.{Fault}
use Rattle.disco_values.specs.declared.fault.Fault.TheVariants.{NotFetched, ReadFailed, WriteFailed}
use Rattle.disco_values.specs.declared.form.Form.{Form}
use Rattle.disco_values.specs.declared.form.Form.TheVariants.{Full, Compact}
use Rattle.disco_message.specs.Certificate.{certificate_of}
use Rattle.disco_message.specs.Received.{Received}
use Rattle.disco_message.specs.declared.limits.Limits.{Limits}
use Rattle.disco_values.specs.Query.{is_delta}
use Rattle.disco_values.specs.declared.doc_key.DocKey.{DocKey}
use Rattle.disco_http.specs.Causes.{Raises, is_of_reply}
use Rattle.disco_http.specs.Replies.{HasNoReply, ReplyRefused, TakesReply}
use Rattle.disco_http.specs.Streams as stream
use Rattle.disco_http.specs.declared.reader.Reader.{Reader}
use Rattle.disco_http.specs.Sinks.{sink_of}
use Rattle.disco_http.specs.Sinks as sinks
use Rattle.disco_http.specs.declared.writer.Writer.{Writer}
use Rattle.disco_reconcile.specs.declared.fetch.Fetched.{Fetched}
use Rattle.disco_reconcile.specs.declared.http_fetch.HttpFetch.{HttpFetch}

-- what follows the path of all apps in that of the delta
abbrev pub path_end : Bool → List ℕ
path_end true = codes "/delta"
path_end false = []

abbrev pub form_name : Form → List ℕ
form_name Full = codes "full"
form_name Compact = codes "compact"

-- the request for a document (Eureka's REST operations, RFC 9112)
unfoldable pub request_text : Bool → Form → List ℕ
request_text delta f = codes "GET /eureka/v2/apps" ++ path_end delta ++ codes " HTTP/1.1\r\nHost: localhost\r\nX-Eureka-Accept: "
    ++ form_name f ++ codes "\r\n\r\n"

-- its reader and its writer, how often it has failed, and whether nothing more is fetched
abbrev pub reader_of : {R W : Type 0} → HttpFetch R W → Reader R
reader_of h = h.reader

abbrev pub writer_of : {R W : Type 0} → HttpFetch R W → Writer W
writer_of h = h.writer

abbrev pub failures_of : {R W : Type 0} → HttpFetch R W → ℕ
failures_of h = h.failures

abbrev pub is_fetch_spent : {R W : Type 0} → HttpFetch R W → Bool
is_fetch_spent h = h.spent

-- what was fetched is the reply at the front of what stands ahead, and the rest stays ahead; it says whether more can be fetched
pub record IsFetchedReply (limits : Limits) (x : Fetched) (stream : List ℕ) (left : Option (List ℕ)) (spent : Bool) : Type 0 where
  pub says : Received
  pub rest : List ℕ
  pub takes : TakesReply limits stream says x.body rest
  pub status : x.status ≡ says.status
  pub cert : x.cert ≡ certificate_of says.fields
  pub ahead : left ≡ Some rest
  pub closes : spent ≡ says.closes

-- why a fetch fails, and as what: nothing more was to be fetched, read or written, a write failed, or no reply stands ahead
abbrev pub Fails : {R W : Type 0} → (R → Option (List ℕ)) → (W → ℕ) → HttpFetch R W → Fault → HttpFetch R W → Type 0
Fails remaining failed old fault new =
    ((is_fetch_spent old ≡ true) × (fault ≡ NotFetched))
    ⊎ (((stream.is_spent (reader_of old) ≡ true) × (fault ≡ NotFetched))
    ⊎ (((sinks.is_writer_spent (writer_of old) ≡ true) × (fault ≡ NotFetched))
    ⊎ (((fault ≡ WriteFailed) × Raises (failed (sink_of (writer_of old))) (failed (sink_of (writer_of new))))
    ⊎ (IsTrue (is_of_reply fault) × IfSome (stream.ahead remaining (reader_of old)) (ReplyRefused (stream.reader_limits (reader_of old)) fault)))))

-- a failed read raised the count of the source, or found it at its end, and what had come holds no whole reply, but for one that goes on to the end
-- of the input
abbrev pub BreaksOff : {R W : Type 0} → (R → Option (List ℕ)) → (R → ℕ) → HttpFetch R W → Fault → HttpFetch R W → Type 0
BreaksOff remaining failed old fault new =
    fault ≡ ReadFailed → Raises (failed (stream.source_of (reader_of old))) (failed (stream.source_of (reader_of new)))
    × IfSome (stream.ahead remaining (reader_of old)) (λ bytes.
    stream.Came (HasNoReply (stream.reader_limits (reader_of old))) bytes (remaining (stream.source_of (reader_of new))))

-- the request was written and the reply taken, on a connection that isn't spent
pub record Fetches {R W : Type 0} (remaining : R → Option (List ℕ)) (contents : W → Option (List ℕ)) (old : HttpFetch R W) (k : DocKey)
    (x : Fetched) (new : HttpFetch R W) : Type 0 where
  pub unspent : is_fetch_spent old ≡ false
  pub asked : Appends (contents (sink_of (writer_of old))) (contents (sink_of (writer_of new))) (request_text (is_delta k.query) k.form)
  pub reply : IfSome (stream.ahead remaining (reader_of old)) (λ bytes.
      IsFetchedReply (stream.reader_limits (reader_of old)) x bytes (stream.ahead remaining (reader_of new)) (is_fetch_spent new))
  pub limits : stream.reader_limits (reader_of new) ≡ stream.reader_limits (reader_of old)
  pub count : failures_of new ≡ failures_of old

-- what a fetch comes to; one that fails spends the connection
abbrev pub FetchesBy : {R W : Type 0} → (R → Option (List ℕ)) → (R → ℕ) → (W → Option (List ℕ)) → (W → ℕ) → HttpFetch R W → DocKey → Result Fetched Fault
    → HttpFetch R W → Type 0
FetchesBy remaining read_failed contents write_failed old k (Ok x) new = Fetches remaining contents old k x new
FetchesBy remaining read_failed contents write_failed old k (Err e) new = (is_fetch_spent new ≡ true) × Fails remaining write_failed old e new
    × BreaksOff remaining read_failed old e new
