-- Where a copy is known after a refresh, if the documents that were fetched mean what they have to.
use Rattle.std.specs.Prelude.{◌≡◌, ◌≤◌, ℕ, Bool, true, false, List, [], ◌∷◌, length, Option, Some, None, Ok, Err}
use Rattle.disco_values.specs.declared.cert.Cert.{Cert}
use Rattle.disco_values.specs.declared.form.Form.{Form}
use Rattle.disco_history.specs.Change.{prefix}
use Rattle.disco_wire.specs.Documents.{MeansFor}
use Rattle.disco_values.specs.Query.{is_delta}
use Rattle.disco_values.specs.declared.query.Query.{Query}
use Rattle.disco_client.specs.Tracks.{Histories, IsVersionIn, known_at, moved}
use Rattle.disco_client.specs.declared.certified.CertifiedCopy.{CertifiedCopy}
use Rattle.disco_client.specs.declared.known.Known.{Known}
use Rattle.disco_reconcile.specs.Courses.{Exchange}
use Rattle.disco_reconcile.specs.State.{CopyRows}
use Rattle.disco_reconcile.specs.Told.{FetchAnswer, ToldDocument}
use Rattle.disco_reconcile.specs.declared.fetch.Fetched.{Fetched}

-- the body means what was asked for at that version of the history of its run, however it is written
abbrev pub MeansAt : Histories → Query → Form → Cert → List ℕ → Type 0
MeansAt hs q f c body = (c.version ≤ length (hs c.run)) × MeansFor q body c.base c.version f (prefix (hs c.run) c.version)

-- the body of a fetch means that
abbrev pub IsGood : Histories → Form → Cert → Exchange → Type 0
IsGood hs f c x = (y : Fetched) → x.answer ≡ Ok y → MeansAt hs x.query f c y.body

-- ---- plain clients

-- each document that was fetched means what it has to where these say, which a client doesn't see
abbrev pub AreGood : Histories → Form → (Query → Cert) → List Exchange → Type 0
AreGood hs f names [] = Unit {0}
AreGood hs f names (x ∷ xs) = ((m : ToldDocument) → x.told ≡ Ok (Some m) → IsGood hs f (names x.query) x) × AreGood hs f names xs

abbrev pub known_by : Bool → Option Known → Form → Cert → Option Known
known_by true at f c = moved at f c
known_by false at f c = Some (known_at f c)

-- where a copy is known after an answer
abbrev pub known_after : Query → Option Known → Form → Cert → FetchAnswer → Option Known
known_after q at f c (Err e) = at
known_after q at f c (Ok None) = at
known_after q at f c (Ok (Some m)) = known_by (is_delta q) at f c

-- where it is known after all answers
abbrev pub tracked : Form → (Query → Cert) → Option Known → List Exchange → Option Known
tracked f names at [] = at
tracked f names at (x ∷ xs) = tracked f names (known_after x.query at f (names x.query) x.told) xs

-- a copy that is known at a version is that version of the history of its run; of one that is known nowhere nothing is said
abbrev pub Means : Histories → Option Known → Option CopyRows → Type 0
Means hs None held = Unit {0}
Means hs (Some k) None = ⊥
Means hs (Some k) (Some s) = IsVersionIn (hs k.run) k s

-- wherever the copy was known before, it is what it is known as after, where the documents mean what they have to
abbrev pub FollowsTracks : Form → Option CopyRows → List Exchange → Option CopyRows → Type 0
FollowsTracks f held log kept = (hs : Histories) (at : Option Known) (names : Query → Cert) → AreGood hs f names log → Means hs at held
    → Means hs (tracked f names at log) kept

-- ---- certified clients (this project's own rule)

-- each document that was fetched with a certificate means what it has to where that says
abbrev pub AreCertified : Histories → Form → List Exchange → Type 0
AreCertified hs f [] = Unit {0}
AreCertified hs f (x ∷ xs) = ((m : ToldDocument) (c : Cert) → x.told ≡ Ok (Some m) → m.cert ≡ Some c → IsGood hs f c x) × AreCertified hs f xs

-- a certified copy, where there is one, is exactly the version at which it is known of the history of its run, in the form that is asked for
abbrev pub IsExact : Histories → Form → Option CertifiedCopy → Type 0
IsExact hs f None = Unit {0}
IsExact hs f (Some k) = (k.known.form ≡ f) × IsVersionIn (hs k.known.run) k.known k.copy

-- a copy that was exact is exact afterwards, where the documents mean what their certificates say
abbrev pub StaysExact : Form → Option CertifiedCopy → List Exchange → Option CertifiedCopy → Type 0
StaysExact f held log kept = (hs : Histories) → AreCertified hs f log → IsExact hs f held → IsExact hs f kept

-- a client doesn't lose its copy, and while the copy's run stays, its version doesn't decrease
abbrev pub NeverFalls : Option CertifiedCopy → Option CertifiedCopy → Type 0
NeverFalls None kept = Unit {0}
NeverFalls (Some k) None = ⊥
NeverFalls (Some k) (Some l) = l.known.run ≡ k.known.run → k.known.version ≤ l.known.version
