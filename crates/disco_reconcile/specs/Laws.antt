-- Laws for certified clients: an exact copy stays exact while histories go on, and what a server serves means what its
-- certificate says.
use Rattle.std.specs.Prelude.{◌≡◌, ℕ, false, List, ◌++◌, Option}
use Rattle.disco_values.specs.declared.form.Form.{Form}
use Rattle.disco_history.specs.Change.{Entry}
use Rattle.disco_wire.specs.Documents.{kind}
use Rattle.disco_cache.specs.Payloads.{IsTruePayload, cert_of}
use Rattle.disco_cache.specs.declared.payload.Payload.{Payload}
use Rattle.disco_client.specs.Tracks.{Histories}
use Rattle.disco_client.specs.declared.certified.CertifiedCopy.{CertifiedCopy}
use Rattle.disco_reconcile.specs.Tracked.{IsExact, MeansAt}

-- the history of each run goes on
abbrev pub GoOn : Histories → Histories → Type 0
GoOn hs later = (run : ℕ) → (more : List Entry) × (later run ≡ hs run ++ more)

-- a copy that is exact stays so while the histories go on
abbrev pub GrowthLaw : Type 0
GrowthLaw = (hs later : Histories) (f : Form) (held : Option CertifiedCopy) → GoOn hs later → IsExact hs f held → IsExact later f held

-- what a server serves of now, all apps or the delta, means what its certificate says while the history of its run goes on: what `IsExact` asks of
-- documents is what a server promises of them
abbrev pub ServedLaw : Type 0
ServedLaw = (hs : Histories) (run : ℕ) (d : Payload) (h more : List Entry) → IsTruePayload run d h → (kind d.key.query).kept ≡ false → hs run ≡ h ++ more
    → MeansAt hs d.key.query d.key.form (cert_of d) d.text
