-- What documents make of clients' copies, plain and certified (this project's own rule).
use Rattle.std.specs.Prelude.{◌≡◌, ℕ, ◌==◌, ◌&&◌, Bool, List, [], map, not, if◌then◌else◌, Option, Some, None, option_and_then, option_map, Ok}
use Rattle.std.specs.Option.{option_map_or}
use Rattle.std.specs.Result.{result_ok}
use Rattle.std.specs.FinMap.{FinMap, values}
use Rattle.disco_values.specs.Key.{key_cmp}
use Rattle.disco_instance.specs.Row.{Row}
use Rattle.disco_history.specs.Mentions.{copied, overlay}
use Rattle.disco_wire.specs.Documents.{document_of}
use Rattle.disco_wire.specs.Meaning.{Meaning}
use Rattle.disco_values.specs.Query.{is_delta}
use Rattle.disco_cache.specs.Payloads.{cert_of}
use Rattle.disco_cache.specs.declared.payload.Payload.{Payload}
use Rattle.disco_client.specs.Copies.{hash_equal}
use Rattle.disco_client.specs.Tracks.{gives_way, known_at, moved, reaches, same_form}
use Rattle.disco_client.specs.declared.certified.CertifiedCopy.{CertifiedCopy}
use Rattle.disco_client.specs.declared.known.Known.{Known}
use Rattle.disco_world.specs.declared.clients.Client.{Client}
use Rattle.disco_world.specs.declared.instance_summary.InstanceSummary.{InstanceSummary}

-- what a document makes of the records of a copy, if there is one: one of all apps replaces them, and a delta is overlaid on those that are there
abbrev pub rows_by : Payload → Option (FinMap key_cmp Row) → Option (FinMap key_cmp Row)
rows_by d held = option_and_then (λ m. if is_delta d.key.query then option_map (λ s. overlay s m.mentions) held else Some (copied m.mentions))
    (result_ok (document_of d.text))

-- where the copy of a plain client is known after a document
abbrev pub known_by : Payload → Option Client → Option Known
known_by d held = if is_delta d.key.query then option_and_then (λ c. moved c.known d.key.form (cert_of d)) held else Some (known_at d.key.form (cert_of d))

-- a plain client after it took a document, as before where the document makes no records
abbrev pub client_after : Payload → Option Client → Option Client
client_after d held = option_map_or (λ s. Some (record { copy = s; known = known_by d held })) (rows_by d (option_map (λ c. c.copy) held)) held

-- the reply to a document for a plain client: whether the hash codes are equal, and the version at which the copy is
-- known
abbrev pub IsTakenReply : Payload → Option Client → Bool → Option ℕ → Type 0
IsTakenReply d now equal version = (m : Meaning) × (c : Client) × (document_of d.text ≡ Ok m) × (now ≡ Some c) × (equal ≡ hash_equal m.hash c.copy)
    × (version ≡ option_map (λ at. at.version) c.known)

-- a certified client takes a document of all apps where it has no copy, or one that gives way to it; and a delta of its copy's form that reaches it
abbrev pub takes_it : Payload → Option CertifiedCopy → Bool
takes_it d None = not (is_delta d.key.query)
takes_it d (Some k) = if is_delta d.key.query then same_form k.known.form d.key.form && reaches (cert_of d) k.known else gives_way (cert_of d) k.known

-- a certified client after it was given a document, as before where it doesn't take it or the document makes no records
abbrev pub given : Payload → Option CertifiedCopy → Option CertifiedCopy
given d held = option_map_or (λ s. if takes_it d held then Some (record { copy = s; known = known_at d.key.form (cert_of d) }) else held)
    (rows_by d (option_map (λ k. k.copy) held)) held

-- the reply to a document for a certified client: whether it was taken, and the run and the version of the copy then
abbrev pub IsGiven : Payload → Option CertifiedCopy → Bool → ℕ → ℕ → Type 0
IsGiven d held taken run version = (k : CertifiedCopy) × (given d held ≡ Some k) × (taken ≡ takes_it d held) × (run ≡ k.known.run)
    × (version ≡ k.known.version)

-- all clients after one of them has that
abbrev pub with_one : {A : Type 0} → (ℕ → Option A) → ℕ → Option A → ℕ → Option A
with_one clients c now q = if q == c then now else clients q

-- what is shown of a copy: each instance's key and status, by key
abbrev pub summaries : Option (FinMap key_cmp Row) → List InstanceSummary
summaries copy = option_map_or (λ s. map (λ r. record { key = r.key; status = r.status }) (values s)) copy []
