-- Certified clients that are given documents: a copy that is exact stays so, and its version doesn't decrease.
use Rattle.std.proofs.Common.{◌≡◌, ◌≤◌, ◌&&◌, Bool, true, false, cond, not, Option, Some, None, option_map, Result, Ok, Err, refl, sym, ap, subst, ◌∙◌, arith}
use Rattle.std.proofs.lemmas.Option.{same_Some}
use Rattle.std.specs.Option.{option_map_or}
use Rattle.disco_values.specs.declared.fault.Fault.{Fault}
use Rattle.disco_history.specs.Mentions.{copied, overlay}
use Rattle.disco_wire.specs.Documents.{document_of}
use Rattle.disco_wire.specs.Meaning.{Meaning}
use Rattle.disco_values.specs.Query.{is_delta}
use Rattle.disco_values.specs.declared.query.Query.TheVariants as query
use Rattle.disco_cache.specs.Payloads.{cert_of}
use Rattle.disco_cache.specs.declared.payload.Payload.{Payload}
use Rattle.disco_client.specs.Tracks.{Histories, IsVersionIn, gives_way, known_at, reaches, same_form}
use Rattle.disco_client.specs.declared.certified.CertifiedCopy.{CertifiedCopy}
use Rattle.disco_client.proofs.KnownVersions.{Moves, moves, rises}
use Rattle.disco_world.specs.Clients.{IsGiven, given, takes_it}
use Rattle.disco_world.proofs.Known.{IsOf, delta_at, full_at, meaning_at, means_delta, means_full, rows_from}

-- a copy is exactly the version of its run's history at which it is known
abbrev pub IsExact : Histories → CertifiedCopy → Type 0
IsExact hs k = IsVersionIn (hs k.known.run) k.known k.copy

-- whether a document is taken, and what it makes then, where it is a delta and where it isn't
abbrev pub takes_by : Bool → Payload → Option CertifiedCopy → Bool
takes_by delta d None = not delta
takes_by delta d (Some k) = cond delta (same_form k.known.form d.key.form && reaches (cert_of d) k.known) (gives_way (cert_of d) k.known)

takes_is : (d : Payload) (held : Option CertifiedCopy) → takes_it d held ≡ takes_by (is_delta d.key.query) d held
takes_is d None = refl
takes_is d (Some k) = refl

-- a certified client after it was given a document that means that, if it means something
abbrev given_from : Bool → Bool → Payload → Result Meaning Fault → Option CertifiedCopy → Option CertifiedCopy
given_from takes delta d r held = option_map_or (λ s. cond takes (Some (record { copy = s; known = known_at d.key.form (cert_of d) })) held) (rows_from delta r (option_map (λ (k : CertifiedCopy). k.copy) held)) held

abbrev given_by : Bool → Payload → Meaning → Option CertifiedCopy → Option CertifiedCopy
given_by delta d m held = given_from (takes_by delta d held) delta d (Ok m) held

pub given_is : (d : Payload) (held : Option CertifiedCopy) (b : Bool) (m : Meaning) → is_delta d.key.query ≡ b → document_of d.text ≡ Ok m → given d held ≡ given_by b d m held
given_is d held b m kind means = (λ i. given_from (takes_is d held i) (is_delta d.key.query) d (document_of d.text) held) ∙ (λ i. given_from (takes_by (kind i) d held) (kind i) d (means i) held)

either : (hs : Histories) (made : CertifiedCopy) (held : Option CertifiedCopy) (k : CertifiedCopy) (b : Bool) → (b ≡ true → IsExact hs made) → ((o : CertifiedCopy) → held ≡ Some o → IsExact hs o) → cond b (Some made) held ≡ Some k → IsExact hs k
either hs made held k true so exact e = subst (IsExact hs) (same_Some _ _ e) (so refl)
either hs made held k false so exact e = exact k e

-- a delta that is taken moves where the copy is known
pub moves_it : (d : Payload) (k : CertifiedCopy) → (same_form k.known.form d.key.form && reaches (cert_of d) k.known) ≡ true → Moves k.known d.key.form (cert_of d) (known_at d.key.form (cert_of d))
moves_it d k test = moves k.known d.key.form (cert_of d) (known_at d.key.form (cert_of d)) (ap (λ b. cond b (Some (known_at d.key.form (cert_of d))) None) test)

delta_exact : (hs : Histories) (d : Payload) (held : Option CertifiedCopy) (k : CertifiedCopy) → IsOf hs d → is_delta d.key.query ≡ true → ((o : CertifiedCopy) → held ≡ Some o → IsExact hs o) → given_by true d (meaning_at hs d query.Delta) held ≡ Some k → IsExact hs k
delta_exact hs d None k is delta exact e = absurd (cc)
delta_exact hs d (Some o) k is delta exact e =
    either hs (record { copy = overlay o.copy (meaning_at hs d query.Delta).mentions; known = known_at d.key.form (cert_of d) }) (Some o) k (same_form o.known.form d.key.form && reaches (cert_of d) o.known)
    (λ test. delta_at hs d o.known (known_at d.key.form (cert_of d)) o.copy is delta (exact o refl) (moves_it d o test)) exact e

full_exact : (hs : Histories) (d : Payload) (held : Option CertifiedCopy) (k : CertifiedCopy) → IsOf hs d → is_delta d.key.query ≡ false → ((o : CertifiedCopy) → held ≡ Some o → IsExact hs o) → given_by false d (meaning_at hs d query.Apps) held ≡ Some k → IsExact hs k
full_exact hs d None k is full exact e = subst (IsExact hs) (same_Some _ _ e) (full_at hs d is full)
full_exact hs d (Some o) k is full exact e =
    either hs (record { copy = copied (meaning_at hs d query.Apps).mentions; known = known_at d.key.form (cert_of d) }) (Some o) k (gives_way (cert_of d) o.known) (λ _. full_at hs d is full) exact e

pub given_exact : (hs : Histories) (d : Payload) (held : Option CertifiedCopy) (k : CertifiedCopy) → IsOf hs d → ((o : CertifiedCopy) → held ≡ Some o → IsExact hs o) → given d held ≡ Some k → IsExact hs k
given_exact hs d held k is exact gets = by (is_delta d.key.query) refl
  where
    by : (b : Bool) → is_delta d.key.query ≡ b → IsExact hs k
    by true delta = delta_exact hs d held k is delta exact (sym (given_is d held true (meaning_at hs d query.Delta) delta (means_delta hs d is delta)) ∙ gets)
    by false full = full_exact hs d held k is full exact (sym (given_is d held false (meaning_at hs d query.Apps) full (means_full hs d is full)) ∙ gets)

-- ---- versions

-- it is a copy of this client, which didn't fall
abbrev pub Rises : CertifiedCopy → Option CertifiedCopy → Type 0
Rises k now = (l : CertifiedCopy) × (now ≡ Some l) × (l.known.run ≡ k.known.run → k.known.version ≤ l.known.version)

pub rises_alone : (k : CertifiedCopy) (now : Option CertifiedCopy) → now ≡ Some k → Rises k now
rises_alone k now is = (k, is, λ _. omega arith)

-- taken or not
rises_if : (k made : CertifiedCopy) (b : Bool) → (b ≡ true → made.known.run ≡ k.known.run → k.known.version ≤ made.known.version) → Rises k (cond b (Some made) (Some k))
rises_if k made true le = (made, refl, le refl)
rises_if k made false le = rises_alone k (Some k) refl

rises_by : (b : Bool) (d : Payload) (m : Meaning) (k : CertifiedCopy) → Rises k (given_by b d m (Some k))
rises_by false d m k = rises_if k (record { copy = copied m.mentions; known = known_at d.key.form (cert_of d) }) (gives_way (cert_of d) k.known) (λ gives run. rises (cert_of d) k.known gives run)
rises_by true d m k = rises_if k (record { copy = overlay k.copy m.mentions; known = known_at d.key.form (cert_of d) }) (same_form k.known.form d.key.form && reaches (cert_of d) k.known) (λ test run. (moves_it d k test).reaches.below)

rises_from : (d : Payload) (r : Result Meaning Fault) (k : CertifiedCopy) → document_of d.text ≡ r → Rises k (given d (Some k))
rises_from d (Ok m) k means = subst (Rises k) (sym (given_is d (Some k) (is_delta d.key.query) m refl means)) (rises_by (is_delta d.key.query) d m k)
rises_from d (Err e) k means = rises_alone k (given d (Some k)) (λ i. given_from (takes_it d (Some k)) (is_delta d.key.query) d (means i) (Some k))

pub given_rises : (d : Payload) (k : CertifiedCopy) → Rises k (given d (Some k))
given_rises d k = rises_from d (document_of d.text) k refl

-- ---- a first document, where there was no copy

module _ (d : Payload) (m : Meaning) (held : Option CertifiedCopy) (now : CertifiedCopy) (none : held ≡ None) (full : is_delta d.key.query ≡ false) where
  pub begins_copy : document_of d.text ≡ Ok m → now ≡ record { copy = copied m.mentions; known = known_at d.key.form (cert_of d) } → given d held ≡ Some now
  begins_copy means is = ap (given d) none ∙ given_is d None false m full means ∙ ap Some (sym is)

  pub is_begun : given d held ≡ Some now → IsGiven d held true now.known.run now.known.version
  is_begun made = (now, made, sym (ap (takes_it d) none ∙ ap not full), refl, refl)
