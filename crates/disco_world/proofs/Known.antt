-- Copies that are known at a version of a run, and documents that are true of a version of their run.
use Rattle.std.proofs.Common.{◌≡◌, ℕ, ◌≤◌, Bool, true, false, cond, List, [], ◌∷◌, ◌++◌, length, map, take, Option, Some, None, option_and_then, option_map, Result, Ok, refl, sym, ap, subst, ◌∙◌, arith}
use Rattle.std.proofs.lemmas.Option.{same_Some}
use Rattle.std.specs.FinMap.{FinMap, values}
use Rattle.std.specs.Option.{option_map_or}
use Rattle.std.specs.Result.{result_ok}
use Rattle.disco_values.specs.Key.{key_cmp}
use Rattle.disco_values.specs.declared.fault.Fault.{Fault}
use Rattle.disco_instance.specs.Row.{Row}
use Rattle.disco_history.specs.Change.{Entry, prefix}
use Rattle.disco_history.specs.Forms.{in_form}
use Rattle.disco_history.specs.Mentions.{copied, delta, mention_of, overlay}
use Rattle.disco_history.specs.Registry.{registry_of}
use Rattle.disco_history.proofs.FormLemmas.{copied_formed, overlay_formed}
use Rattle.disco_history.proofs.Overlays.{copy_law, overlay_law}
use Rattle.std.proofs.lemmas.List.{length-append, take-append-le, take-take, take_all}
use Rattle.disco_history.specs.Query.{all}
use Rattle.disco_history.proofs.Restrictions.{values-said_all}
use Rattle.disco_wire.specs.Documents.{document_of, IsTrueFor, MeansFor, meaning_for, mentioned, kind}
use Rattle.disco_wire.specs.Meaning.{Meaning}
use Rattle.disco_values.specs.Query.{is_delta}
use Rattle.disco_wire.specs.Rows.{mentions_in}
use Rattle.disco_values.specs.declared.query.Query.{Query}
use Rattle.disco_values.specs.declared.query.Query.TheVariants as query
use Rattle.disco_cache.specs.Payloads.{IsTruePayload, cert_of}
use Rattle.disco_cache.specs.declared.payload.Payload.{Payload}
use Rattle.disco_client.specs.Tracks.{Histories, IsVersionIn, known_at, moved}
use Rattle.disco_client.specs.declared.known.Known.{Known}
use Rattle.disco_client.proofs.KnownVersions.{Moves, moves}
use Rattle.disco_world.specs.Clients.{client_after}
use Rattle.disco_world.specs.Events.{for_clients}
use Rattle.disco_world.specs.Steps.{IsReadable}
use Rattle.disco_world.specs.declared.clients.Client.{Client}

-- ---- versions of a history that goes on

pub record Extends (h g : List Entry) : Type 0 where
  pub longer : length h ≤ length g
  pub begins : take (length h) g ≡ h

pub extends_same : (h : List Entry) → Extends h h
extends_same h = record { longer = omega arith; begins = take_all (length h) h (omega arith) }

pub extends_more : (h : List Entry) (c : Entry) → Extends h (h ++ c ∷ [])
extends_more h c = record { longer = omega (arith, length-append h (c ∷ [])); begins = take-append-le (length h) h (c ∷ []) (omega arith) ∙ take_all (length h) h (omega arith) }

pub extends_on : (h g f : List Entry) → Extends h g → Extends g f → Extends h f
extends_on h g f one two = record {
  longer = omega (arith, one.longer, two.longer);
  begins = sym (take-take (length h) (length g) f one.longer) ∙ ap (take (length h)) two.begins ∙ one.begins;
}

same_version : (h g : List Entry) (v : ℕ) → Extends h g → v ≤ length h → prefix g v ≡ prefix h v
same_version h g v ext le = sym (take-take v (length h) g le) ∙ ap (take v) ext.begins

-- each run's history goes on
abbrev pub Grow : Histories → Histories → Type 0
Grow hs gs = (r : ℕ) → Extends (hs r) (gs r)

pub at_on : (h g : List Entry) (k : Known) (s : FinMap key_cmp Row) → Extends h g → IsVersionIn h k s → IsVersionIn g k s
at_on h g k s ext so = (omega (arith, so.0, ext.longer), so.1 ∙ ap (λ x. in_form k.form (registry_of x)) (sym (same_version h g k.version ext so.0)))

-- a copy that is known at a version of a run is exactly that version of the run's history, in its form
abbrev pub MeansVersion : Histories → Client → Type 0
MeansVersion hs c = (at : Known) → c.known ≡ Some at → IsVersionIn (hs at.run) at c.copy

pub means_on : (hs gs : Histories) (c : Client) → Grow hs gs → MeansVersion hs c → MeansVersion gs c
means_on hs gs c grow means = λ at is. at_on (hs at.run) (gs at.run) at c.copy (grow at.run) (means at is)

-- the history of its run as far as a document's version
abbrev pub seen_by : Histories → Payload → List Entry
seen_by hs d = prefix (hs d.run) d.version

-- a document that a client can take, true of a version of its run's history
pub record IsOf (hs : Histories) (d : Payload) : Type 0 where
  pub inside : d.version ≤ length (hs d.run)
  pub true_then : IsTrueFor d.key.query d.text d.base d.version d.key.form (seen_by hs d)
  pub kind : for_clients d.key.query ≡ true

pub of_on : (hs gs : Histories) (d : Payload) → Grow hs gs → IsOf hs d → IsOf gs d
of_on hs gs d grow is = record {
  inside = omega (arith, is.inside, (grow d.run).longer);
  true_then = subst (IsTrueFor d.key.query d.text d.base d.version d.key.form) (sym (same_version (hs d.run) (gs d.run) d.version (grow d.run) is.inside)) is.true_then;
  kind = is.kind;
}

-- a document that a client can take is of now
is_of_now : (q : Query) → for_clients q ≡ true → (kind q).kept ≡ false
is_of_now query.Apps e = refl
is_of_now query.Delta e = refl
is_of_now (query.App name) e = absurd (cc)
is_of_now (query.Vip vip) e = absurd (cc)
is_of_now (query.Svip svip) e = absurd (cc)
is_of_now (query.Instance key) e = absurd (cc)

whole_now : (hs : Histories) (d : Payload) (h : List Entry) → hs d.run ≡ h → IsTrueFor d.key.query d.text d.base d.version d.key.form h → for_clients d.key.query ≡ true → IsOf hs d
whole_now hs d h here is kind =
    let version : d.version ≡ length h = is.means.now (is_of_now d.key.query kind) in record {
      inside = omega (arith, version, ap length here);
      true_then = subst (IsTrueFor d.key.query d.text d.base d.version d.key.form) (sym (ap (λ n. take n (hs d.run)) version ∙ ap (take (length h)) here ∙ take_all (length h) h (omega arith))) is;
      kind = kind;
    }

pub of_now : (hs : Histories) (run : ℕ) (h : List Entry) (d : Payload) → hs run ≡ h → IsTruePayload run d h → for_clients d.key.query ≡ true → IsOf hs d
of_now hs run h d here is kind = whole_now hs d h (ap hs is.0 ∙ here) is.1 kind

-- ---- what such a document means

all_apps : (q : Query) → for_clients q ≡ true → is_delta q ≡ false → q ≡ query.Apps
all_apps query.Apps e f = refl
all_apps query.Delta e f = absurd (cc)
all_apps (query.App name) e f = absurd (cc)
all_apps (query.Vip vip) e f = absurd (cc)
all_apps (query.Svip svip) e f = absurd (cc)
all_apps (query.Instance key) e f = absurd (cc)

changes_alone : (q : Query) → is_delta q ≡ true → q ≡ query.Delta
changes_alone query.Apps e = absurd (cc)
changes_alone query.Delta e = refl
changes_alone (query.App name) e = absurd (cc)
changes_alone (query.Vip vip) e = absurd (cc)
changes_alone (query.Svip svip) e = absurd (cc)
changes_alone (query.Instance key) e = absurd (cc)

true_of : (hs : Histories) (d : Payload) (q : Query) → IsOf hs d → d.key.query ≡ q → MeansFor q d.text d.base d.version d.key.form (seen_by hs d)
true_of hs d q is same = subst (λ q. MeansFor q d.text d.base d.version d.key.form (seen_by hs d)) same is.true_then.means

true_full : (hs : Histories) (d : Payload) → IsOf hs d → is_delta d.key.query ≡ false → MeansFor query.Apps d.text d.base d.version d.key.form (seen_by hs d)
true_full hs d is full = true_of hs d query.Apps is (all_apps d.key.query is.kind full)

true_delta : (hs : Histories) (d : Payload) → IsOf hs d → is_delta d.key.query ≡ true → MeansFor query.Delta d.text d.base d.version d.key.form (seen_by hs d)
true_delta hs d is kind = true_of hs d query.Delta is (changes_alone d.key.query kind)

-- its meaning, as a document of a query
abbrev pub meaning_at : Histories → Payload → Query → Meaning
meaning_at hs d q = meaning_for q d.key.form (seen_by hs d) d.base d.version

pub means_full : (hs : Histories) (d : Payload) → IsOf hs d → is_delta d.key.query ≡ false → document_of d.text ≡ Ok (meaning_at hs d query.Apps)
means_full hs d is full = (true_full hs d is full).meaning

pub means_delta : (hs : Histories) (d : Payload) → IsOf hs d → is_delta d.key.query ≡ true → document_of d.text ≡ Ok (meaning_at hs d query.Delta)
means_delta hs d is delta = (true_delta hs d is delta).meaning

pub readable : (hs : Histories) (d : Payload) → IsOf hs d → IsReadable d
readable hs d is = by (is_delta d.key.query) refl
  where
    by : (b : Bool) → is_delta d.key.query ≡ b → IsReadable d
    by true e = (_, (means_delta hs d is e, refl))
    by false e = (_, (means_full hs d is e, refl))

-- a document of all apps makes the records of its version
pub full_at : (hs : Histories) (d : Payload) → IsOf hs d → is_delta d.key.query ≡ false → IsVersionIn (hs d.run) (known_at d.key.form (cert_of d)) (copied (meaning_at hs d query.Apps).mentions)
full_at hs d is full =
    let f = d.key.form in
    let g = seen_by hs d in
    (is.inside, copied_formed f (map mention_of (mentioned all g)) ∙ ap (λ es. in_form f (copied (map mention_of es))) (values-said_all g) ∙ ap (in_form f) (copy_law g))

-- a delta that reaches records makes of them those of its version
pub delta_at : (hs : Histories) (d : Payload) (k at : Known) (s : FinMap key_cmp Row) → IsOf hs d → is_delta d.key.query ≡ true → IsVersionIn (hs k.run) k s → Moves k d.key.form (cert_of d) at
    → IsVersionIn (hs d.run) (known_at d.key.form (cert_of d)) (overlay s (meaning_at hs d query.Delta).mentions)
delta_at hs d k at s is kind so m =
    let f = d.key.form in
    let g = seen_by hs d in
    let t = true_delta hs d is kind in
    let es = values (delta g d.base) in
    let here : IsVersionIn (hs d.run) k s = subst (λ r. IsVersionIn (hs r) k s) (sym m.reaches.run) so in
    let there : s ≡ in_form f (registry_of (prefix g k.version)) =
    here.1 ∙ ap (λ f. in_form f (registry_of (prefix (hs d.run) k.version))) m.form ∙ ap (λ x. in_form f (registry_of x)) (sym (take-take k.version d.version (hs d.run) m.reaches.below)) in
    let within : k.version ≤ length g = omega (arith, m.reaches.below, t.now refl) in
    (is.inside, ap (λ s. overlay s (mentions_in f es)) there ∙ overlay_formed f (registry_of (prefix g k.version)) (map mention_of es) ∙ ap (in_form f) (overlay_law g d.base k.version m.reaches.above within))

-- ---- plain clients

-- a client after it took a document that means that
abbrev pub taken_by : Bool → Payload → Meaning → Option Client → Option Client
taken_by delta d m held = cond delta (option_map (λ (c : Client). record { copy = overlay c.copy m.mentions; known = moved c.known d.key.form (cert_of d) }) held) (Some (record { copy = copied m.mentions; known = Some (known_at d.key.form (cert_of d)) }))

-- the records by a document that means that, if it means something
abbrev pub rows_from : Bool → Result Meaning Fault → Option (FinMap key_cmp Row) → Option (FinMap key_cmp Row)
rows_from delta r held = option_and_then (λ m. cond delta (option_map (λ s. overlay s m.mentions) held) (Some (copied m.mentions))) (result_ok r)

abbrev taken_from : Bool → Payload → Result Meaning Fault → Option Client → Option Client
taken_from delta d r held = option_map_or (λ s. Some (record { copy = s; known = cond delta (option_and_then (λ (c : Client). moved c.known d.key.form (cert_of d)) held) (Some (known_at d.key.form (cert_of d))) })) (rows_from delta r (option_map (λ (c : Client). c.copy) held)) held

taken_so : (d : Payload) (held : Option Client) (b : Bool) (m : Meaning) → taken_from b d (Ok m) held ≡ taken_by b d m held
taken_so d held false m = refl
taken_so d None true m = refl
taken_so d (Some c) true m = refl

pub taken_is : (d : Payload) (held : Option Client) (b : Bool) (m : Meaning) → is_delta d.key.query ≡ b → document_of d.text ≡ Ok m → client_after d held ≡ taken_by b d m held
taken_is d held b m kind means = (λ i. taken_from (kind i) d (means i) held) ∙ taken_so d held b m

same_known : (c : Client) (s : FinMap key_cmp Row) (at now : Known) → c ≡ record { copy = s; known = Some now } → c.known ≡ Some at → now ≡ at
same_known c s at now e is = same_Some now at (sym (ap (λ (c : Client). c.known) e) ∙ is)

pub full_means : (hs : Histories) (d : Payload) (held : Option Client) (c : Client) → IsOf hs d → is_delta d.key.query ≡ false → client_after d held ≡ Some c → MeansVersion hs c
full_means hs d held c is full takes = λ at known.
    let m = meaning_at hs d query.Apps in
    let now : Known = known_at d.key.form (cert_of d) in
    let e : c ≡ record { copy = copied m.mentions; known = Some now } = same_Some _ _ (sym takes ∙ taken_is d held false m full (means_full hs d is full)) in
    let so : IsVersionIn (hs d.run) now c.copy = subst (IsVersionIn (hs d.run) now) (sym (ap (λ (c : Client). c.copy) e)) (full_at hs d is full) in
    subst (λ (k : Known). IsVersionIn (hs k.run) k c.copy) (same_known c (copied m.mentions) at now e known) so

pub delta_means : (hs : Histories) (d : Payload) (held : Option Client) (c : Client) → IsOf hs d → is_delta d.key.query ≡ true → ((o : Client) → held ≡ Some o → MeansVersion hs o) → client_after d held ≡ Some c → MeansVersion hs c
delta_means hs d None c is kind means takes = absurd (let bad = sym takes ∙ taken_is d None true (meaning_at hs d query.Delta) kind (means_delta hs d is kind) in cc)
delta_means hs d (Some old) c is kind means takes = λ at known.
    let m = meaning_at hs d query.Delta in
    let e : c ≡ record { copy = overlay old.copy m.mentions; known = moved old.known d.key.form (cert_of d) } = same_Some _ _ (sym takes ∙ taken_is d (Some old) true m kind (means_delta hs d is kind)) in
    by at (ap (λ (c : Client). c.copy) e) old.known refl (sym (ap (λ (c : Client). c.known) e) ∙ known)
  where
    by : (at : Known) → c.copy ≡ overlay old.copy (meaning_at hs d query.Delta).mentions → (o : Option Known) → old.known ≡ o → moved old.known d.key.form (cert_of d) ≡ Some at → IsVersionIn (hs at.run) at c.copy
    by at copy None none goes = absurd (let bad = ap (λ o. moved o d.key.form (cert_of d)) (sym none) ∙ goes in cc)
    by at copy (Some k) some goes =
        let m = moves k d.key.form (cert_of d) at (ap (λ o. moved o d.key.form (cert_of d)) (sym some) ∙ goes) in
        let so : IsVersionIn (hs d.run) (known_at d.key.form (cert_of d)) c.copy = subst (IsVersionIn (hs d.run) (known_at d.key.form (cert_of d))) (sym copy) (delta_at hs d k at old.copy is kind (means old refl k some) m) in
        subst (λ (k : Known). IsVersionIn (hs k.run) k c.copy) m.now so
