-- Clients that take documents.
use Rattle.std.proofs.Common.{◌≡◌, ℕ, Bool, true, false, cond, eqb, Option, Some, option_map, IsSome, refl, sym, ap, subst, ◌∙◌, arith}
use Rattle.std.specs.BTreeMap.{is_at}
use Rattle.std.specs.Ordering.{nat_cmp}
use Rattle.std.proofs.lemmas.Bool.Decides.{nat_tests}
use Rattle.disco_client.specs.Copies.{hash_equal}
use Rattle.disco_client.specs.Tracks.{known_at, moved}
use Rattle.disco_history.specs.Mentions.{copied, overlay}
use Rattle.disco_wire.specs.Meaning.{Meaning}
use Rattle.disco_values.specs.Query.{is_delta}
use Rattle.disco_cache.specs.Payloads.{cert_of}
use Rattle.disco_cache.specs.declared.payload.Payload.{Payload}
use Rattle.disco_world.specs.Clients.{IsTakenReply, client_after}
use Rattle.disco_world.specs.Steps.{IsMeant}
use Rattle.disco_world.specs.declared.clients.Client.{Client}
use Rattle.disco_world.proofs.Known.{taken_by, taken_is}

is_at_number : (c q : ℕ) → is_at (nat_cmp c) q ≡ eqb q c
is_at_number c q = grind (arith, nat_tests)

-- the client has that now, and each other client what it had
pub with_now : {A : Type 0} (old new : ℕ → Option A) (c : ℕ) (now : A) → ((q : ℕ) → new q ≡ cond (is_at (nat_cmp c) q) (Some now) (old q)) → (o : Option A) → o ≡ Some now → (q : ℕ) → new q ≡ cond (eqb q c) o (old q)
with_now old new c now updated o is = λ q. updated q ∙ ap (λ b. cond b (Some now) (old q)) (is_at_number c q) ∙ ap (λ x. cond (eqb q c) x (old q)) (sym is)

pub took_full : (d : Payload) (m : Meaning) (held : Option Client) (now : Client) → IsMeant d m → is_delta d.key.query ≡ false → now ≡ record { copy = copied m.mentions; known = Some (known_at d.key.form (cert_of d)) } → client_after d held ≡ Some now
took_full d m held now meant full e = taken_is d held false m full meant.0 ∙ ap (λ x. Some x) (sym e)

pub told_full : (d : Payload) (m : Meaning) (held : Option Client) (now : Client) (equal : Bool) → IsMeant d m → is_delta d.key.query ≡ false → now ≡ record { copy = copied m.mentions; known = Some (known_at d.key.form (cert_of d)) }
    → equal ≡ hash_equal m.hash now.copy → IsTakenReply d (client_after d held) equal (Some d.version)
told_full d m held now equal meant full e hash = (m, now, meant.0, took_full d m held now meant full e, hash, ap (λ (c : Client). option_map (λ at. at.version) c.known) (sym e))

pub took_delta : (d : Payload) (m : Meaning) (held : Option Client) (old now : Client) → IsMeant d m → is_delta d.key.query ≡ true → held ≡ Some old → now ≡ record { copy = overlay old.copy m.mentions; known = moved old.known d.key.form (cert_of d) } → client_after d held ≡ Some now
took_delta d m held old now meant delta has e = taken_is d held true m delta meant.0 ∙ ap (taken_by true d m) has ∙ ap (λ x. Some x) (sym e)

pub told_delta : (d : Payload) (m : Meaning) (held : Option Client) (old now : Client) (equal : Bool) (version : Option ℕ) → IsMeant d m → is_delta d.key.query ≡ true → held ≡ Some old → now ≡ record { copy = overlay old.copy m.mentions; known = moved old.known d.key.form (cert_of d) }
    → equal ≡ hash_equal m.hash now.copy → version ≡ option_map (λ at. at.version) now.known → IsTakenReply d (client_after d held) equal version
told_delta d m held old now equal version meant delta has e hash known = (m, now, meant.0, took_delta d m held old now meant delta has e, hash, known)

pub is_some_by : {A : Type 0} (o : Option A) (c : A) → Some c ≡ o → IsSome o
is_some_by o c e = subst (λ o. IsSome o) e refl
