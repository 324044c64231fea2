-- What the tests of certificates say, and where a copy is known after a delta.
use Rattle.std.proofs.Common.{◌≡◌, ◌≤◌, ◌==◌, ◌&&◌, nat_le, Bool, true, false, cond, Some, None, refl, arith}
use Rattle.std.proofs.lemmas.Option.{same_Some}
use Rattle.std.proofs.lemmas.Bool.Decides.{nat_tests}
use Rattle.disco_values.specs.declared.cert.Cert.{Cert}
use Rattle.disco_values.specs.declared.form.Form.{Form}
use Rattle.disco_values.specs.declared.form.Form.TheVariants.{Full, Compact}
use Rattle.disco_client.specs.Tracks.{gives_way, known_at, moved, reaches, same_form}
use Rattle.disco_client.specs.declared.known.Known.{Known}

-- a delta that reaches a copy is of its run, starts no later and ends no earlier
pub record Reaches (c : Cert) (k : Known) : Type 0 where
  pub run : c.run ≡ k.run
  pub above : c.base ≤ k.version
  pub below : k.version ≤ c.version

pub reached : (c : Cert) (k : Known) → reaches c k ≡ true → Reaches c k
reached c k = by (c.run == k.run) refl (nat_le c.base k.version) refl (nat_le k.version c.version) refl
  where
    by : (x : Bool) → (c.run == k.run) ≡ x → (y : Bool) → nat_le c.base k.version ≡ y → (z : Bool) → nat_le k.version c.version ≡ z → (x && (y && z)) ≡ true → Reaches c k
    by true run true above true below is = record { run = grind (arith, nat_tests, run); above = grind (arith, nat_tests, above); below = grind (arith, nat_tests, below) }
    by false run y above z below is = absurd (cc)
    by true run false above z below is = absurd (cc)
    by true run true above false below is = absurd (cc)

-- a copy that gives way to a document of its run gives way to no older version
pub rises : (c : Cert) (k : Known) → gives_way c k ≡ true → c.run ≡ k.run → k.version ≤ c.version
rises c k gives run = grind (arith, nat_tests, gives, run)

-- a delta of the copy's form that reaches it
pub record Moves (k : Known) (f : Form) (c : Cert) (at : Known) : Type 0 where
  pub form : k.form ≡ f
  pub reaches : Reaches c k
  pub now : known_at f c ≡ at

pub form_is : (f g : Form) → same_form f g ≡ true → f ≡ g
form_is Full Full e = refl
form_is Compact Compact e = refl
form_is Full Compact e = absurd (cc)
form_is Compact Full e = absurd (cc)

pub moves : (k : Known) (f : Form) (c : Cert) (at : Known) → moved (Some k) f c ≡ Some at → Moves k f c at
moves k f c at = by (same_form k.form f) refl (reaches c k) refl
  where
    by : (x : Bool) → same_form k.form f ≡ x → (y : Bool) → reaches c k ≡ y → cond (x && y) (Some (known_at f c)) None ≡ Some at → Moves k f c at
    by true form true to is = record { form = form_is k.form f form; reaches = reached c k to; now = same_Some _ _ is }
    by false form y to is = absurd (cc)
    by true form false to is = absurd (cc)
