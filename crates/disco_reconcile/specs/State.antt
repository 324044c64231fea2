-- A client as plain data.
use Rattle.std.specs.Prelude.{Option, None, option_map, refl}
use Rattle.std.specs.Coded.{Coded, code_by, coded×}
use Rattle.std.specs.FinMap.{FinMap}
use Rattle.disco_values.specs.Key.{key_cmp}
use Rattle.disco_instance.specs.Row.{Row}
use Rattle.disco_values.specs.contracts.form.Form as form
use Rattle.disco_values.specs.declared.form.Form.{Form}
use Rattle.disco_client.specs.declared.known.Known.{Known}
use Rattle.disco_reconcile.specs.contracts.kept.Kept as kept
use Rattle.disco_reconcile.specs.declared.kept.Kept.{Kept}
use Rattle.disco_reconcile.specs.declared.kept.Kept.TheVariants.{Plain, Certified}

-- the records of a copy
abbrev pub CopyRows : Type 0
CopyRows = FinMap key_cmp Row

-- its fetcher, the form that it asks for, and what it keeps, by its kind
pub record ClientState (S : Type 0) : Type 0 where
  pub fetcher : S
  pub form : Form
  pub kept : Kept

-- the records that a client has, if it has a copy
abbrev pub copy_of : Kept → Option CopyRows
copy_of (Plain held) = held
copy_of (Certified held) = option_map (λ k. k.copy) held

-- where a certified client's copy is known; of a plain client's nothing is shown
abbrev pub known_in : Kept → Option Known
known_in (Plain held) = None
known_in (Certified held) = option_map (λ k. k.known) held

-- only what the checker asks for: nothing here is to be believed
abbrev pub coded_state : {S : Type 0} → Coded S → Coded (ClientState S)
coded_state {S} s =
    code_by (S × (Form × Kept)) (coded× s (coded× form.the_row.coded kept.the_row.coded))
    (λ c. (c.fetcher, (c.form, c.kept))) (λ p. record { fetcher = p.0; form = p.1.0; kept = p.1.1 }) (λ _. refl)
