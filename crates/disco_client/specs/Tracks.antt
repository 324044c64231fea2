-- Where a copy is known, and where it is after a document (this project's own rule).
use Rattle.std.specs.Prelude.{◌≡◌, ◌≤◌, ℕ, ◌==◌, ◌&&◌, ◌||◌, not, nat_le, Bool, true, false, List, length, if◌then◌else◌, Option, Some, None, option_and_then}
use Rattle.std.specs.FinMap.{FinMap}
use Rattle.disco_values.specs.Key.{key_cmp}
use Rattle.disco_instance.specs.Row.{Row}
use Rattle.disco_values.specs.declared.cert.Cert.{Cert}
use Rattle.disco_values.specs.declared.form.Form.{Form}
use Rattle.disco_values.specs.declared.form.Form.TheVariants.{Full, Compact}
use Rattle.disco_history.specs.Change.{Entry, prefix}
use Rattle.disco_history.specs.Forms.{in_form}
use Rattle.disco_history.specs.Registry.{registry_of}
use Rattle.disco_client.specs.declared.known.Known.{Known}

-- the history of each run of a server, by the number of the run
abbrev pub Histories : Type 0
Histories = ℕ → List Entry

abbrev pub same_form : Form → Form → Bool
same_form Full Full = true
same_form Compact Compact = true
same_form _ _ = false

-- where a copy is known after a document of this form and certificate
abbrev pub known_at : Form → Cert → Known
known_at f c = record { form = f; run = c.run; version = c.version }

-- a delta reaches a copy: it is of its run, starts no later and ends no earlier
abbrev pub reaches : Cert → Known → Bool
reaches c k = c.run == k.run && (nat_le c.base k.version && nat_le k.version c.version)

-- where a copy is known after a delta: where the delta puts it, if it is of the copy's form and reaches it, and else nowhere
abbrev pub moved : Option Known → Form → Cert → Option Known
moved known f c = option_and_then (λ k. if same_form k.form f && reaches c k then Some (known_at f c) else None) known

-- a copy gives way to a document of all apps: to one of another run, and to one that isn't older
abbrev pub gives_way : Cert → Known → Bool
gives_way c k = not (c.run == k.run) || nat_le k.version c.version

-- the records are that version of a history, in its form
abbrev pub IsVersionIn : List Entry → Known → FinMap key_cmp Row → Type 0
IsVersionIn h k s = (k.version ≤ length h) × (s ≡ in_form k.form (registry_of (prefix h k.version)))
