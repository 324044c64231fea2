-- Members of one kind in a JSON tree. A member of another kind counts as absent (this project's own rule).
use Rattle.std.specs.Prelude.{ℕ, is_some, Bool, true, false, ◌&&◌, List, [], codes, length, ◌==◌, nat_le, if◌then◌else◌, Option, Some, None}
use Rattle.std.specs.Prelude.{option_and_then, option_map, unwrap_or}
use Rattle.std.specs.Str.{bytes_eq}
use Rattle.serde_json.specs.Data.{Data, null, boolean, number, string}
use Rattle.serde_json.specs.Find.{get as member_at, as_str, as_u64}
use Rattle.disco_values.specs.Digits.{digits_number}
use Rattle.disco_values.specs.Text.{in_upper_case}
use Rattle.disco_values.specs.Status.{status_named}
use Rattle.disco_values.specs.declared.status.Status.{Status}
use Rattle.disco_values.specs.declared.status.Status.TheVariants.{Unknown}
use Rattle.disco_instance.specs.declared.port.Port.{Port}

-- ---- kinds of value

-- a whole number, given as a number or as a text of digits
abbrev pub as_whole : Data → Option ℕ
as_whole (number n) = as_u64 n
as_whole (string s) = digits_number s
as_whole _ = None

-- a truth value, given as one or as its name
abbrev pub as_flag : Data → Option Bool
as_flag (boolean b) = Some b
as_flag (string s) = if bytes_eq s (codes "true") then Some true else (if bytes_eq s (codes "false") then Some false else None)
as_flag _ = None

-- a text that is not empty
abbrev pub not_empty : List ℕ → Option (List ℕ)
not_empty s = if length s == 0 then None else Some s

-- ---- members

-- what stands at the name, null where nothing does
abbrev pub inner_at : List ℕ → Data → Data
inner_at name d = unwrap_or (member_at name d) null

abbrev pub text_at : List ℕ → Data → Option (List ℕ)
text_at name d = option_and_then as_str (member_at name d)

abbrev pub non_empty_at : List ℕ → Data → Option (List ℕ)
non_empty_at name d = option_and_then not_empty (text_at name d)

abbrev pub text_or_empty : List ℕ → Data → List ℕ
text_or_empty name d = unwrap_or (text_at name d) []

abbrev pub flag_at : List ℕ → Data → Option Bool
flag_at name d = option_and_then as_flag (member_at name d)

-- the whole number at the name where it is in range, else the default
abbrev pub number_at : List ℕ → ℕ → ℕ → ℕ → Data → ℕ
number_at name low high default d = unwrap_or (option_and_then (λ n.
    if nat_le low n && nat_le n high then Some n else None) (option_and_then as_whole (member_at name d))) default

-- a port: its number and its flag have each a default of their own
abbrev pub port_at : List ℕ → ℕ → Bool → Data → Port
port_at name default enabled d = let inner = inner_at name d in record {
  number = number_at (codes "$") 0 65535 default inner;
  enabled = unwrap_or (flag_at (codes "@enabled") inner) enabled;
}

-- a status by its name in any case, Unknown where the text is no status
abbrev pub status_at : List ℕ → Status → Data → Status
status_at name default d = unwrap_or (option_map (λ s. unwrap_or (status_named (in_upper_case s)) Unknown) (text_at name d)) default

-- the override: the second spelling of the name counts where the first is no text
abbrev pub override_at : Data → Status
override_at d = if is_some (text_at (codes "overriddenStatus") d) then status_at (codes "overriddenStatus") Unknown d else
    status_at (codes "overriddenstatus") Unknown d
