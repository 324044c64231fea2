-- A written value reads back as itself.
use Rattle.std.proofs.Common.{◌≡◌, ◌≢◌, ℕ, ◌<◌, ◌≤◌, ◌&&◌, not, ◌==◌, nat_le, length, cond, Bool, true, false, List, [], ◌∷◌, map, codes, Some, None, unwrap_or, refl, ap, arith}
use Rattle.std.specs.Str.{bytes_eq}
use Rattle.std.proofs.lemmas.Bool.Decides.{nat_tests}
use Rattle.disco_values.specs.declared.status.Status.{Status}
use Rattle.disco_values.specs.declared.status.Status.TheVariants.{Up, Down, Starting, OutOfService, Unknown}
use Rattle.disco_values.specs.declared.action.Action.{Action}
use Rattle.disco_values.specs.declared.action.Action.TheVariants.{Added, Modified, Deleted}
use Rattle.disco_values.specs.Status.{status_name, status_named}
use Rattle.disco_values.specs.Action.{action_name, action_named}
use Rattle.disco_values.specs.Entries.{is_before, is_by_name}
use Rattle.disco_values.specs.Text.{in_upper_case}
use Rattle.disco_instance.specs.Members.{as_flag, not_empty}
use Rattle.disco_instance.specs.Metadata.{kept_entries}
use Rattle.disco_wire.specs.Written.{in_order}
use Rattle.serde_json.specs.Data.{string}

pub in_range : (low high default n : ℕ) → low ≤ n → n ≤ high → unwrap_or (cond (nat_le low n && nat_le n high) (Some n) None) default ≡ n
in_range low high default n a b = grind (arith, nat_tests, a, b)

pub flag_again : (b : Bool) → as_flag (string (cond b (codes "true") (codes "false"))) ≡ Some b
flag_again true = refl
flag_again false = refl

pub status_again : (s : Status) → status_named (in_upper_case (status_name s)) ≡ Some s
status_again Up = refl
status_again Down = refl
status_again Starting = refl
status_again OutOfService = refl
status_again Unknown = refl

pub action_again : (a : Action) → action_named (action_name a) ≡ Some a
action_again Added = refl
action_again Modified = refl
action_again Deleted = refl

not_zero : (n : ℕ) (s : List ℕ) → 0 < n → cond (n == 0) None (Some s) ≡ Some s
not_zero n s p = grind (arith, nat_tests, p)

pub text_again : (s : List ℕ) → s ≢ [] → not_empty s ≡ Some s
text_again [] some = absurd (some refl)
text_again (c ∷ cs) some = not_zero (length (c ∷ cs)) (c ∷ cs) (omega arith)

entry_again : (name text : List ℕ) (b : Bool) (rest whole : List (List ℕ × List ℕ)) → (not b && true) ≡ true → rest ≡ whole → cond b rest ((name, text) ∷ rest) ≡ (name, text) ∷ whole
entry_again name text true rest whole ok same = absurd (cc)
entry_again name text false rest whole ok same = ap (λ r. (name, text) ∷ r) same

first : (a b : Bool) → (a && b) ≡ true → (a ≡ true) × (b ≡ true)
first true b p = (refl, p)
first false b p = absurd (cc)

second : (a b : Bool) → (a && b) ≡ true → b ≡ true
second a b p = (first a b p).1

not_class : (b : Bool) → not b ≡ true → (not b && true) ≡ true
not_class true e = e
not_class false e = refl

pub entries_again : (es : List (List ℕ × List ℕ)) → is_by_name es ≡ true → kept_entries (in_order (map (λ e. (e.0, string e.1)) es)) ≡ es
entries_again [] sorted = refl
entries_again (e ∷ es) sorted =
    let parts = first (not (bytes_eq e.0 (codes "@class"))) (is_before e.0 es && is_by_name es) sorted in
    entry_again e.0 e.1 (bytes_eq e.0 (codes "@class")) (kept_entries (in_order (map (λ x. (x.0, string x.1)) es))) es (not_class _ parts.0) (entries_again es (second (is_before e.0 es) (is_by_name es) parts.1))
