-- A status by its exact name.
use Rattle.std.proofs.Common.{◌≡◌, ℕ, Bool, true, false, cond, List, Option, Some, None, unwrap_or, refl, sym, ap, ◌∙◌}
use Rattle.std.specs.Str.{bytes_eq}
use Rattle.std.proofs.lemmas.Slice.Eq.{bytes_eq-Decides}
use Rattle.disco_values.specs.Status.{status_name, status_named}
use Rattle.disco_values.specs.Text.{in_upper_case}
use Rattle.disco_values.specs.declared.status.Status.{Status}
use Rattle.disco_values.specs.declared.status.Status.TheVariants.{Up, Down, Starting, OutOfService, Unknown}

abbrev in_any_case : List ℕ → Status
in_any_case text = unwrap_or (status_named (in_upper_case text)) Unknown

one : (text : List ℕ) (s t : Status) (b : Bool) (rest : Option Status) → bytes_eq text (status_name t) ≡ b → in_any_case (status_name t) ≡ t → (rest ≡ Some s → s ≡ in_any_case text) → cond b (Some t) rest ≡ Some s → s ≡ in_any_case text
one text s t true rest e own later found =
    let same : t ≡ s = cc in
    let named : text ≡ status_name t = (bytes_eq-Decides text (status_name t)).0 e in
    sym same ∙ sym own ∙ sym (ap in_any_case named)
one text s t false rest e own later found = later found

none : (text : List ℕ) (s : Status) → None ≡ Some s → s ≡ in_any_case text
none text s e = absurd (cc)

-- the status of a name is also that of the name in any case
pub named_exactly : (text : List ℕ) (s : Status) → status_named text ≡ Some s → s ≡ in_any_case text
named_exactly text s = one text s Up _ _ refl refl (one text s Down _ _ refl refl (one text s Starting _ _ refl refl (one text s OutOfService _ _ refl refl (one text s Unknown _ _ refl refl (none text s)))))
