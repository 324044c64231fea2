-- Which documents a client accepts, by the fields of its request.
use Rattle.std.specs.Prelude.{ℕ, Bool, false, not, ◌&&◌, ◌||◌, List, [], ◌∷◌, length, take, nat_le, if◌then◌else◌, codes}
use Rattle.std.specs.List.{list_any}
use Rattle.disco_values.specs.declared.form.Form.{Form}
use Rattle.disco_values.specs.declared.form.Form.TheVariants.{Full, Compact}
use Rattle.disco_message.specs.Fields.{eq_ignore_case, field_values}

-- the value begins with the word, in any case
abbrev pub begins : List ℕ → List ℕ → Bool
begins word value = nat_le (length word) (length value) && eq_ignore_case (take (length word) value) word

-- the value has the word in it, in any case
abbrev pub has_word : List ℕ → List ℕ → Bool
has_word word [] = false
has_word word (b ∷ bs) = begins word (b ∷ bs) || has_word word bs

-- some value has the word in it
abbrev pub have_word : List ℕ → List (List ℕ) → Bool
have_word word vs = list_any (λ v. has_word word v) vs

-- whether JSON may be answered: not where the Accept fields name XML, and neither JSON nor `*/*` (this project's own
-- rule for RFC 9110, section 12.5.1)
abbrev pub takes_json : List (List ℕ × List ℕ) → Bool
takes_json fields =
    let accepted = field_values (codes "accept") fields in
    not (have_word (codes "xml") accepted) || have_word (codes "json") accepted || have_word (codes "*/*") accepted

-- the form that the first value names
abbrev pub form_accepted : List (List ℕ) → Form
form_accepted [] = Full
form_accepted (v ∷ vs) = if eq_ignore_case v (codes "compact") then Compact else Full

-- the form that is asked for (Eureka's `X-Eureka-Accept`)
abbrev pub form_of : List (List ℕ × List ℕ) → Form
form_of fields = form_accepted (field_values (codes "x-eureka-accept") fields)
