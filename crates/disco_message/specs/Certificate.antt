-- The certificate of a received document (this project's own rule).
use Rattle.std.specs.Prelude.{ℕ, Bool, ◌==◌, List, [], ◌∷◌, Option, Some, None, codes}
use Rattle.std.specs.List.{after_first, before_first}
use Rattle.disco_values.specs.Digits.{digits_number}
use Rattle.disco_values.specs.declared.cert.Cert.{Cert}
use Rattle.disco_message.specs.Fields.{field_values}

abbrev pub is_blank : ℕ → Bool
is_blank b = b == 32

-- what stands behind the first space
abbrev pub behind_space : List ℕ → List ℕ
behind_space text = after_first is_blank text

-- a run, a base and a version, where all three are there
abbrev pub cert_by : Option ℕ → Option ℕ → Option ℕ → Option Cert
cert_by (Some r) (Some b) (Some v) = Some (record { run = r; base = b; version = v })
cert_by _ _ _ = None

-- the certificate that a text spells: three numbers in digits, with one space between them
abbrev pub cert_spelled : List ℕ → Option Cert
cert_spelled text = cert_by (digits_number (before_first is_blank text)) (digits_number (before_first is_blank (behind_space text)))
    (digits_number (behind_space (behind_space text)))

-- that of the one value that is there; none where there are more
abbrev pub only_cert : List (List ℕ) → Option Cert
only_cert (text ∷ []) = cert_spelled text
only_cert texts = None

-- the certificate of a head with these fields: none where its field is absent, comes twice or spells none
abbrev pub certificate_of : List (List ℕ × List ℕ) → Option Cert
certificate_of fields = only_cert (field_values (codes "x-discovery-certificate") fields)
