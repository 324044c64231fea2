-- Names that are percent-encoded (RFC 3986, section 2.1).
use Rattle.std.specs.Prelude.{ℕ, List, Option, Some, None, if◌then◌else◌}
use Rattle.std.specs.Str.{is_utf8}
use Rattle.percent_encoding.specs.Percent.{percent_decode}

-- the text that an encoded name spells: an escape stands for its byte, and bytes that are not UTF-8 spell none
abbrev pub decoded_text : List ℕ → Option (List ℕ)
decoded_text encoded = let bytes = percent_decode encoded in if is_utf8 bytes then Some bytes else None
