-- How the body behind a head is framed, and what a head is refused for.
use Rattle.std.specs.Prelude.{ℕ, Bool, ◌&&◌, ◌||◌, List, [], ◌∷◌, Option, Some, None, Result, Ok, Err, if◌then◌else◌, ◌==◌, length, codes, option_map}
use Rattle.std.specs.Option.{option_map_or}
use Rattle.std.specs.List.{list_all}
use Rattle.std.specs.Str.{bytes_eq}
use Rattle.disco_values.specs.Digits.{digits_number}
use Rattle.disco_values.specs.declared.fault.Fault.{Fault}
use Rattle.disco_values.specs.declared.fault.Fault.TheVariants.{BadRequest, UnsupportedCoding}
use Rattle.disco_message.specs.Fields.{eq_ignore_case, field_values}
use Rattle.disco_message.specs.declared.framing.Framing.{Framing}
use Rattle.disco_message.specs.declared.framing.Framing.TheVariants.{Sized, Chunked}

-- how a body is framed, by the values of Content-Length and of Transfer-Encoding (RFC 9112, section 6); this project allows one of them, once
abbrev pub framing_of : ℕ → List (List ℕ) → List (List ℕ) → Option Framing
framing_of minor [] [] = Some (Sized 0)
framing_of minor (n ∷ []) [] = option_map (λ size. Sized size) (digits_number n)
framing_of minor [] (c ∷ []) = if minor == 1 && eq_ignore_case c (codes "chunked") then Some Chunked else None
framing_of minor lengths codings = None

-- HTTP/1.1 asks for exactly one Host (RFC 9112, section 3.2)
abbrev pub has_host : ℕ → List (List ℕ) → Bool
has_host minor hosts = minor == 0 || length hosts == 1

-- the framing that the fields state, if the hosts and the framing are as they must be
abbrev pub stated : ℕ → List (List ℕ × List ℕ) → Option Framing
stated minor fields =
    if has_host minor (field_values (codes "host") fields)
    then framing_of minor (field_values (codes "content-length") fields) (field_values (codes "transfer-encoding") fields)
    else None

-- a body that is coded is not read
abbrev pub uncoded : Bool → Option Framing → Result Framing Fault
uncoded plain framing = option_map_or (λ f. if plain then Ok f else Err UnsupportedCoding) framing (Err BadRequest)

-- the framing, or what the head is refused for; the one Content-Encoding that is taken is `identity`, byte for byte (this project's own rule)
abbrev pub framed : ℕ → List (List ℕ × List ℕ) → Result Framing Fault
framed minor fields = uncoded (list_all (λ v. bytes_eq v (codes "identity")) (field_values (codes "content-encoding") fields)) (stated minor fields)
