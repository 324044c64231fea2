-- The head of a reply, as the tree that its reader makes of it.
use Rattle.std.proofs.Common.{◌≡◌, ℕ, Bool, true, false, ◌&&◌, ◌||◌, ◌<◌, List, [], ◌∷◌, ◌++◌, length, map, reverse, All, Option, Some, None, IfSome, codes, decimal, ◌==◌, nat_lt, if◌then◌else◌, refl, ap, sym, ◌∙◌, arith, append_assoc, append-nil}
use Rattle.std.specs.Char.{is_ascii_digit}
use Rattle.std.specs.List.{flat_map, list_all}
use Rattle.std.proofs.lemmas.Bool.Decides.{nat_tests}
use Rattle.std.proofs.lemmas.Fmt.{decimal_nonempty}
use Rattle.std.proofs.lemmas.Grind.{flat_map-append}
use Rattle.std.proofs.lemmas.List.{length-reverse, map-append, reverse-append}
use Rattle.std.proofs.lemmas.List.Folds.{list_all-append}
use Rattle.std.proofs.lemmas.List.Sums.{AllPass-from_list_all, list_all-from_AllPass}
use Rattle.std.proofs.lemmas.List.Elements.{All-weaker}
use Rattle.http.specs.StatusCode.{IsStatusCode, code_digits}
use Rattle.httparse.specs.Grammar.{Field, IsField, IsResponseHead, ReadsResponse, ResponseHead, crlf, is_token, is_token_byte, is_value_byte, print_field, print_response, skip_ows, trim_ows}
use Rattle.httparse.specs.Spans.{name_and_value}
use Rattle.httparse.proofs.GrammarLemmas.{response_unique}
use Rattle.httparse.proofs.TrimLemmas.{AllPass-reverse, trim_ows_space}
use Rattle.disco_values.specs.declared.cert.Cert.{Cert}
use Rattle.disco_message.specs.Certificate.{cert_spelled, only_cert}
use Rattle.disco_message.specs.Fields.{eq_ignore_case, field_values}
use Rattle.disco_message.specs.Laws.{CertificateLaw, IsInRange}
use Rattle.disco_message.specs.ReplyText.{allow_line, body_lines, certificate_line, close_line, content_lines, length_line, reply_head, type_line}
use Rattle.disco_message.specs.StatusLine.{allowed, phrase, status_line}
use Rattle.disco_message.specs.declared.status_line.Allow.{Allow}
use Rattle.disco_message.specs.declared.status_line.Allow.TheVariants.{Get, GetPost, GetPutDelete, PutDelete, Put}
use Rattle.disco_message.proofs.SpelledCertificate.{cert_text, number_digits, first_digit, more_digits, parted, spelled_again}
use Rattle.disco_message.proofs.StatusLines.{left_of, right_of, digits_good, phrase_good}

-- ---- the fields

abbrev field : List ℕ → List ℕ → Field
field name value = record { name = name; raw = 32 ∷ value; end = crlf }

abbrev length_field : ℕ → Field
length_field n = field (codes "Content-Length") (decimal n)

abbrev content_fields : Option ℕ → List Field
content_fields None = length_field 0 ∷ []
content_fields (Some n) = field (codes "Content-Type") (codes "application/json") ∷ length_field n ∷ []

abbrev body_fields : ℕ → Option ℕ → List Field
body_fields s size = if s == 204 then [] else content_fields size

abbrev certificate_fields : Option Cert → List Field
certificate_fields None = []
certificate_fields (Some c) = field (codes "X-Discovery-Certificate") (cert_text c) ∷ []

abbrev allow_fields : Option Allow → List Field
allow_fields None = []
allow_fields (Some methods) = field (codes "Allow") (allowed methods) ∷ []

abbrev close_fields : Bool → List Field
close_fields true = field (codes "Connection") (codes "close") ∷ []
close_fields false = []

abbrev fields : ℕ → Option Allow → Option ℕ → Option Cert → Bool → List Field
fields s allow size cert last = body_fields s size ++ (certificate_fields cert ++ (allow_fields allow ++ close_fields last))

-- ---- their bytes

abbrev printed : List Field → List ℕ
printed fs = flat_map print_field fs

length_printed : (n : ℕ) → print_field (length_field n) ≡ length_line n
unfolding length_line
length_printed n = refl

content_printed : (size : Option ℕ) → printed (content_fields size) ≡ content_lines size
unfolding type_line
content_printed None = append-nil _ ∙ length_printed 0
content_printed (Some n) = ap (λ x. type_line ++ x) (append-nil _ ∙ length_printed n)

body_printed : (s : ℕ) (size : Option ℕ) → printed (body_fields s size) ≡ body_lines s size
body_printed s size = by (s == 204)
  where
    by : (none : Bool) → printed (if none then [] else content_fields size) ≡ (if none then [] else content_lines size)
    by true = refl
    by false = content_printed size

certificate_printed : (cert : Option Cert) → printed (certificate_fields cert) ≡ certificate_line cert
unfolding certificate_line
certificate_printed None = refl
certificate_printed (Some c) = append-nil _

allow_printed : (allow : Option Allow) → printed (allow_fields allow) ≡ allow_line allow
unfolding allow_line
allow_printed None = refl
allow_printed (Some methods) = append-nil _

close_printed : (last : Bool) → printed (close_fields last) ≡ close_line last
unfolding close_line
close_printed true = refl
close_printed false = refl

fields_printed : (s : ℕ) (allow : Option Allow) (size : Option ℕ) (cert : Option Cert) (last : Bool)
    → printed (fields s allow size cert last) ≡ body_lines s size ++ (certificate_line cert ++ (allow_line allow ++ close_line last))
fields_printed s allow size cert last =
    flat_map-append print_field (body_fields s size) (certificate_fields cert ++ (allow_fields allow ++ close_fields last))
    ∙ (λ i. body_printed s size i ++ (flat_map-append print_field (certificate_fields cert) (allow_fields allow ++ close_fields last)
    ∙ (λ j. certificate_printed cert j ++ (flat_map-append print_field (allow_fields allow) (close_fields last)
    ∙ (λ k. allow_printed allow k ++ close_printed last k)) j)) i)

-- ---- that they are fields

abbrev is_field : Field → Bool
is_field f = is_token f.name && list_all is_value_byte f.raw

digit_value : (b : ℕ) → is_ascii_digit b ≡ true → is_value_byte b ≡ true
digit_value b e = grind (arith, nat_tests, e)

value_bytes : (v : List ℕ) → list_all is_ascii_digit v ≡ true → list_all is_value_byte v ≡ true
value_bytes [] e = refl
value_bytes (b ∷ bs) e = rw (digit_value b (first_digit b bs e), value_bytes bs (more_digits b bs e)) refl

joined : {X : Type 0} (p : X → Bool) (xs ys : List X) → list_all p xs ≡ true → list_all p ys ≡ true → list_all p (xs ++ ys) ≡ true
joined p xs ys a b = list_all-append p xs ys ∙ rw (a, b) refl

cert_bytes : (c : Cert) → list_all is_value_byte (cert_text c) ≡ true
cert_bytes c =
    let test = is_value_byte in
    let r = decimal c.run in
    let b = decimal c.base in
    let v = decimal c.version in
    let of : (n : ℕ) → list_all test (decimal n) ≡ true = λ n. value_bytes (decimal n) (number_digits n) in
    joined test (r ++ codes " " ++ b ++ codes " ") v (joined test (r ++ codes " " ++ b) (codes " ") (joined test (r ++ codes " ") b (joined test r (codes " ") (of c.run) refl) (of c.base)) refl) (of c.version)

content_good : (size : Option ℕ) → list_all is_field (content_fields size) ≡ true
unfolding is_token_byte
content_good None = rw (value_bytes (decimal 0) (number_digits 0)) refl
content_good (Some n) = rw (value_bytes (decimal n) (number_digits n)) refl

body_good : (s : ℕ) (size : Option ℕ) → list_all is_field (body_fields s size) ≡ true
body_good s size = by (s == 204)
  where
    by : (none : Bool) → list_all is_field (if none then [] else content_fields size) ≡ true
    by true = refl
    by false = content_good size

certificate_good : (cert : Option Cert) → list_all is_field (certificate_fields cert) ≡ true
unfolding is_token_byte
certificate_good None = refl
certificate_good (Some c) = rw (cert_bytes c) refl

allow_good : (allow : Option Allow) → list_all is_field (allow_fields allow) ≡ true
unfolding is_token_byte allowed
allow_good None = refl
allow_good (Some Get) = refl
allow_good (Some GetPost) = refl
allow_good (Some GetPutDelete) = refl
allow_good (Some PutDelete) = refl
allow_good (Some Put) = refl

close_good : (last : Bool) → list_all is_field (close_fields last) ≡ true
unfolding is_token_byte
close_good true = refl
close_good false = refl

true_field : (f : Field) → is_field f ≡ true → IsField f
true_field f e =
    let name : is_token f.name ≡ true = left_of (is_token f.name) (list_all is_value_byte f.raw) e in
    let some : nat_lt 0 (length f.name) ≡ true = left_of (nat_lt 0 (length f.name)) (list_all is_token_byte f.name) name in
    record {
      name = (grind (arith, nat_tests, some), AllPass-from_list_all is_token_byte f.name (right_of (nat_lt 0 (length f.name)) (list_all is_token_byte f.name) name));
      raw = AllPass-from_list_all is_value_byte f.raw (right_of (is_token f.name) (list_all is_value_byte f.raw) e);
    }

fields_good : (s : ℕ) (allow : Option Allow) (size : Option ℕ) (cert : Option Cert) (last : Bool) → All IsField (fields s allow size cert last)
fields_good s allow size cert last =
    let all = joined is_field (body_fields s size) _ (body_good s size) (joined is_field (certificate_fields cert) _ (certificate_good cert) (joined is_field (allow_fields allow) (close_fields last) (allow_good allow) (close_good last))) in
    All-weaker (λ f. is_field f ≡ true) IsField true_field (fields s allow size cert last) (AllPass-from_list_all is_field (fields s allow size cert last) all)

-- ---- what they show

abbrev shown : List Field → List (List ℕ)
shown fs = field_values (codes "x-discovery-certificate") (map name_and_value fs)

values_apart : (name : List ℕ) (xs ys : List (List ℕ × List ℕ)) → field_values name (xs ++ ys) ≡ field_values name xs ++ field_values name ys
values_apart name [] ys = refl
values_apart name (f ∷ fs) ys = by (values_apart name fs ys) (eq_ignore_case f.0 name)
  where
    by : field_values name (fs ++ ys) ≡ field_values name fs ++ field_values name ys → (t : Bool)
        → (if t then f.1 ∷ field_values name (fs ++ ys) else field_values name (fs ++ ys)) ≡ (if t then f.1 ∷ field_values name fs else field_values name fs) ++ field_values name ys
    by later true = ap (λ vs. f.1 ∷ vs) later
    by later false = later

shown_apart : (xs ys : List Field) → shown (xs ++ ys) ≡ shown xs ++ shown ys
shown_apart xs ys = ap (field_values (codes "x-discovery-certificate")) (map-append name_and_value xs ys) ∙ values_apart _ (map name_and_value xs) (map name_and_value ys)

content_none : (size : Option ℕ) → shown (content_fields size) ≡ []
unfolding eq_ignore_case
content_none None = refl
content_none (Some n) = refl

body_none : (s : ℕ) (size : Option ℕ) → shown (body_fields s size) ≡ []
body_none s size = by (s == 204)
  where
    by : (none : Bool) → shown (if none then [] else content_fields size) ≡ []
    by true = refl
    by false = content_none size

allow_none : (allow : Option Allow) → shown (allow_fields allow) ≡ []
unfolding eq_ignore_case
allow_none None = refl
allow_none (Some methods) = refl

close_none : (last : Bool) → shown (close_fields last) ≡ []
unfolding eq_ignore_case
close_none true = refl
close_none false = refl

skip_digits : (ds rest : List ℕ) → list_all is_ascii_digit ds ≡ true → 0 < length ds → skip_ows (ds ++ rest) ≡ ds ++ rest
skip_digits [] rest e some = absurd (omega (arith, some))
skip_digits (d ∷ ds) rest e some = let other : (d == 32 || d == 9) ≡ false = grind (arith, nat_tests, first_digit d ds e) in rw other refl

digits_back : (ds : List ℕ) → list_all is_ascii_digit ds ≡ true → list_all is_ascii_digit (reverse ds) ≡ true
digits_back ds e = list_all-from_AllPass is_ascii_digit (reverse ds) (AllPass-reverse is_ascii_digit ds (AllPass-from_list_all is_ascii_digit ds e))

trimmed : (c : Cert) → IsInRange c → trim_ows (32 ∷ cert_text c) ≡ cert_text c
trimmed c fits =
    let r = decimal c.run in
    let b = decimal c.base in
    let v = decimal c.version in
    let front : skip_ows (cert_text c) ≡ cert_text c = ap skip_ows (parted r b v) ∙ skip_digits r (32 ∷ (b ++ 32 ∷ v)) (number_digits c.run) (decimal_nonempty c.run fits.0) ∙ sym (parted r b v) in
    let turned = reverse-append (r ++ codes " " ++ b ++ codes " ") v in
    let some : 0 < length (reverse v) = omega (arith, length-reverse v, decimal_nonempty c.version fits.2) in
    let back : skip_ows (reverse (cert_text c)) ≡ reverse (cert_text c) = ap skip_ows turned ∙ skip_digits (reverse v) (reverse (r ++ codes " " ++ b ++ codes " ")) (digits_back v (number_digits c.version)) some ∙ sym turned in
    trim_ows_space (cert_text c) front back

certificate_shown : (cert : Option Cert) → IfSome cert IsInRange → only_cert (shown (certificate_fields cert)) ≡ cert
unfolding eq_ignore_case
certificate_shown None fits = refl
certificate_shown (Some c) fits = ap cert_spelled (trimmed c fits) ∙ spelled_again c fits

fields_shown : (s : ℕ) (allow : Option Allow) (size : Option ℕ) (cert : Option Cert) (last : Bool) → shown (fields s allow size cert last) ≡ shown (certificate_fields cert)
fields_shown s allow size cert last =
    shown_apart (body_fields s size) (certificate_fields cert ++ (allow_fields allow ++ close_fields last))
    ∙ (λ i. body_none s size i ++ (shown_apart (certificate_fields cert) (allow_fields allow ++ close_fields last)
    ∙ (λ j. shown (certificate_fields cert) ++ (shown_apart (allow_fields allow) (close_fields last) ∙ (λ k. allow_none allow k ++ close_none last k)) j)) i)
    ∙ append-nil _

-- ---- the head

abbrev tree : ℕ → Option Allow → Option ℕ → Option Cert → Bool → ResponseHead
tree s allow size cert last = record { blank = []; minor = 1; digits = code_digits s; reason = Some (phrase s); line_end = crlf; fields = fields s allow size cert last; last = crlf }

first : (s : ℕ) → codes "HTTP/1.1 " ++ code_digits s ++ codes " " ++ phrase s ++ codes "\r\n" ≡ status_line s
unfolding status_line
first s = refl

lined : (code words text : List ℕ) → codes "HTTP/1." ++ 49 ∷ [] ++ 32 ∷ code ++ 32 ∷ words ++ codes "\r\n" ++ text ≡ codes "HTTP/1.1 " ++ code ++ codes " " ++ words ++ codes "\r\n" ++ text
lined code words text = simp append_assoc

in_turn : (s b c a l e : List ℕ) → s ++ ((b ++ (c ++ (a ++ l))) ++ e) ≡ s ++ b ++ c ++ a ++ l ++ e
in_turn s b c a l e = simp append_assoc

tree_printed : (s : ℕ) (allow : Option Allow) (size : Option ℕ) (cert : Option Cert) (last : Bool) → print_response (tree s allow size cert last) ≡ reply_head s allow size cert last
unfolding print_response
tree_printed s allow size cert last =
    let section = printed (fields s allow size cert last) ++ codes "\r\n" in
    lined (code_digits s) (phrase s) section
    ∙ (λ i. first s i ++ (fields_printed s allow size cert last i ++ codes "\r\n"))
    ∙ in_turn (status_line s) (body_lines s size) (certificate_line cert) (allow_line allow) (close_line last) (codes "\r\n")

tree_good : (s : ℕ) (allow : Option Allow) (size : Option ℕ) (cert : Option Cert) (last : Bool) → IsStatusCode s → IsResponseHead (tree s allow size cert last)
tree_good s allow size cert last code = record {
  minor = omega arith;
  digits = (refl, AllPass-from_list_all is_ascii_digit (code_digits s) (digits_good s code.1));
  reason = AllPass-from_list_all is_value_byte (phrase s) (phrase_good s code.1);
  fields = fields_good s allow size cert last;
}

pub certificate_law : CertificateLaw
certificate_law s allow size cert last behind rest h code fits reads =
    let made = tree s allow size cert last in
    let text = reply_head s allow size cert last ++ behind in
    let own : ReadsResponse text made behind = (tree_good s allow size cert last code, ap (λ x. x ++ behind) (sym (tree_printed s allow size cert last))) in
    let same = response_unique text h made rest behind reads own in
    ap (λ (h : ResponseHead). only_cert (shown h.fields)) same.0 ∙ ap only_cert (fields_shown s allow size cert last) ∙ certificate_shown cert fits
