-- What a word spells, by whether its decoded bytes are UTF-8, and that one of ASCII without an escape spells its own bytes.
use Rattle.std.proofs.Common.{◌≡◌, ℕ, Bool, true, false, not, List, [], ◌∷◌, Option, Some, None, if◌then◌else◌, ◌&&◌, ◌||◌, nat_eq, refl, sym, ◌∙◌}
use Rattle.std.proofs.lemmas.Bool.{true≢false, ltb-true}
use Rattle.std.specs.Char.{is_ascii}
use Rattle.std.specs.List.{list_all, list_any}
use Rattle.std.specs.Str.{IsAscii, IsUtf8, is_utf8}
use Rattle.std.proofs.lemmas.Str.{IsUtf8-from_ascii, IsUtf8-from_is_utf8, is_utf8-from_IsUtf8}
use Rattle.std.proofs.lemmas.Str.Ascii.{IsAscii-cons, IsAscii-nil}
use Rattle.percent_encoding.specs.Percent.{percent_decode}
use Rattle.disco_operations.specs.Decoding.{decoded_text}

-- the text that some bytes are, if they are UTF-8
abbrev text_of_bytes : List ℕ → Option (List ℕ)
text_of_bytes bytes = if is_utf8 bytes then Some bytes else None

if_true : (b : Bool) (t : List ℕ) → b ≡ true → Some t ≡ (if b then Some t else None)
if_true b t e = rw e refl

if_not : (b : Bool) (t : List ℕ) → (b ≡ true → ⊥) → None ≡ (if b then Some t else None)
if_not true t refute = absurd (refute refl)
if_not false t refute = refl

pub spelled : (word text bytes : List ℕ) → text ≡ bytes → bytes ≡ percent_decode word → IsUtf8 bytes → Some text ≡ decoded_text word
spelled word text bytes e f utf8 = rw (e, f) (if_true (is_utf8 (percent_decode word)) (percent_decode word) (is_utf8-from_IsUtf8 _ (rw f at utf8)))

pub misspelled : (word bytes : List ℕ) → bytes ≡ percent_decode word → (IsUtf8 bytes → ⊥) → None ≡ decoded_text word
misspelled word bytes f refute = if_not (is_utf8 (percent_decode word)) (percent_decode word) (λ yes. refute (rw f (IsUtf8-from_is_utf8 _ yes)))

no_escape : (p q r more : Bool) (xs ys : List ℕ) → (p || more) ≡ false → (if p && q && r then xs else ys) ≡ ys
no_escape false q r more xs ys none = refl
no_escape true q r more xs ys none = absurd (true≢false none)

none_behind : (p more : Bool) → (p || more) ≡ false → more ≡ false
none_behind false more none = none
none_behind true more none = absurd (true≢false none)

unescaped : (word : List ℕ) → list_any (λ b. nat_eq b 37) word ≡ false → percent_decode word ≡ word
unfolding percent_decode
unescaped [] none = refl
unescaped (b ∷ []) none = refl
unescaped (b ∷ c ∷ []) none = refl
unescaped (b ∷ high ∷ low ∷ rest) none =
    no_escape (nat_eq b 37) _ _ _ _ _ none ∙ (λ i. b ∷ unescaped (high ∷ low ∷ rest) (none_behind (nat_eq b 37) _ none) i)

plainly : (word : List ℕ) → list_any (λ b. nat_eq b 37) word ≡ false → text_of_bytes word ≡ decoded_text word
plainly word none = λ i. text_of_bytes (sym (unescaped word none) i)

-- a byte that a word may have as it stands
abbrev is_plain : ℕ → Bool
is_plain b = is_ascii b && not (nat_eq b 37)

plain_first : (ascii percent more : Bool) → ((ascii && not percent) && more) ≡ true → (ascii ≡ true) × (percent ≡ false) × (more ≡ true)
plain_first true false true plain = (refl, refl, refl)
plain_first true false false plain = absurd (true≢false (sym plain))
plain_first true true more plain = absurd (true≢false (sym plain))
plain_first false percent more plain = absurd (true≢false (sym plain))

no_percent : (percent more : Bool) → percent ≡ false → more ≡ false → (percent || more) ≡ false
no_percent percent more e f = rw (e, f) refl

plain_ascii : (word : List ℕ) → list_all is_plain word ≡ true → IsAscii word
plain_ascii [] plain = IsAscii-nil
plain_ascii (b ∷ bs) plain =
    let first = plain_first (is_ascii b) (nat_eq b 37) (list_all is_plain bs) plain in
    IsAscii-cons b bs (ltb-true _ _ first.0) (plain_ascii bs first.2)

plain_unescaped : (word : List ℕ) → list_all is_plain word ≡ true → list_any (λ b. nat_eq b 37) word ≡ false
plain_unescaped [] plain = refl
plain_unescaped (b ∷ bs) plain =
    let first = plain_first (is_ascii b) (nat_eq b 37) (list_all is_plain bs) plain in
    no_percent (nat_eq b 37) (list_any (λ b. nat_eq b 37) bs) first.1 (plain_unescaped bs first.2)

pub plain_utf8 : (word : List ℕ) → list_all is_plain word ≡ true → IsUtf8 word
plain_utf8 word plain = IsUtf8-from_ascii word (plain_ascii word plain)

pub spells_itself : (word : List ℕ) → list_all is_plain word ≡ true → Some word ≡ decoded_text word
spells_itself word plain = if_true (is_utf8 word) word (is_utf8-from_IsUtf8 _ (plain_utf8 word plain)) ∙ plainly word (plain_unescaped word plain)
